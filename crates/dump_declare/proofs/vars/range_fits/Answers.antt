use Rattle.dump_declare.proofs.Laws as laws
use Rattle.dump_declare.specs.Declare.{range_fits}
use Rattle.dump_declare.proofs.vars.range_fits.Goals as goal

pub returns-then-width-eq0 : goal.returns-then-width-eq0
unfolding range_fits
returns-then-width-eq0 c = laws.no-width _ c.args.left c.args.right c.if-width-eq0.true

pub returns-then-left-right : goal.returns-then-left-right
unfolding range_fits
returns-then-left-right c = laws.ascending _ _ _ c.if-width-eq0.false c.if-left-right.true

pub returns : goal.returns
unfolding range_fits
returns c = laws.descending _ _ _ c.if-width-eq0.false c.if-left-right.false
