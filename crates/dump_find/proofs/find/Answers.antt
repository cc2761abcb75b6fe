use Rattle.dump_find.proofs.Laws as laws
use Rattle.dump_find.specs.Find.{hinted, lookup}
use mathlib.Core.Path.{◌∙◌}
use Rattle.dump_find.proofs.find.Goals as goal

pub returns-then-h-n : goal.returns-then-h-n
unfolding hinted lookup
returns-then-h-n c = c.search.ensures ∙ laws.far c.args.store.now _ _ _ c.slot_of-s.ensures.0 c.if-h-n.true

pub returns-then-store-i : goal.returns-then-store-i
unfolding hinted lookup
returns-then-store-i c = laws.near c.args.store.now _ _ _ c.slot_of-s.ensures.0 c.if-h-n.false c.if-store-i.true

pub returns : goal.returns
unfolding hinted lookup
returns c = c.search-2.ensures ∙ laws.other c.args.store.now _ _ _ c.slot_of-s.ensures.0 c.if-h-n.false c.if-store-i.false
