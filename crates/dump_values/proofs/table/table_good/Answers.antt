use Rattle.dump_values.proofs.Laws as laws
use mathlib.Core.Path.{◌∙◌, sym}
use Rattle.dump_values.proofs.table.table_good.Goals as goal

pub returns-then-store-eq0 : goal.returns-then-store-eq0
returns-then-store-eq0 c = laws.no-clock c.args.store.now c.args.n c.if-store-eq0.true

pub loop-e-preserved : goal.loop-e-preserved
loop-e-preserved c = c.loop-e.invariant ∙ laws.good_more c.args.store.now _ _ c.loop-e-test.true (sym c.good_entry.ensures ∙ c.if-not-good_entry.false)

pub returns-then-not-good_entry : goal.returns-then-not-good_entry
returns-then-not-good_entry c = laws.table-not c.args.store.now _ _ c.if-store-eq0.false c.loop-e.invariant c.loop-e-test.true (sym c.good_entry.ensures ∙ c.if-not-good_entry.true)

pub returns : goal.returns
returns c = laws.table-all c.args.store.now _ _ c.if-store-eq0.false c.loop-e.invariant c.loop-e-test.false
