use Rattle.dump_values.proofs.Laws as laws
use Rattle.dump_values.specs.Values.{connect_from}
use mathlib.Core.Path.{◌∙◌, sym, ap}
use Prim.Native.Nat.{◌+◌, ◌-◌}
use Rattle.dump_values.proofs.table.connect.Goals as goal

pub loop-e-preserved : goal.loop-e-preserved
loop-e-preserved c = c.loop-e.invariant ∙ laws.connect-more _ _ _ c.loop-e-test.true ∙ ap (λ s. connect_from s c.args.n (c.loop-e.e + 1) (129 - (c.loop-e.e + 1))) (sym c.connect_entry.ensures)

pub returns : goal.returns
returns c = sym (c.loop-e.invariant ∙ laws.connect-end _ _ _ c.loop-e-test.false)
