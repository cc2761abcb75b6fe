use Rattle.dump_values.proofs.Laws as laws
use Rattle.dump_values.specs.Values.{change_from}
use mathlib.Core.Path.{◌∙◌, sym, ap}
use Prim.Native.Nat.{◌+◌, ◌-◌}
use Rattle.dump_values.proofs.span.change_bits.Goals as goal

pub loop-e-preserved : goal.loop-e-preserved
loop-e-preserved c = c.loop-e.invariant ∙ laws.change-more _ _ _ _ _ _ c.loop-e-test.true ∙ ap (λ s. change_from s c.args.digits.now c.args.count c.args.x (c.loop-e.e + 1) (c.span_end-to.result - (c.loop-e.e + 1))) (sym c.change_entry.ensures)

pub returns : goal.returns
returns c = sym (sym (laws.change-all c.args.store.now c.args.digits.now c.args.count c.args.x c.args.i _ _ c.span_start-from.ensures c.span_end-to.ensures.0) ∙ c.loop-e.invariant ∙ laws.change-end _ _ _ _ _ _ c.loop-e-test.false)
