use Rattle.dump_reader.proofs.RunLaws as runs
use mathlib.Core.Path.{refl, ◌∙◌}
use native.Mathlib.Omega.{arith}
use Rattle.dump_reader.proofs.run.vector_run.Goals as goal

pub loop-i-init : goal.loop-i-init
loop-i-init c = (omega arith, λ a g. refl)

pub loop-i-preserved : goal.loop-i-preserved
loop-i-preserved c = (omega arith, λ a g. c.loop-i.invariant.1 a g ∙ runs.vector-more _ _ c.loop-i-test.true (runs.digit-full _ (λ x. c.if-v-eq3.false (c.value_of-v.ensures ∙ x))) _ _ _ c.if-count-ge4096.false c.value_of-v.ensures c.if-v-eq3.false a g)
