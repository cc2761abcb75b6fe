use mathlib.Core.Path.{refl, ◌∙◌}
use native.Mathlib.Omega.{arith}
use Rattle.dump_reader.proofs.changes.past_good.Goals as goal

pub loop-c-init : goal.loop-c-init
loop-c-init c = (omega arith, c.requires.3, λ f h p q. refl)

pub good_one-next-requires : goal.good_one-next-requires
good_one-next-requires c = (c.loop-c.auto.store ∙ c.requires.0, c.requires.1, c.loop-c.auto.digits ∙ c.requires.2, c.loop-c-test.true)

pub returns-then-next-c : goal.returns-then-next-c
returns-then-next-c c = (omega (arith, c.loop-c.invariant.0, c.good_one-next.ensures.0), c.good_one-next.ensures.1, λ f h p q. c.loop-c.invariant.2 f h p q ∙ c.good_one-next.ensures.2 f h p q)

pub loop-c-smaller : goal.loop-c-smaller
loop-c-smaller c = omega (arith, c.good_one-next.ensures.0, c.good_one-next.ensures.1, c.if-next-c.false, c.loop-c-test.true)

pub loop-c-preserved : goal.loop-c-preserved
loop-c-preserved c = (omega (arith, c.loop-c.invariant.0, c.good_one-next.ensures.0), c.good_one-next.ensures.1, λ f h p q. c.loop-c.invariant.2 f h p q ∙ c.good_one-next.ensures.2 f h p q)
