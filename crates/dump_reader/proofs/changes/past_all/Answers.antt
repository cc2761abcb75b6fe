use mathlib.Core.Path.{refl, ◌∙◌}
use native.Mathlib.Omega.{arith}
use Rattle.dump_reader.proofs.changes.past_all.Goals as goal

pub loop-c-init : goal.loop-c-init
loop-c-init c = (omega arith, c.requires.4, λ h p q. refl)

pub past_good-d-requires : goal.past_good-d-requires
past_good-d-requires c = (c.loop-c.auto.store ∙ c.requires.0, c.requires.1, c.loop-c.auto.digits ∙ c.requires.2, c.loop-c.invariant.1)

pub returns-then-d-bytes : goal.returns-then-d-bytes
returns-then-d-bytes c = (omega (arith, c.loop-c.invariant.0, c.past_good-d.ensures.0), c.past_good-d.ensures.1, λ h p q. c.loop-c.invariant.2 h p q ∙ c.past_good-d.ensures.2 _ h p q)

pub past_one-next-requires : goal.past_one-next-requires
past_one-next-requires c = (c.past_good-d.auto.store ∙ c.loop-c.auto.store ∙ c.requires.0, c.requires.1, c.past_good-d.auto.digits ∙ c.loop-c.auto.digits ∙ c.requires.2, omega (arith, c.loop-c.auto.frames, c.requires.3), c.if-d-bytes.false)

pub returns-then-next-c : goal.returns-then-next-c
returns-then-next-c c = (omega (arith, c.loop-c.invariant.0, c.past_good-d.ensures.0, c.past_one-next.ensures.0), c.past_one-next.ensures.1, λ h p q. c.loop-c.invariant.2 h p q ∙ c.past_good-d.ensures.2 _ h p q ∙ c.past_one-next.ensures.2 h p q)

pub loop-c-smaller : goal.loop-c-smaller
loop-c-smaller c = omega (arith, c.past_good-d.ensures.0, c.past_one-next.ensures.0, c.past_one-next.ensures.1, c.if-next-c.false, c.loop-c-test.true)

pub loop-c-preserved : goal.loop-c-preserved
loop-c-preserved c = (omega (arith, c.loop-c.invariant.0, c.past_good-d.ensures.0, c.past_one-next.ensures.0), c.past_one-next.ensures.1, λ h p q. c.loop-c.invariant.2 h p q ∙ c.past_good-d.ensures.2 _ h p q ∙ c.past_one-next.ensures.2 h p q)
