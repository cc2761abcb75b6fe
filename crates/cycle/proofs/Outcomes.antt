-- A step in reset, and a step out of it as its family's, of a checker that goes on. Assumes nothing.
use Prim.Native.Nat.{ℕ}
use mathlib.Core.Path.{◌≡◌}
use mathlib.Core.Bool.{true, false}
use Rattle.rules.specs.declared.config.Config.{Config}
use Rattle.rules.specs.declared.frame.Frame.{Frame}
use Rattle.rules.specs.Config.{Family, family}
use Rattle.rules.specs.Frame.{up}
use Rattle.rules.specs.Step.{going_step_row, going_step_word, StepsTo, Steps}
use Rattle.rules.proofs.Severity.{goes-steps}

module _ (c : Config) (w : ℕ) (f : Frame) (on : c.severity ≡ 0) where
  -- a cycle in reset: row 0 and word 0
  pub steps-in-reset : up f ≡ false → Steps c w f 0 0
  unfolding going_step_row going_step_word
  steps-in-reset e = goes-steps c on w f 0 0 (simp e) (simp e)

  -- out of reset: the step of the kind's family
  pub steps_of : (k : Family) (row next : ℕ) → up f ≡ true → family c.kind ≡ k → StepsTo k c w f row next → Steps c w f row next
  unfolding going_step_row going_step_word
  steps_of k row next e fam s = goes-steps c on w f row next (rw (e, fam) s.row_is) (rw (e, fam) s.word_is)
