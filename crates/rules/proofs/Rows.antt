-- Marks 1 and 2 are bits 0 and 1 of a row. Assumes nothing.
use Prim.Native.Nat.{ℕ, ◌+◌, ◌*◌, ◌%◌}
use mathlib.Core.Path.{◌≡◌, refl, ap, ◌∙◌}
use mathlib.Core.Bool.{Bool, true, false, not, ◌||◌, cond}
use native.Mathlib.Nat.{mod-one}
use native.Mathlib.Omega.{arith}
use lib.Dec.{eqb}
use Rattle.bits.specs.Bits.{to_bit, bit}
use Rattle.bits.proofs.Bits.{to_bit-lt, eqb-to_bit, bit-low, bit-double, mod-more}
use Rattle.rules.specs.declared.config.Config.{Config}
use Rattle.rules.specs.declared.frame.Frame.{Frame}
use Rattle.rules.specs.Config.{Family, family}
use Rattle.rules.specs.Frame.{Trace, up}
use Rattle.rules.specs.Rules.{Marks, row_of, marks_of, going_row, failing}
use Rattle.rules.specs.Step.{step_marks_of, going_step_row}

module _ (m : Marks) where
  abbrev rest : ℕ
  rest = to_bit m.opened + 2 * to_bit m.closed + 4 * to_bit m.restarted + 8 * to_bit m.unknown

  row-halves : row_of m ≡ (rest * 2 + to_bit m.illegal) * 2 + to_bit m.failure
  unfolding row_of
  row-halves = omega arith

  pub row-failure : bit (row_of m) 0 ≡ m.failure
  row-failure = rw (row-halves, bit-low (rest * 2 + to_bit m.illegal) (to_bit m.failure) (to_bit-lt m.failure)) (eqb-to_bit m.failure)

  pub row-illegal : bit (row_of m) 1 ≡ m.illegal
  row-illegal =
      rw row-halves
      (bit-double (rest * 2 + to_bit m.illegal) (to_bit m.failure) 0 (to_bit-lt m.failure)
      ∙ bit-low rest (to_bit m.illegal) (to_bit-lt m.illegal) ∙ eqb-to_bit m.illegal)

  failing-row : failing (row_of m) ≡ (m.failure || m.illegal)
  unfolding failing
  failing-row = rw (row-failure, row-illegal) refl

-- by the remainder of a row
pub low-marks : (row : ℕ) → not (eqb (row % 4) 0) ≡ failing row
unfolding failing
low-marks row = ap (λ (x : ℕ). not (eqb x 0)) low ∙ by (bit row 0) (bit row 1)
  where
    low : row % 4 ≡ to_bit (bit row 0) + to_bit (bit row 1) * 2
    low = omega (arith, mod-more row 0, mod-more row 1, mod-one row)

    by : (a b : Bool) → not (eqb (to_bit a + to_bit b * 2) 0) ≡ (a || b)
    by true true = refl
    by true false = refl
    by false true = refl
    by false false = refl

pub zero-passes : failing 0 ≡ false
unfolding failing bit
zero-passes = refl

-- neither mark, in reset or out of it
passes : (up : Bool) {j k : Family} → j ≡ k → (m : Family → Marks) → (m k).failure ≡ false → (m k).illegal ≡ false → failing (cond up (row_of (m j)) 0) ≡ false
passes true e m f i = rw e (failing-row (m _) ∙ rw (f, i) refl)
passes false e m f i = zero-passes

pub row-passes : (c : Config) (tr : Trace) (t : ℕ) (k : Family) → family c.kind ≡ k → (marks_of k c tr t).failure ≡ false → (marks_of k c tr t).illegal ≡ false
    → failing (going_row c tr t) ≡ false
unfolding going_row
row-passes c tr t k e f i = passes (up (tr t)) e (λ j. marks_of j c tr t) f i

pub step-passes : (c : Config) (w : ℕ) (f : Frame) (k : Family) → family c.kind ≡ k → (step_marks_of c w f k).failure ≡ false → (step_marks_of c w f k).illegal ≡ false
    → failing (going_step_row c w f) ≡ false
unfolding going_step_row
step-passes c w f k e h i = passes (up f) e (step_marks_of c w f) h i

pub step-fails : (c : Config) (w : ℕ) (f : Frame) (k : Family) → family c.kind ≡ k → up f ≡ true → (step_marks_of c w f k).failure ≡ true
    → failing (going_step_row c w f) ≡ true
unfolding going_step_row
step-fails c w f k e u h = rw (u, e) (failing-row (step_marks_of c w f k) ∙ rw h refl)
