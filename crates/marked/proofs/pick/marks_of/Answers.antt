-- `marked::pick::marks_of` meets its contract. The loop's invariant: the word is the number made of the rows passed, from the last of the 32 down. The measure is
-- what is left of them. Assumes nothing.
use Prim.Native.Nat.{ℕ, suc, ◌+◌, ◌-◌, ◌*◌, ◌%◌, ◌^◌, ◌≤◌, ◌<◌}
use mathlib.Core.Path.{◌≡◌, refl, subst⁻¹, ◌∙◌}
use mathlib.Core.Bool.{Bool}
use mathlib.Core.List.{List}
use native.Mathlib.Nat.{lt_of_lt_of_le}
use native.Mathlib.Numerals.{add-one}
use native.Mathlib.Omega.{arith}
use lib.ListN.{get_or}
use lib.Pow.{pow_mono}
use Rattle.bits.specs.Bits.{number}
use Rattle.bits.proofs.Bits.{number_lt}
use Rattle.marked.specs.Picks.{marked}
use Rattle.marked.proofs.Places.{marks-more, marks-same, marked-true, marked-false}
use Rattle.marked.proofs.pick.marks_of.Goals as goal
use Rattle.marked.proofs.pick.marks_of.Goals.{then-rows-first-ne0, else-rows-first-ne0}

pub loop-i-init : goal.loop-i-init
unfolding number
loop-i-init c = (omega arith, refl)

-- whether the row of a bit is marked
abbrev row_of : List ℕ → ℕ → ℕ → Bool
row_of rows first i = marked rows (first + (31 - i))

-- what a turn with a mark leaves in the word
more : (rows : List ℕ) (first i m : ℕ) → i < 32 → m ≡ number i (row_of rows first) → (get_or rows (first + (31 - i)) 0 % 4 ≡ 0 → ⊥)
    → m + (1 * 2 ^ i) % 2 ^ 32 ≡ number (suc i) (row_of rows first)
more rows first i m l e h = marks-more (row_of rows first) i m e (marked-true rows (first + (31 - i)) h) l

pub overflow_add-marks : goal.overflow_add-marks
overflow_add-marks c =
    let at = c.loop-i in
    let a = c.args in
    let i = at.i in
    let h : suc i ≤ 32 = omega arith in
    record {
      fits =
          subst⁻¹ (λ (x : ℕ). x < 2 ^ 32) (more a.rows.now a.first i at.marks (omega arith) at.invariant.1 c.if-rows-first-ne0.true)
          (lt_of_lt_of_le (number_lt (suc i) (row_of a.rows.now a.first)) (pow_mono h));
    }

pub loop-i-preserved : goal.loop-i-preserved
loop-i-preserved c =
    let at = c.loop-i in
    let a = c.args in (
      omega arith,
      rw (add-one at.i)
          (elim c.if-rows-first-ne0.branch [
            | then-rows-first-ne0 w ↦ w.marks-is ∙ more a.rows.now a.first at.i at.marks (omega arith) at.invariant.1 w.if-rows-first-ne0.true
            | else-rows-first-ne0 w ↦
                w.marks-is
                ∙ marks-same (row_of a.rows.now a.first) at.i at.marks at.invariant.1 (marked-false a.rows.now (a.first + (31 - at.i)) w.if-rows-first-ne0.false)
          ]),
    )

pub returns : goal.returns
returns c = let at = c.loop-i in let all : at.i ≡ 32 = omega arith in rw all at at.invariant.1
