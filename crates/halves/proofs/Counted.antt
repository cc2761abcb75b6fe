-- Laws of the marks counted over a stretch of rows: there are at most as many as rows, one more row counts one bit, the counts of the rows before it do not
-- see a store, and two stretches side by side count as one. Assumes nothing.
use Prim.Native.Nat.{ℕ, zero, suc, ◌+◌, ◌-◌, ◌≤◌, ◌<◌}
use mathlib.Core.Path.{◌≡◌, refl, ap, ap₂}
use mathlib.Core.Bool.{Bool, true, false, ◌&&◌}
use mathlib.Core.List.{List}
use mathlib.Core.Logic.{⊎_elim}
use native.Mathlib.Nat.{eq-or-lt_of_le, le_of_suc-le-suc, le_refl, le_step}
use native.Mathlib.Omega.{arith}
use borrow.Author.Tests.{le-leb, leb-true}
use lib.Dec.{leb}
use lib.ListN.{get_or}
use Rattle.bits.specs.Bits.{to_bit, bit}
use Rattle.bits.proofs.Bits.{to_bit-lt}
use Rattle.halves.specs.Rows.{count, marks_in}

pub marks-le : (l : List ℕ) (i a e : ℕ) → marks_in l i a e ≤ e - a
unfolding marks_in count
marks-le l i a zero = omega arith
marks-le l i a (suc e) = by (leb a e) refl (marks-le l i a e)
  where
    by : (b : Bool) → leb a e ≡ b → marks_in l i a e ≤ e - a → marks_in l i a e + to_bit (b && bit (get_or l e 0) i) ≤ suc e - a
    by true q h = omega (arith, leb-true a e q, to_bit-lt (bit (get_or l e 0) i))
    by false q h = omega arith

pub marks-none : (l : List ℕ) (i a : ℕ) → marks_in l i a a ≡ 0
marks-none l i a = omega (arith, marks-le l i a a)

-- the same rows have the same marks
pub marks-same : (l l' : List ℕ) (i a e : ℕ) → ((t : ℕ) → a ≤ t → t < e → get_or l t 0 ≡ get_or l' t 0) → marks_in l i a e ≡ marks_in l' i a e
unfolding marks_in count
marks-same l l' i a zero h = refl
marks-same l l' i a (suc e) h = ap₂ ◌+◌ (marks-same l l' i a e (λ t k m. h t k (le_step m))) (by (leb a e) refl)
  where
    by : (b : Bool) → leb a e ≡ b → to_bit (b && bit (get_or l e 0) i) ≡ to_bit (b && bit (get_or l' e 0) i)
    by true q = ap (λ (x : ℕ). to_bit (bit x i)) (h e (leb-true a e q) (le_refl (suc e)))
    by false q = refl

-- one more row
pub count-more : (l : List ℕ) (i a t : ℕ) → a ≤ t → marks_in l i a (suc t) ≡ marks_in l i a t + to_bit (bit (get_or l t 0) i)
unfolding marks_in count
count-more l i a t h = rw (le-leb a t h)

-- the marks of two stretches
pub marks-split : (l : List ℕ) (i a m e : ℕ) → a ≤ m → m ≤ e → marks_in l i a e ≡ marks_in l i a m + marks_in l i m e
marks-split l i a m zero h k = omega (arith, marks-le l i a 0, marks-le l i a m, marks-le l i m 0)
marks-split l i a m (suc e) h k =
    ⊎_elim (λ (q : m ≡ suc e). rw q (omega (arith, marks-none l i (suc e))))
    (λ (j : m < suc e).
    let r : m ≤ e = le_of_suc-le-suc j in
    omega (arith, marks-split l i a m e h r, count-more l i a e (omega arith), count-more l i m e r))
    (eq-or-lt_of_le k)
