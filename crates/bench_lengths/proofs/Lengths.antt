-- The refusals of a bench's lengths, in their order. Assumes nothing.
use Prim.Native.Nat.{ℕ, ◌*◌, ◌≤◌, ◌<◌}
use mathlib.Core.Path.{◌≡◌}
use mathlib.Core.Bool.{Bool, true, false, ◌&&◌, cond}
use mathlib.Core.Logic.{◌⊎◌, inl, inr}
use native.Mathlib.Omega.{arith}
use borrow.Author.Tests.{le-leb, lt-leb, leb-true, leb-false}
use lib.Dec.{leb, eqb, eqb→eq}
use Rattle.bits.proofs.Tests.{of-true, and_left, and_right, either}
use Rattle.rules.specs.Frame.{frame_words}
use Rattle.bench_lengths.specs.Lengths.{lengths_fit, lengths_refusal}

module _ (checkers frames words rows : ℕ) where
  pub too_many : 64 < checkers → lengths_refusal checkers frames words rows ≡ 9
  unfolding lengths_refusal
  too_many h = simp (lt-leb checkers 64 h)

  pub by-fit : (b : Bool) → checkers ≤ 64 → lengths_fit checkers frames words rows ≡ b → lengths_refusal checkers frames words rows ≡ cond b 0 5
  unfolding lengths_refusal
  by-fit b h e = simp (le-leb checkers 64 h, e)

  -- lengths that are not refused
  pub record Fitting : Type 0 where
    pub few : checkers ≤ 64
    pub frames_are : frames ≡ frame_words * checkers
    pub words_are : words ≡ checkers
    pub rows_are : rows ≡ checkers

  pub fitting : lengths_refusal checkers frames words rows ≡ 0 → Fitting
  unfolding lengths_refusal lengths_fit
  fitting h = by (either (leb checkers 64)) (either (lengths_fit checkers frames words rows))
    where
      by : (leb checkers 64 ≡ true) ⊎ (leb checkers 64 ≡ false) → (lengths_fit checkers frames words rows ≡ true) ⊎ (lengths_fit checkers frames words rows ≡ false) → Fitting
      by (inl few) (inl fit) =
          let all = of-true fit in
          let two = and_right (eqb frames (frame_words * checkers)) (eqb words checkers && eqb rows checkers) all in
          record {
            few = leb-true checkers 64 few;
            frames_are = eqb→eq frames (frame_words * checkers) (and_left (eqb frames (frame_words * checkers)) (eqb words checkers && eqb rows checkers) all);
            words_are = eqb→eq words checkers (and_left (eqb words checkers) (eqb rows checkers) two);
            rows_are = eqb→eq rows checkers (and_right (eqb words checkers) (eqb rows checkers) two);
          }
      by (inl few) (inr fit) = absurd (omega (arith, by-fit false (leb-true checkers 64 few) fit))
      by (inr many) fit = absurd (omega (arith, too_many (leb-false checkers 64 many)))
