-- Entries written up to a cycle: one more cycle stores one entry, and a later stretch stores more. Assumes nothing.
use Prim.Native.Nat.{ℕ, suc, ◌≤◌, ◌<◌}
use mathlib.Core.Path.{◌≡◌, refl, ◌∙◌}
use mathlib.Core.Bool.{true, false}
use mathlib.Core.List.{List}
use mathlib.Core.Logic.{⊎_elim}
use native.Mathlib.Nat.{eq-or-lt_of_le, le_of_suc-le-suc}
use native.Mathlib.Omega.{arith}
use borrow.Author.Tests.{ltb-true, ltb-false}
use lib.Dec.{ltb}
use lib.ListN.{length, get_or, set, length-set}
use lib.Seq.{get_or-set_same, get_or-set_other}
use Rattle.bits.proofs.Tests.{either}
use Rattle.trace.specs.Runs.{Written}

pub written_none : (f : ℕ → ℕ) (a : ℕ) (l : List ℕ) → Written f a a l l
written_none f a l = record {
  same_length = refl;
  below = λ t _. refl;
  within = λ t h k. absurd (omega arith);
  beyond = λ t _. refl;
}

pub written-more : (f : ℕ → ℕ) (a t : ℕ) (l l' : List ℕ) (x : ℕ) → a ≤ t → t < length l → x ≡ f t → Written f a t l l' → Written f a (suc t) l (set l' t x)
written-more f a t l l' x low high e w = record {
  same_length = length-set l' t x ∙ w.same_length;
  below = λ s h. get_or-set_other l' t s x 0 (omega arith) ∙ w.below s h;
  within = λ s h k. ⊎_elim stored (older s h) (eq-or-lt_of_le (le_of_suc-le-suc k));
  beyond = λ s h. get_or-set_other l' t s x 0 (omega arith) ∙ w.beyond s (omega arith);
}
  where
    stored : {s : ℕ} → s ≡ t → get_or (set l' t x) s 0 ≡ f s
    stored q = rw q (get_or-set_same l' t x 0 (omega (arith, w.same_length)) ∙ e)

    older : (s : ℕ) → a ≤ s → s < t → get_or (set l' t x) s 0 ≡ f s
    older s h k = get_or-set_other l' t s x 0 (omega arith) ∙ w.within s h k

-- entries written up to t, and then on to e
pub written_on : {f g : ℕ → ℕ} (a t e : ℕ) (l l' l'' : List ℕ) → a ≤ t → t ≤ e → ((k : ℕ) → t ≤ k → g k ≡ f k) → Written f a t l l' → Written g t e l' l''
    → Written f a e l l''
written_on {f} {g} a t e l l' l'' low high same w v = record {
  same_length = v.same_length ∙ w.same_length;
  below = λ s h. v.below s (omega arith) ∙ w.below s h;
  within = λ s h k.
      ⊎_elim (λ (p : ltb s t ≡ true). let b = ltb-true s t p in v.below s b ∙ w.within s h b)
      (λ (p : ltb s t ≡ false). let b = ltb-false s t p in v.within s b k ∙ same s b) (either (ltb s t));
  beyond = λ s h. v.beyond s h ∙ w.beyond s (omega arith);
}
