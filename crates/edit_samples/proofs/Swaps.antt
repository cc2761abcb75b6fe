-- Words of a trace that change places with lent samples: twice, they are back. Assumes nothing.
use Prim.Native.Nat.{ℕ, ◌+◌, ◌-◌, ◌≤◌, ◌<◌, zero-le}
use mathlib.Core.Path.{◌≡◌, ap, ◌∙◌}
use mathlib.Core.Bool.{true, false}
use mathlib.Core.List.{List}
use mathlib.Core.Logic.{⊎_elim}
use native.Mathlib.Omega.{arith}
use borrow.Author.Tests.{leb-true, leb-false, ltb-true, ltb-false}
use lib.Dec.{leb, ltb}
use lib.ListN.{length, get_or}
use lib.Seq.{ext_get_or}
use Rattle.bits.proofs.Tests.{either}
use Rattle.trace.specs.Runs.{Written}
use Rattle.edit_samples.specs.Samples.{Swapped}

-- entries a to e−1 written with those of the first list, and the others written by none, make that list
restored : (f g : ℕ → ℕ) (a e : ℕ) (l l' l'' : List ℕ) → Written f a e l l' → Written g a e l' l'' → ((t : ℕ) → a ≤ t → t < e → g t ≡ get_or l t 0) → l'' ≡ l
restored f g a e l l' l'' w v old = ext_get_or 0 l'' l (v.same_length ∙ w.same_length) (λ t _. ⊎_elim (from t) (λ p. below t (leb-false a t p)) (either (leb a t)))
  where
    below : (t : ℕ) → t < a → get_or l'' t 0 ≡ get_or l t 0
    below t h = v.below t h ∙ w.below t h

    from : (t : ℕ) → leb a t ≡ true → get_or l'' t 0 ≡ get_or l t 0
    from t p =
        let h = leb-true a t p in
        ⊎_elim (λ (q : ltb t e ≡ true). let k = ltb-true t e q in v.within t h k ∙ old t h k)
        (λ (q : ltb t e ≡ false). let k = ltb-false t e q in v.beyond t k ∙ w.beyond t k) (either (ltb t e))

module _
    {l s l' s' l'' s'' : List ℕ} {first : ℕ} (there : Swapped l s first l' s') (back : Swapped l' s' first l'' s'')
  where
    same : length s' ≡ length s
    same = there.samples_are.same_length

    pub trace-back : l'' ≡ l
    trace-back =
        restored _ _ first (first + length s) l l' l'' there.trace_is (rw same at back.trace_is)
        (λ t h k.
        let e : first + (t - first) ≡ t = omega arith in there.samples_are.within (t - first) zero-le (omega arith) ∙ ap (λ (j : ℕ). get_or l j 0) e)

    pub samples-back : s'' ≡ s
    samples-back =
        restored _ _ 0 (length s) s s' s'' there.samples_are (rw same at back.samples_are)
        (λ t h k. let e : first + t - first ≡ t = omega arith in there.trace_is.within (first + t) (omega arith) (omega arith) ∙ ap (λ (j : ℕ). get_or s j 0) e)
