-- The laws of accepted starts, failures and doubts, for every kind: a start is accepted unless the kind ignores starts and an accepted check is pending; and where
-- no check is violated, or in doubt, in its own start cycle, the checks that are so are earlier ones. Assumes nothing.
use Prim.Native.Nat.{ℕ, zero, suc, ◌<◌}
use mathlib.Core.Path.{◌≡◌, refl, ap, subst⁻¹, ◌∙◌}
use mathlib.Core.Bool.{Bool, false, not, ◌&&◌, ◌||◌, or-false}
use mathlib.Core.List.{[], ◌∷◌}
use mathlib.Core.Logic.{⊎_elim}
use native.Mathlib.Nat.{not-suc-le-zero, eq-or-lt_of_le, le_of_suc-le-suc}
use native.Mathlib.Numerals.{add-one}
use lib.ListN.{length, get_or, length-append, get_or-append}
use lib.Seq.{get_or_at}
use Rattle.bits.specs.Bits.{some}
use Rattle.bits.proofs.Tests.{some-ext}
use Rattle.rules.specs.Checks.{Checks, accept, accepted_before, accepted, busy, fails, doubts}

module _ (k : Checks) where
  before-length : (t : ℕ) → length (accepted_before k t) ≡ t
  unfolding accepted_before
  before-length zero = refl
  before-length (suc t) =
      length-append (accepted_before k t) (accept k (accepted_before k t) t ∷ []) ∙ add-one (length (accepted_before k t)) ∙ ap suc (before-length t)

  -- the list says of each earlier cycle whether its start is accepted
  before_at : (t s : ℕ) → s < t → get_or (accepted_before k t) s false ≡ accepted k s
  unfolding accepted_before accepted
  before_at zero s h = absurd (not-suc-le-zero h)
  before_at (suc t) s h =
      ⊎_elim
      (λ (e : s ≡ t).
      subst⁻¹ (λ (u : ℕ). get_or (accepted_before k (suc t)) u false ≡ accepted k u) e
      (get_or_at (accepted_before k t) (accept k (accepted_before k t) t) [] false t (before-length t)))
      (λ (l : s < t).
      get_or-append (accepted_before k t) (accept k (accepted_before k t) t ∷ []) false s (subst⁻¹ (λ (n : ℕ). s < n) (before-length t) l)
      ∙ before_at t s l)
      (eq-or-lt_of_le (le_of_suc-le-suc h))

  pub accepted-law : (t : ℕ) → accepted k t ≡ (k.starts t && not (k.ignores && busy k t))
  unfolding accepted accept busy
  accepted-law t =
      ap (λ (b : Bool). k.starts t && not (k.ignores && b))
      (some-ext t (λ s. get_or (accepted_before k t) s false && k.pending s t) (λ s. accepted k s && k.pending s t)
      (λ s l. ap (λ (b : Bool). b && k.pending s t) (before_at t s l)))

  -- an accepted check of which g holds in t
  earlier : (g : ℕ → ℕ → Bool) (t : ℕ) → (accepted k t && g t t) ≡ false → some (suc t) (λ s. accepted k s && g s t) ≡ some t (λ s. accepted k s && g s t)
  unfolding some
  earlier g t e = let before = some t (λ s. accepted k s && g s t) in ap (λ (b : Bool). before || b) e ∙ or-false before

  pub fails-earlier : (t : ℕ) → (accepted k t && k.violated t t) ≡ false → fails k t ≡ some t (λ s. accepted k s && k.violated s t)
  unfolding fails
  fails-earlier = earlier k.violated

  pub doubts-earlier : (t : ℕ) → (accepted k t && k.doubtful t t) ≡ false → doubts k t ≡ some t (λ s. accepted k s && k.doubtful s t)
  unfolding doubts
  doubts-earlier = earlier k.doubtful
