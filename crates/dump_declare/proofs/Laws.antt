-- Laws that the proofs of the declarations' words cite. Assumes nothing.
use mathlib.Core.Path.{◌≡◌, refl, ◌∙◌, sym}
use mathlib.Core.Bool.{Bool, true, false}
use mathlib.Core.List.{List}
use Prim.Native.Nat.{ℕ, suc, ◌+◌, ◌-◌, ◌<◌, ◌≤◌}
use native.Mathlib.Omega.{arith}
use lib.Dec.{eqb}
use borrow.Author.Tests.{eq-eqb, ne_eqb, eqb-true, eqb-false, lt-ltb, le-ltb}
use Rattle.dump.specs.Ranges.{distance}
use Rattle.dump_find.specs.Find.{bounded, lookup}
use Rattle.dump_declare.specs.declared.head.Head.{Head}
use Rattle.dump_declare.specs.Declare.{at, commanded, range_fits, declare_again, declare_new, found_at, declared_head, declared_store}

-- two tests of numbers that say the same
same_test : (a b c d : ℕ) (t : Bool) → eqb a b ≡ t → (a ≡ b → c ≡ d) → (c ≡ d → a ≡ b) → eqb a b ≡ eqb c d
same_test a b c d true e f g = e ∙ sym (eq-eqb c d (f (eqb-true a b e)))
same_test a b c d false e f g = e ∙ sym (ne_eqb c d (λ h. eqb-false a b e (g h)))

module _ (width left right : ℕ) where
  pub no-width : width ≡ 0 → false ≡ range_fits width left right
  unfolding range_fits
  no-width e = sym (ne_eqb (suc (distance left right)) width (λ h. omega (arith, e, h)))

  pub ascending : (width ≡ 0 → ⊥) → left < right → eqb (right - left) (width - 1) ≡ range_fits width left right
  unfolding range_fits
  ascending e h = same_test (right - left) (width - 1) (suc (distance left right)) width (eqb (right - left) (width - 1)) refl (λ f. omega (arith, e, h, f)) (λ f. omega (arith, e, h, f))

  pub descending : (width ≡ 0 → ⊥) → right ≤ left → eqb (left - right) (width - 1) ≡ range_fits width left right
  unfolding range_fits
  descending e h = same_test (left - right) (width - 1) (suc (distance left right)) width (eqb (left - right) (width - 1)) refl (λ f. omega (arith, e, h, f)) (λ f. omega (arith, e, h, f))

-- a code that is declared, of which the search found place i among n
module _ (h : Head) (store : List ℕ) (n i : ℕ) (en : n ≡ bounded h.codes) (ei : i ≡ lookup store n h.code) where
  pub again : i < n → (commanded 0 h.depth h.vars h.codes ≡ declared_head h store) × (declare_again h i store ≡ declared_store h store)
  unfolding declared_head declared_store found_at
  again k = rw (← en, ← ei) (simp (lt-ltb i n k), simp (lt-ltb i n k))

  module _ (k : n ≤ i) where
    pub full : 1024 ≤ n → (at h 112 ≡ declared_head h store) × (store ≡ declared_store h store)
    unfolding declared_head declared_store found_at
    full m = rw (← en, ← ei) (simp (le-ltb i n k, le-ltb n 1024 m), simp (le-ltb i n k, le-ltb n 1024 m))

    pub fresh : n < 1024 → (commanded 0 h.depth h.vars (n + 1) ≡ declared_head h store) × (declare_new h n store ≡ declared_store h store)
    unfolding declared_head declared_store found_at
    fresh m = rw (← en, ← ei) (simp (le-ltb i n k, lt-ltb n 1024 m), simp (le-ltb i n k, lt-ltb n 1024 m))
