-- The search, over the first n codes. Assumes nothing.
use mathlib.Core.Path.{◌≡◌, refl, ◌∙◌, sym, ap}
use mathlib.Core.List.{List}
use Prim.Native.Nat.{ℕ, ◌+◌, ◌<◌, ◌≤◌}
use native.Mathlib.Omega.{arith}
use native.Mathlib.Nat.{add-zero}
use native.Mathlib.Numerals.{add-one}
use lib.ListN.{length, get_or, take, drop, drop_of_length-le}
use lib.Seq.{drop-cons, get_or-take, length-take-le}
use borrow.Author.Tests.{lt-ltb, le-ltb, eq-eqb, ne_eqb}
use Rattle.dump.specs.Declarations.{index_of}
use Rattle.dump_find.specs.Find.{slot, hinted, lookup}

module _ (l : List ℕ) (x i : ℕ) where
  hit : i < length l → get_or l i 0 ≡ x → index_of (drop i l) x ≡ 0
  unfolding index_of
  hit h e = rw (drop-cons l i 0 h) (simp (eq-eqb (get_or l i 0) x e))

  miss : i < length l → (get_or l i 0 ≡ x → ⊥) → i + index_of (drop i l) x ≡ i + 1 + index_of (drop (i + 1) l) x
  unfolding index_of
  miss h e = rw (drop-cons l i 0 h, add-one i) (simp (ne_eqb (get_or l i 0) x e) (omega arith))

  past : length l ≤ i → index_of (drop i l) x ≡ 0
  unfolding index_of
  past h = rw (drop_of_length-le l h) refl

-- what the search knows before place i: x is not among the first i codes
module _ (store : List ℕ) (long : length store ≡ 8468) (n : ℕ) (few : n ≤ 1024) (x i : ℕ) (inv : index_of (take n store) x ≡ i + index_of (drop i (take n store)) x) where
  here : i < n → i < length (take n store)
  here h = rw (length-take-le n store (omega arith)) h

  pub search-end : n ≤ i → i ≤ n → n ≡ index_of (take n store) x
  search-end h k =
      let same : n ≡ i = omega arith in
      same ∙ sym (inv ∙ ap (λ (k : ℕ). i + k) (past (take n store) x i (rw (length-take-le n store (omega arith)) h)) ∙ add-zero i)

  pub search-here : i < n → get_or store i 0 ≡ x → i ≡ index_of (take n store) x
  search-here h e = sym (inv ∙ ap (λ (k : ℕ). i + k) (hit (take n store) x i (here h) (get_or-take n store i 0 h ∙ e)) ∙ add-zero i)

  pub search-more : i < n → (get_or store i 0 ≡ x → ⊥) → index_of (take n store) x ≡ i + 1 + index_of (drop (i + 1) (take n store)) x
  search-more h e = inv ∙ miss (take n store) x i (here h) (λ g. e (sym (get_or-take n store i 0 h) ∙ g))

-- the three answers of the search with a hint, whose slot is s
module _ (store : List ℕ) (n x s : ℕ) (e : s ≡ slot x) where
  pub far : n ≤ get_or store (6144 + s) 0 → index_of (take n store) x ≡ lookup store n x
  unfolding lookup hinted
  far h = rw (← e) (simp (le-ltb (get_or store (6144 + s) 0) n h))

  module _ (h : get_or store (6144 + s) 0 < n) where
    pub near : get_or store (get_or store (6144 + s) 0) 0 ≡ x → get_or store (6144 + s) 0 ≡ lookup store n x
    unfolding lookup hinted
    near f = rw (← e) (simp (lt-ltb (get_or store (6144 + s) 0) n h, eq-eqb (get_or store (get_or store (6144 + s) 0) 0) x f))

    pub other : (get_or store (get_or store (6144 + s) 0) 0 ≡ x → ⊥) → index_of (take n store) x ≡ lookup store n x
    unfolding lookup hinted
    other f = rw (← e) (simp (lt-ltb (get_or store (6144 + s) 0) n h, ne_eqb (get_or store (get_or store (6144 + s) 0) 0) x f))
