-- Lists in ascending order: each member stands before all behind it. Two such lists in a row are one, where each member of the first stands before each of the
-- second; so `chosen` is one, by induction. With it, the members of a list and their indices, and the members of `chosen`. Assumes nothing.
use Prim.Native.Nat.{ℕ, zero, suc, ◌<◌, suc-le-suc, zero-le}
use mathlib.Core.Path.{◌≡◌, refl, sym, subst}
use mathlib.Core.Bool.{Bool, true, false, cond}
use mathlib.Core.List.{List, [], ◌∷◌, ◌++◌, map, Memᴰ}
use mathlib.Core.Logic.{⊎_elim}
use native.Mathlib.Nat.{le_of_suc-le-suc, not-suc-le-zero, eq-or-lt_of_le, le_step}
use native.Mathlib.Omega.{arith}
use lib.Dec.{T}
use lib.ListN.{length, get_or}
use Rattle.listed.specs.Lists.{chosen}

-- ---- members and indices

module _ {A : Type 0} where
  pub member-at : (xs : List A) (i : ℕ) (d : A) → i < length xs → Memᴰ (get_or xs i d) xs
  member-at [] i d l = absurd (not-suc-le-zero l)
  member-at (x ∷ xs) zero d l = mathlib.Core.List.Memᴰ.head refl
  member-at (x ∷ xs) (suc i) d l = mathlib.Core.List.Memᴰ.tail (member-at xs i d (le_of_suc-le-suc l))

  pub index_of : {x : A} {xs : List A} (d : A) → Memᴰ x xs → (i : ℕ) × (i < length xs) × (get_or xs i d ≡ x)
  index_of d (mathlib.Core.List.Memᴰ.head e) = (zero, suc-le-suc zero-le, sym e)
  index_of d (mathlib.Core.List.Memᴰ.tail m) = let r = index_of d m in (suc r.0, suc-le-suc r.1, r.2)

-- ---- ascending lists

module _ {A : Type 0} where
  abbrev pub Ascending : (A → A → Type 0) → List A → Type 0
  Ascending R [] = Unit {0}
  Ascending R (x ∷ xs) = ((y : A) → Memᴰ y xs → R x y) × Ascending R xs

module _ {A : Type 0} (R : A → A → Type 0) where
  pub ascending-append : (xs ys : List A) → Ascending R xs → Ascending R ys → ((x y : A) → Memᴰ x xs → Memᴰ y ys → R x y)
      → Ascending R (xs ++ ys)
  ascending-append [] ys h k across = k
  ascending-append (x ∷ xs) ys h k across = (
    λ y m. ⊎_elim (h.0 y) (across x y (mathlib.Core.List.Memᴰ.head refl)) (mathlib.Core.List.Memᴰ.append_cases xs m),
    ascending-append xs ys h.1 k (λ a b m. across a b (mathlib.Core.List.Memᴰ.tail m)),
  )

  pub ascending-at : (d : A) (xs : List A) → Ascending R xs → (i j : ℕ) → i < j → j < length xs → R (get_or xs i d) (get_or xs j d)
  ascending-at d [] h i j l low = absurd (not-suc-le-zero low)
  ascending-at d (x ∷ xs) h i zero l low = absurd (not-suc-le-zero l)
  ascending-at d (x ∷ xs) h zero (suc j) l low = h.0 (get_or xs j d) (member-at xs j d (le_of_suc-le-suc low))
  ascending-at d (x ∷ xs) h (suc i) (suc j) l low = ascending-at d xs h.1 i j (le_of_suc-le-suc l) (le_of_suc-le-suc low)

pub ascending-map : {A B : Type 0} (R : A → A → Type 0) (S : B → B → Type 0) (f : A → B) → ((x y : A) → R x y → S (f x) (f y))
    → (xs : List A) → Ascending R xs → Ascending S (map f xs)
ascending-map R S f keeps [] h = tt
ascending-map R S f keeps (x ∷ xs) h =
    (λ y m. let r = mathlib.Core.List.Memᴰ.of_map f xs m in subst (S (f x)) r.2 (keeps x r.0 (h.0 r.0 r.1)), ascending-map R S f keeps xs h.1)

-- ---- `chosen`

last : (k : ℕ) (b : Bool) (s : ℕ) → Memᴰ s (cond b (k ∷ []) []) → (s ≡ k) × T b
last k true s m = (mathlib.Core.List.Memᴰ.eq_of_singleton m, tt)
last k false s m = absurd (mathlib.Core.List.Memᴰ.not-nil m)

pub chosen-holds : (k : ℕ) (f : ℕ → Bool) (s : ℕ) → Memᴰ s (chosen k f) → (s < k) × T (f s)
unfolding chosen
chosen-holds zero f s m = absurd (mathlib.Core.List.Memᴰ.not-nil m)
chosen-holds (suc k) f s m =
    ⊎_elim (λ (n : Memᴰ s (chosen k f)). let r = chosen-holds k f s n in (le_step r.0, r.1))
    (λ (n : Memᴰ s (cond (f k) (k ∷ []) [])). let r = last k (f k) s n in (omega arith, rw r.0 r.1))
    (mathlib.Core.List.Memᴰ.append_cases (chosen k f) m)

pub chosen-member : (k : ℕ) (f : ℕ → Bool) (s : ℕ) → s < k → T (f s) → Memᴰ s (chosen k f)
unfolding chosen
chosen-member zero f s l h = absurd (not-suc-le-zero l)
chosen-member (suc k) f s l h =
    ⊎_elim
    (λ (e : s ≡ k). mathlib.Core.List.Memᴰ.append_right (chosen k f) (new (f k) e (subst (λ (j : ℕ). T (f j)) e h)))
    (λ (l' : s < k). mathlib.Core.List.Memᴰ.append_left (cond (f k) (k ∷ []) []) (chosen-member k f s l' h))
    (eq-or-lt_of_le (le_of_suc-le-suc l))
  where
    new : (b : Bool) → s ≡ k → T b → Memᴰ s (cond b (k ∷ []) [])
    new true e t = mathlib.Core.List.Memᴰ.head e
    new false e t = absurd t

pub chosen-ascending : (k : ℕ) (f : ℕ → Bool) → Ascending (λ (s u : ℕ). s < u) (chosen k f)
unfolding chosen
chosen-ascending zero f = tt
chosen-ascending (suc k) f =
    ascending-append (λ (s u : ℕ). s < u) (chosen k f) (cond (f k) (k ∷ []) []) (chosen-ascending k f) (single (f k))
    (λ s u m n. omega (arith, chosen-holds k f s m, last k (f k) u n))
  where
    single : (b : Bool) → Ascending (λ (s u : ℕ). s < u) (cond b (k ∷ []) [])
    single true = (λ u m. absurd (mathlib.Core.List.Memᴰ.not-nil m), tt)
    single false = tt
