-- Things one behind the other, their first and the rest, and the text of lines one behind the other. Assumes nothing.
use Prim.Native.Nat.{ℕ, zero, suc, ◌+◌, ◌-◌, ◌<◌, ◌≤◌}
use mathlib.Core.Path.{◌≡◌, refl, sym, ap, ap₂, ◌∙◌}
use mathlib.Core.List.{List, [], ◌∷◌, ◌++◌, append_assoc}
use native.Mathlib.Omega.{arith}
use Rattle.waves.specs.Text.{line, text, each}

module _ {A : Type 0} where
  pub each_append : (f : ℕ → List A) (j m p : ℕ) → each f j (m + p) ≡ each f j m ++ each f (j + m) p
  unfolding each
  each_append f j zero p = rw (z p, y j)
    where
      z : (p : ℕ) → 0 + p ≡ p
      z p = omega arith

      y : (j : ℕ) → j + 0 ≡ j
      y j = omega arith
  each_append f j (suc m) p =
      let a : suc m + p ≡ suc (m + p) = omega arith in
      let b : suc j + m ≡ j + suc m = omega arith in
      rw (a, each_append f (suc j) m p, b, append_assoc)

  -- the first of those from j up to n
  pub each_first : (f : ℕ → List A) (j n : ℕ) → j < n → each f j (n - j) ≡ f j ++ each f (suc j) (n - suc j)
  unfolding each
  each_first f j n h = let e : n - j ≡ suc (n - suc j) = omega arith in ap (each f j) e

  -- from n up to n there is none
  pub each_none : (f : ℕ → List A) (j n : ℕ) → n ≤ j → each f j (n - j) ≡ []
  unfolding each
  each_none f j n h = let e : n - j ≡ 0 = omega arith in ap (each f j) e

  pub each_same : (f g : ℕ → List A) (j k m : ℕ) → ((i : ℕ) → i < m → f (j + i) ≡ g (k + i)) → each f j m ≡ each g k m
  unfolding each
  each_same f g j k zero h = refl
  each_same f g j k (suc m) h =
      let p : j + 0 ≡ j = omega arith in
      let q : k + 0 ≡ k = omega arith in
      let first : f j ≡ g k = rw (p, q) at (h 0 (omega arith)) in
      ap₂ (λ (x y : List A). x ++ y) first (each_same f g (suc j) (suc k) m (λ i l. (let a : suc j + i ≡ j + suc i = omega arith in let b : suc k + i ≡ k + suc i = omega arith in rw (a, b) (h (suc i) (omega arith)))))

pub text-append : (ls ms : List (List (List ℕ))) → text (ls ++ ms) ≡ text ls ++ text ms
unfolding text
text-append [] ms = refl
text-append (l ∷ ls) ms = rw (text-append ls ms, append_assoc)

pub text-each : (f : ℕ → List (List (List ℕ))) (j m : ℕ) → text (each f j m) ≡ each (λ i. text (f i)) j m
unfolding text each
text-each f j zero = refl
text-each f j (suc m) = text-append (f j) (each f (suc j) m) ∙ ap (λ (l : List ℕ). text (f j) ++ l) (text-each f (suc j) m)
