-- Parts of the store, and one word of it that is set. Assumes nothing.
use mathlib.Core.Path.{◌≡◌, ◌∙◌, ap}
use mathlib.Core.List.{List, [], ◌∷◌, ◌++◌}
use Prim.Native.Nat.{ℕ, suc, ◌+◌, ◌-◌, ◌<◌, ◌≤◌}
use native.Mathlib.Omega.{arith}
use lib.ListN.{length, get_or, take, drop, set, length-drop}
use lib.Seq.{length-take-le, take-set-le, take-set-lt, take-suc-set, drop-set-lt, drop-set-add, get_or-take, get_or-drop}
use Rattle.dump_declared.specs.Declared.{part}

module _ (k n : ℕ) (store : List ℕ) where
  pub get_d_part : (i : ℕ) → i < n → get_or (part k n store) i 0 ≡ get_or store (k + i) 0
  unfolding part
  get_d_part i h = get_or-take n (drop k store) i 0 h ∙ get_or-drop k store i 0

  pub getD-first : (i : ℕ) → i < n → get_or (part 0 n store) i 0 ≡ get_or store i 0
  unfolding part
  getD-first i h = get_or-take n store i 0 h

  pub length_part : k + n ≤ length store → length (part k n store) ≡ n
  unfolding part
  length_part h = length-take-le n (drop k store) (simp length-drop (omega arith))

  -- a word is set in front of it, behind it, within it, or as its next word
  pub part-front : (i a : ℕ) → i < k → part k n (set store i a) ≡ part k n store
  unfolding part
  part-front i a h = ap (take n) (drop-set-lt k store i a h)

  set-drop : (i j a : ℕ) → i ≡ k + j → drop k (set store i a) ≡ set (drop k store) j a
  set-drop i j a e = rw e (drop-set-add k store j a)

  pub part-behind : (i a : ℕ) → k + n ≤ i → part k n (set store i a) ≡ part k n store
  unfolding part
  part-behind i a h = ap (take n) (set-drop i (i - k) a (omega arith)) ∙ take-set-le n (drop k store) (i - k) a (omega arith)

  pub part-within : (i j a : ℕ) → i ≡ k + j → j < n → part k n (set store i a) ≡ set (part k n store) j a
  unfolding part
  part-within i j a e h = ap (take n) (set-drop i j a e) ∙ take-set-lt n (drop k store) j a h

  pub part-next : (i a : ℕ) → i ≡ k + n → i < length store → part k (suc n) (set store i a) ≡ part k n store ++ (a ∷ [])
  unfolding part
  part-next i a e h = ap (take (suc n)) (set-drop i n a e) ∙ take-suc-set (drop k store) n a (simp length-drop (omega arith))
