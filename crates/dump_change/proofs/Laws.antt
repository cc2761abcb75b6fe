-- Laws that the proofs of the changes' words cite: loops over the eight words of a frame. Assumes nothing.
use mathlib.Core.Path.{◌≡◌, refl, ◌∙◌}
use mathlib.Core.List.{List}
use Prim.Native.Nat.{ℕ, suc, ◌+◌, ◌-◌, ◌*◌, ◌%◌, ◌^◌, ◌<◌, ◌≤◌}
use native.Mathlib.Omega.{arith}
use lib.ListN.{get_or, set}
use Rattle.dump_change.specs.Change.{sample_from, open_from, opened}

module _ (store frames : List ℕ) (k j : ℕ) where
  pub sample-more : j < 8 → sample_from store frames k j (8 - j) ≡ sample_from store (set frames (8 * k + j) (get_or store (8458 + j) 0 % 2 ^ 32)) k (j + 1) (8 - (j + 1))
  unfolding sample_from
  sample-more h =
      let one : j + 1 ≡ suc j = omega arith in
      let left : 8 - j ≡ suc (8 - (j + 1)) = omega arith in
      rw (left, one) refl

  pub sample-end : 8 ≤ j → sample_from store frames k j (8 - j) ≡ frames
  unfolding sample_from
  sample-end h = let none : 8 - j ≡ 0 = omega arith in rw none refl

module _ (store : List ℕ) (j : ℕ) where
  pub open_more : j < 8 → open_from store j (8 - j) ≡ open_from (set store (8458 + j) (get_or store (8450 + j) 0)) (j + 1) (8 - (j + 1))
  unfolding open_from
  open_more h =
      let one : j + 1 ≡ suc j = omega arith in
      let left : 8 - j ≡ suc (8 - (j + 1)) = omega arith in
      rw (left, one) refl

  open-end : 8 ≤ j → open_from store j (8 - j) ≡ store
  unfolding open_from
  open-end h = let none : 8 - j ≡ 0 = omega arith in rw none refl

-- the store behind the loop, with the clock
pub open-all : (store₀ store : List ℕ) (j : ℕ) → open_from store₀ 0 8 ≡ open_from store j (8 - j) → 8 ≤ j → set store 8467 (get_or store 8466 0) ≡ opened store₀
unfolding opened
open-all store₀ store j inv h = let e : open_from store₀ 0 8 ≡ store = inv ∙ open-end store j h in rw e refl
