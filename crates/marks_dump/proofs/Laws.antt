-- Laws of bits set in the reset words of frames, one frame after the other. Assumes nothing.
use mathlib.Core.Path.{◌≡◌, refl}
use mathlib.Core.List.{List}
use Prim.Native.Nat.{ℕ, suc, ◌+◌, ◌-◌, ◌*◌, ◌<◌, ◌≤◌}
use native.Mathlib.Omega.{arith}
use lib.ListN.{get_or, set}
use lib.Bits.{bit_or}
use Rattle.marks_dump.specs.Taken.{with_bits}

module _ (fs : List ℕ) (bits n t : ℕ) where
  pub bits-more : t < n → with_bits fs t bits (n - t) ≡ with_bits (set fs (8 * t) (bit_or (get_or fs (8 * t) 0) bits)) (t + 1) bits (n - (t + 1))
  unfolding with_bits
  bits-more h = let left : n - t ≡ suc (n - (t + 1)) = omega arith in rw left refl

  pub bits-end : n ≤ t → with_bits fs t bits (n - t) ≡ fs
  unfolding with_bits
  bits-end h = let none : n - t ≡ 0 = omega arith in rw none refl
