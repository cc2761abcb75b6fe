-- The eight words of a sample: `sample-is` and `sample-lt`. Assumes nothing.
use mathlib.Core.Path.{◌≡◌}
use mathlib.Core.List.{List}
use Prim.Native.Nat.{ℕ, zero, suc, ◌+◌, ◌/◌, ◌%◌, ◌^◌, ◌<◌}
use native.Mathlib.Omega.{arith}
use lib.ListN.{get_or}
use Rattle.dump.specs.Changes.{word_of, frame_of}
use Rattle.dump_valued.specs.Valued.{Holds}
use Rattle.dump_valued.proofs.Put.{value-bit, unknown-bit}
use Rattle.dump_valued.proofs.Words.{word_lt}

module _ (store vs : List ℕ) (h : Holds 8458 8467 store vs) where
  pub sample-is : (j : ℕ) → j < 8 → get_or store (8458 + j) 0 ≡ get_or (frame_of vs) j 0
  unfolding frame_of
  sample-is zero l = h.values_are 0 (omega arith)
  sample-is (suc zero) l = h.values_are 1 (omega arith)
  sample-is (suc (suc zero)) l = h.values_are 2 (omega arith)
  sample-is (suc (suc (suc zero))) l = h.values_are 3 (omega arith)
  sample-is (suc (suc (suc (suc zero)))) l = h.unknown_are 0 (omega arith)
  sample-is (suc (suc (suc (suc (suc zero))))) l = h.unknown_are 1 (omega arith)
  sample-is (suc (suc (suc (suc (suc (suc zero)))))) l = h.unknown_are 2 (omega arith)
  sample-is (suc (suc (suc (suc (suc (suc (suc zero))))))) l = h.unknown_are 3 (omega arith)
  sample-is (suc (suc (suc (suc (suc (suc (suc (suc j)))))))) l = absurd (omega arith)

  values-lt : (w : ℕ) → word_of (λ v. v % 2) vs w < 2 ^ 32
  values-lt = word_lt (λ v. v % 2) value-bit vs h.each

  unknown-lt : (w : ℕ) → word_of (λ v. v / 2) vs w < 2 ^ 32
  unknown-lt = word_lt (λ v. v / 2) unknown-bit vs h.each

  pub frame-lt : (j : ℕ) → j < 8 → get_or (frame_of vs) j 0 < 2 ^ 32
  unfolding frame_of
  frame-lt zero l = values-lt 0
  frame-lt (suc zero) l = values-lt 1
  frame-lt (suc (suc zero)) l = values-lt 2
  frame-lt (suc (suc (suc zero))) l = values-lt 3
  frame-lt (suc (suc (suc (suc zero)))) l = unknown-lt 0
  frame-lt (suc (suc (suc (suc (suc zero))))) l = unknown-lt 1
  frame-lt (suc (suc (suc (suc (suc (suc zero)))))) l = unknown-lt 2
  frame-lt (suc (suc (suc (suc (suc (suc (suc zero))))))) l = unknown-lt 3
  frame-lt (suc (suc (suc (suc (suc (suc (suc (suc j)))))))) l = absurd (omega arith)

  pub sample-lt : (j : ℕ) → j < 8 → get_or store (8458 + j) 0 < 2 ^ 32
  sample-lt j l = rw (sample-is j l) (frame-lt j l)
