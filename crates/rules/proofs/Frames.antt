-- Frames of given words of 32 bits are proper, and one in reset leaves the word 0 and does not fail. Assumes nothing.
use Prim.Native.Nat.{ℕ, zero, suc, ◌^◌, ◌<◌}
use mathlib.Core.Path.{◌≡◌, refl, ap, ◌∙◌}
use mathlib.Core.Bool.{true}
use mathlib.Core.List.{[], ◌∷◌}
use lib.Dec.{lit<}
use lib.ListN.{get_or}
use Rattle.rules.specs.declared.frame.Frame.{Frame}
use Rattle.rules.specs.declared.config.Config.{Config}
use Rattle.bits.specs.Bits.{bit, without}
use Rattle.bits.proofs.Bits.{without-none}
use Rattle.bus.specs.Range.{value_of}
use Rattle.bus.specs.declared.range.Range.{Range}
use Rattle.rules.specs.Frame.{Proper, up}
use Rattle.rules.specs.Rules.{going_row, going_word, failing}
use Rattle.rules.specs.Step.{going_step_row}
use Rattle.rules.specs.Possible.{LeftPassing}
use Rattle.rules.proofs.Rows.{zero-passes}

-- reset, P, Q, R, and the unknown wires of P
abbrev pub frame_with : ℕ → ℕ → ℕ → ℕ → ℕ → Frame
frame_with n p q r u = record { samples = n ∷ p ∷ q ∷ r ∷ 0 ∷ u ∷ 0 ∷ 0 ∷ [] }

-- all wires known
abbrev pub frame_of : ℕ → ℕ → ℕ → ℕ → Frame
frame_of n p q r = frame_with n p q r 0

pub with-proper : (n p q r u : ℕ) → n < 2 ^ 32 → p < 2 ^ 32 → q < 2 ^ 32 → r < 2 ^ 32 → u < 2 ^ 32 → Proper (frame_with n p q r u)
with-proper n p q r u hn hp hq hr hu = record { words = refl; small = small }
  where
    small : (i : ℕ) → get_or (n ∷ p ∷ q ∷ r ∷ 0 ∷ u ∷ 0 ∷ 0 ∷ []) i 0 < 2 ^ 32
    small zero = hn
    small (suc zero) = hp
    small (suc (suc zero)) = hq
    small (suc (suc (suc zero))) = hr
    small (suc (suc (suc (suc zero)))) = lit< tt
    small (suc (suc (suc (suc (suc zero))))) = hu
    small (suc (suc (suc (suc (suc (suc zero)))))) = lit< tt
    small (suc (suc (suc (suc (suc (suc (suc zero))))))) = lit< tt
    small (suc (suc (suc (suc (suc (suc (suc (suc i)))))))) = lit< tt

pub frame-proper : (n p q r : ℕ) → n < 2 ^ 32 → p < 2 ^ 32 → q < 2 ^ 32 → r < 2 ^ 32 → Proper (frame_of n p q r)
frame-proper n p q r hn hp hq hr = with-proper n p q r 0 hn hp hq hr (lit< tt)

-- a port of such a frame holds a value where its wires do
pub known-value : (r : Range) (wires v : ℕ) → value_of r wires ≡ v → value_of r (without wires 0) ≡ v
known-value r wires v e = ap (value_of r) (without-none wires) ∙ e

unfoldable pub zero_left : (c : Config) → LeftPassing c 0
unfolding going_row going_word up bit
zero_left c = record {
  trace = λ t. frame_of 0 0 0 0;
  cycle = 0;
  short = lit< tt;
  early = λ l. lit< tt;
  proper = λ t. frame-proper 0 0 0 0 (lit< tt) (lit< tt) (lit< tt) (lit< tt);
  leaves = refl;
  passes = λ t l. zero-passes;
}

-- a word that is left, and a frame on which the step from it fails
pub record FailsNext (c : Config) : Type 0 where
  pub word : ℕ
  pub left : LeftPassing c word
  pub room : suc left.cycle < 65536
  pub frame : Frame
  pub proper : Proper frame
  pub fails : failing (going_step_row c word frame) ≡ true
