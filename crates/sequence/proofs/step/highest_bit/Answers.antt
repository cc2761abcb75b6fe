-- `sequence::step::highest_bit` meets its contract: what is left of the word above bit k is that bit. Assumes nothing.
use Prim.Native.Nat.{ℕ, suc, ◌/◌, ◌^◌, ◌<◌}
use mathlib.Core.Path.{◌≡◌, sym, ◌∙◌}
use native.Mathlib.Nat.{mod-eq_of_lt, two-pow-succ, div-lt_iff_lt-mul}
use native.Mathlib.Omega.{arith}
use lib.Pow.{pow_pos}
use Rattle.bits.specs.Bits.{to_bit, bit}
use Rattle.bits.proofs.Bits.{bit-digit}
use Rattle.sequence.proofs.step.highest_bit.Goals as goal

-- of a word of k + 1 digits the highest is left by the division
top_digit : (x k : ℕ) → x < 2 ^ suc k → (x / 2 ^ k ≡ to_bit (bit x k)) × (x / 2 ^ k < 2)
top_digit x k h =
    let low : x / 2 ^ k < 2 = (div-lt_iff_lt-mul (pow_pos k)).1 (omega (arith, two-pow-succ k)) in
    (sym (bit-digit x k ∙ mod-eq_of_lt low), low)

pub overflow_shr-result : goal.overflow_shr-result
overflow_shr-result c = c.requires.0

pub overflow_cast-result-2 : goal.overflow_cast-result-2
overflow_cast-result-2 c = omega (arith, top_digit c.args.x c.args.k c.requires.1)

pub returns : goal.returns
returns c =
    let top = top_digit c.args.x c.args.k c.requires.1 in
    (top.0, omega (arith, top.1))
