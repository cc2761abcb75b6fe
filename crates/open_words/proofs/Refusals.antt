-- What the refusal number of a configuration and a word says of them. Assumes nothing.
use Prim.Native.Nat.{ℕ, ◌≤◌}
use mathlib.Core.Path.{◌≡◌, refl}
use mathlib.Core.Bool.{Bool, true, false, cond}
use native.Mathlib.Omega.{arith}
use borrow.Author.Tests.{eq-eqb, ne_eqb, eqb-true, eqb-false}
use lib.Dec.{T, eqb, lit≤}
use Rattle.bits.proofs.Tests.{of-true}
use Rattle.rules.specs.declared.config.Config.{Config}
use Rattle.rules.specs.Config.{config_refusal, Good}
use Rattle.rules.specs.Possible.{possible, word_refusal}
use Rattle.rules.proofs.Good.{refusal-low}

-- a refused configuration gives its number, and a good one leaves it to the word
pub config-refused : (c : Config) (w : ℕ) → (Good c → ⊥) → word_refusal c w ≡ config_refusal c
unfolding word_refusal
config-refused c w h = simp (ne_eqb (config_refusal c) 0 h)

pub word-decides : (c : Config) (w : ℕ) (b : Bool) → Good c → possible c w ≡ b → word_refusal c w ≡ cond b 0 7
unfolding word_refusal
word-decides c w b good e = simp (eq-eqb (config_refusal c) 0 good, e)

pub word-refusal-low : (c : Config) (w : ℕ) → word_refusal c w ≤ 7
unfolding word_refusal
word-refusal-low c w = by (eqb (config_refusal c) 0) (possible c w)
  where
    by : (a b : Bool) → cond a (cond b 0 7) (config_refusal c) ≤ 7
    by true true = lit≤ tt
    by true false = lit≤ tt
    by false b = omega (arith, refusal-low c)

pub record Accepted (c : Config) (w : ℕ) : Type 0 where
  pub good : Good c
  pub possible_word : T (possible c w)

-- what is not refused is a good configuration with a possible word
pub not_refused : (c : Config) (w : ℕ) → word_refusal c w ≡ 0 → Accepted c w
unfolding word_refusal
not_refused c w h = by (eqb (config_refusal c) 0) (possible c w) refl refl h
  where
    by : (a b : Bool) → eqb (config_refusal c) 0 ≡ a → possible c w ≡ b → cond a (cond b 0 7) (config_refusal c) ≡ 0 → Accepted c w
    by true true e f g = record { good = eqb-true (config_refusal c) 0 e; possible_word = of-true f }
    by true false e f g = absurd (omega arith)
    by false b e f g = absurd (eqb-false (config_refusal c) 0 e g)
