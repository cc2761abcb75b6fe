-- The number that is kept of a word is the word's: `number-of`. Assumes nothing.
use mathlib.Core.Path.{◌≡◌, refl, ◌∙◌, sym, ap}
use mathlib.Core.Bool.{Bool, true, false, cond, ◌&&◌}
use mathlib.Core.List.{List, [], ◌∷◌}
use Prim.Native.Nat.{ℕ, ◌+◌, ◌-◌, ◌*◌, ◌^◌}
use native.Mathlib.Omega.{arith}
use lib.Dec.{ltb, leb}
use borrow.Author.Tests.{le-ltb, lt-ltb, ltb-false, leb-true, leb-false}
use Rattle.dump.specs.Text.{digit, digits, is_number, value}
use Rattle.dump_words.specs.declared.number.Number.{Number}
use Rattle.dump_words.specs.Gather.{no_number, digit_add, number_add}
use Rattle.dump_gathered.specs.Gathered.{number_of, kept, lost, numbered}

-- a digit is added, and nothing else
pub number-add : (n : Number) (b : ℕ) → number_add n b ≡ cond (digit b) (digit_add n (b - 48)) lost
unfolding number_add
number-add n b = go (leb 48 b) refl (leb b 57) refl
  where
    go : (s : Bool) → leb 48 b ≡ s → (t : Bool) → leb b 57 ≡ t → cond (ltb b 48) lost (cond (ltb 57 b) lost (digit_add n (b - 48))) ≡ cond (leb 48 b && leb b 57) (digit_add n (b - 48)) lost
    go false e t f = rw (e, lt-ltb b 48 (leb-false 48 b e))
    go true e false f = rw (e, f, le-ltb b 48 (leb-true 48 b e), lt-ltb 57 b (leb-false b 57 f))
    go true e true f = rw (e, f, le-ltb b 48 (leb-true 48 b e), le-ltb 57 b (leb-true b 57 f))

-- what is kept of a value, and a digit: above 64 bits it stays there
kept-digit : (v d : ℕ) → digit_add (kept v) d ≡ kept (v * 10 + d)
unfolding digit_add
kept-digit v d = go (ltb v (2 ^ 64)) refl
  where
    go : (t : Bool) → ltb v (2 ^ 64) ≡ t → digit_add (kept v) d ≡ kept (v * 10 + d)
    go true e = rw e refl
    go false e = rw (e, le-ltb (v * 10 + d) (2 ^ 64) (omega (arith, ltb-false v (2 ^ 64) e)))

pub kept-add : (v b : ℕ) → number_add (kept v) b ≡ cond (digit b) (kept (v * 10 + (b - 48))) lost
kept-add v b = number-add (kept v) b ∙ ap (λ (n : Number). cond (digit b) n lost) (kept-digit v (b - 48))

-- the first digit is one behind the value 0
pub first-add : (b : ℕ) → number_add no_number b ≡ cond (digit b) (kept (0 * 10 + (b - 48))) lost
unfolding digit_add
first-add b = number-add no_number b

lost-of : (w : List ℕ) → number_of lost w ≡ lost
unfolding number_of digit_add
lost-of [] = refl
lost-of (b ∷ w) = ap (λ (n : Number). number_of n w) (number-add lost b ∙ same (digit b)) ∙ lost-of w
  where
    same : (t : Bool) → cond t lost lost ≡ lost
    same true = refl
    same false = refl

kept_of : (v : ℕ) (w : List ℕ) → number_of (kept v) w ≡ cond (digits w) (kept (value v w)) lost
unfolding number_of digits value
kept_of v [] = refl
kept_of v (b ∷ w) = ap (λ (n : Number). number_of n w) (kept-add v b) ∙ go (digit b) (kept_of (v * 10 + (b - 48)) w)
  where
    go : (t : Bool) → number_of (kept (v * 10 + (b - 48))) w ≡ cond (digits w) (kept (value (v * 10 + (b - 48)) w)) lost
        → number_of (cond t (kept (v * 10 + (b - 48))) lost) w ≡ cond (t && digits w) (kept (value (v * 10 + (b - 48)) w)) lost
    go true ih = ih
    go false ih = lost-of w

pub number-of : (w : List ℕ) → number_of no_number w ≡ numbered w
unfolding number_of numbered is_number
number-of [] = refl
number-of (b ∷ w) = ap (λ (n : Number). number_of n w) (first-add b ∙ sym (kept-add 0 b)) ∙ kept_of 0 (b ∷ w)
