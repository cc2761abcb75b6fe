-- One more byte at the end of a word is one more step. Assumes nothing.
use mathlib.Core.Path.{◌≡◌, refl}
use mathlib.Core.List.{List, [], ◌∷◌, ◌++◌}
use Prim.Native.Nat.{ℕ}
use Rattle.dump_words.specs.declared.text.Text.{Text}
use Rattle.dump_words.specs.declared.number.Number.{Number}
use Rattle.dump_words.specs.declared.scan.Scan.{Scan}
use Rattle.dump_words.specs.Gather.{text_add, number_add, scan_add}
use Rattle.dump_gathered.specs.Gathered.{text_of, number_of, scan_of}

pub text-snoc : (t : Text) (w : List ℕ) (b : ℕ) → text_of t (w ++ (b ∷ [])) ≡ text_add (text_of t w) b
unfolding text_of
text-snoc t [] b = refl
text-snoc t (a ∷ w) b = text-snoc (text_add t a) w b

pub number-snoc : (n : Number) (w : List ℕ) (b : ℕ) → number_of n (w ++ (b ∷ [])) ≡ number_add (number_of n w) b
unfolding number_of
number-snoc n [] b = refl
number-snoc n (a ∷ w) b = number-snoc (number_add n a) w b

pub scan-snoc : (s : Scan) (w : List ℕ) (b : ℕ) → scan_of s (w ++ (b ∷ [])) ≡ scan_add (scan_of s w) b
unfolding scan_of
scan-snoc s [] b = refl
scan-snoc s (a ∷ w) b = scan-snoc (scan_add s a) w b
