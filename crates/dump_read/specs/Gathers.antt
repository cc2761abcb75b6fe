-- What a reader keeps of a whole word: byte after byte is added. Assumes nothing.
use Rattle.std.specs.Prelude.{Bool, ◌||◌, List, [], ◌∷◌, ℕ, eqb}
use Rattle.dump_reader.specs.declared.word.Word.{Word}
use Rattle.dump_reader.specs.Machine.{begun, continued, continued_digits}

unfoldable pub continued_by : Word → List ℕ → Word
continued_by w [] = w
continued_by w (b ∷ v) = continued_by (continued w b) v

unfoldable pub digits_by : Word → List ℕ → List ℕ → List ℕ
digits_by w [] digits = digits
digits_by w (b ∷ v) digits = digits_by (continued w b) v (continued_digits w b digits)

-- the word b ∷ v, where what is due says its place
unfoldable pub word_of : ℕ → ℕ → List ℕ → Word
word_of place b v = continued_by (begun place b) v

-- and the digits lent
unfoldable pub digits_of : ℕ → ℕ → List ℕ → List ℕ → List ℕ
digits_of place b v digits = digits_by (begun place b) v digits

-- the first byte of a vector
abbrev pub is_vector : ℕ → Bool
is_vector b = eqb b 98 || eqb b 66
