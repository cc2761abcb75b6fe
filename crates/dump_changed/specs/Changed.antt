-- What the numbers, the store, the digits and the frames of the code say between two words of the changes, against the definition's state; and what is kept of a word. Assumes nothing.
use Rattle.std.specs.Prelude.{◌≡◌, true, false, cond, not, ◌||◌, List, [], ◌∷◌, map, ℕ, ◌+◌, ◌/◌, ◌<◌, ◌≤◌, eqb, ltb, length, get_or, take}
use Rattle.dump.specs.State.{Declared, State}
use Rattle.dump.specs.Connections.{Pair}
use Rattle.dump.specs.Changes.{value_of, all_values}
use Rattle.dump.specs.Load.{filled}
use Rattle.dump_words.specs.declared.text.Text.{Text}
use Rattle.dump_words.specs.declared.number.Number.{Number}
use Rattle.dump_words.specs.Gather.{no_text, no_number}
use Rattle.dump_gathered.specs.Gathered.{text_of, number_of, Bytes}
use Rattle.dump_valued.specs.Valued.{Holds, Declares, Connected}
use Rattle.dump_change.specs.declared.wave.Wave.{Wave}

-- BETWEEN TWO WORDS
-- the n declarations and the table, in the store
pub record Tabled (n : ℕ) (store : List ℕ) (table : List Pair) (d : Declared) : Type 0 where
  pub long : length store ≡ 8468
  pub declares : Declares store n d
  pub connected : Connected store n d table
  pub narrow : (i : ℕ) → i < n → get_or store (1024 + i) 0 ≤ 4096

-- every frame has eight words
abbrev pub Whole : List (List ℕ) → Type 0
Whole [] = Unit {0}
Whole (f ∷ fs) = (length f ≡ 8) × Whole fs

-- the frames fs that were sampled, in front of what was lent
pub record Framed (count : ℕ) (frames lent : List ℕ) (fs : List (List ℕ)) : Type 0 where
  pub as_lent : length frames ≡ length lent
  pub count_is : count ≡ length fs
  pub fits : length fs ≤ length lent / 8
  pub whole : Whole fs
  pub frames_are : frames ≡ filled fs lent

-- the digits of the vector whose code is due; of one that is longer than any wire, only that
pub record Vector (count : ℕ) (digits vector : List ℕ) : Type 0 where
  pub some : 0 < count
  pub short : count ≤ 4096 → vector ≡ take count digits
  pub small : count ≤ 4096 → (k : ℕ) → k < count → get_or digits k 0 < 3
  pub long : 4096 < count → 4096 < length vector

-- n codes are declared; `lent` is what the frames held at first
pub record Follows (n : ℕ) (w : Wave) (store digits frames lent : List ℕ) (table : List Pair) (s : State) : Type 0 where
  pub place_is : s.place ≡ w.place
  pub identifier_is : s.identifier ≡ w.identifier
  pub many : length digits ≡ 4096
  pub tabled : Tabled n store table s.declared
  pub holds : Holds 8450 8466 store s.changed.values
  pub before : (w.stamped ≡ 0 → ⊥) → Holds 8458 8467 store s.changed.before
  pub dumping_is : s.changed.dumping ≡ not (eqb w.dumping 0)
  pub stamped_is : s.changed.stamped ≡ not (eqb w.stamped 0)
  pub stamp_is : s.changed.stamp ≡ w.stamp
  pub framed : Framed w.frames frames lent s.changed.frames
  pub vector_equals : w.place ≡ 21 → Vector w.count digits s.changed.vector

-- WHAT IS KEPT of the digits v of a vector
pub record Spelled (v : List ℕ) (count wrong : ℕ) (digits : List ℕ) : Type 0 where
  pub count_is : count ≡ cond (ltb (length v) 4097) (length v) 4097
  pub wrong_is : eqb wrong 0 ≡ all_values v
  pub digits_are : length v ≤ 4096 → take (length v) digits ≡ map value_of v

-- and of the word b ∷ v where `place` is due
pub record Kept (place b : ℕ) (v : List ℕ) (class : ℕ) (t : Text) (number : Number) (count wrong : ℕ) (digits : List ℕ) : Type 0 where
  pub bytes : Bytes (b ∷ v)
  pub stamp_is : place ≡ 20 → b ≡ 35 → (class ≡ 2) × (number ≡ number_of no_number v)
  pub vector_equals : place ≡ 20 → eqb b 98 || eqb b 66 ≡ true → (class ≡ 4) × Spelled v count wrong digits
  pub other_is : place ≡ 20 → (b ≡ 35 → ⊥) → eqb b 98 || eqb b 66 ≡ false → (class ≡ 1) × (t ≡ text_of no_text (b ∷ v))
  pub text_equals : (place ≡ 20 → ⊥) → t ≡ text_of no_text (b ∷ v)
