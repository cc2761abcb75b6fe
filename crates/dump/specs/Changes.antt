-- The changes of a dump and its samples, word by word, from document 02, §1 and §8. Assumes nothing.
use Rattle.std.specs.Prelude.{Bool, true, false, cond, not, ◌&&◌, ◌||◌, List, [], ◌∷◌, ◌++◌, map, ℕ, suc, ◌+◌, ◌*◌, ◌/◌, ◌%◌, ◌^◌, eqb, ltb, leb, length, get_or, take, drop}
use Rattle.dump.specs.Text.{bytes, same, one_of, is_end, is_number, value, is_code, code_of}
use Rattle.dump.specs.State.{Declared, Changed, State, goto, refuse, expect, undeclared, with_changed, none_changed, change, vector_code, real_code, later_comment}
use Rattle.dump.specs.Declarations.{index_of, known, width_at, real_at}
use Rattle.dump.specs.Connections.{Pair, good_table, at_first, changed_to}

-- SAMPLES
-- the number whose bit i is entry i
unfoldable pub packed : List ℕ → ℕ
packed [] = 0
packed (b ∷ l) = b + 2 * packed l

-- the wires of the frame's word w, of which f tells a bit
abbrev pub word_of : (ℕ → ℕ) → List ℕ → ℕ → ℕ
word_of f vs w = packed (map f (take 32 (drop (1 + 32 * w) vs)))

-- §8: "A frame gets four more words", of the unknown bits; "§1's reader then writes value 0"
unfoldable pub frame_of : List ℕ → List ℕ
frame_of vs =
    word_of (λ v. v % 2) vs 0 ∷
    word_of (λ v. v % 2) vs 1 ∷
    word_of (λ v. v % 2) vs 2 ∷
    word_of (λ v. v % 2) vs 3 ∷
    word_of (λ v. v / 2) vs 0 ∷
    word_of (λ v. v / 2) vs 1 ∷
    word_of (λ v. v / 2) vs 2 ∷
    word_of (λ v. v / 2) vs 3 ∷
    []

-- "the clock was 0 before its first change and is 1 after its last"
unfoldable pub rose : Changed → Bool
rose c = c.stamped && eqb (get_or c.before 0 2) 0 && eqb (get_or c.values 0 2) 1

-- "each connected wire as it was before the stamp's changes"
abbrev pub sampled : Changed → Changed
sampled c = record { dumping = c.dumping; vector = c.vector; values = c.values; before = c.before; stamped = c.stamped; stamp = c.stamp; frames = c.frames ++ (frame_of c.before ∷ []) }

abbrev pub stamped_at : ℕ → Changed → Changed
stamped_at t c = record { dumping = c.dumping; vector = c.vector; values = c.values; before = c.values; stamped = true; stamp = t; frames = c.frames }

abbrev pub valued : Changed → List ℕ → Changed
valued c vs = record { dumping = c.dumping; vector = []; values = vs; before = c.before; stamped = c.stamped; stamp = c.stamp; frames = c.frames }

abbrev pub spelled : Changed → List ℕ → Changed
spelled c ds = record { dumping = c.dumping; vector = ds; values = c.values; before = c.before; stamped = c.stamped; stamp = c.stamp; frames = c.frames }

abbrev pub dumps : Changed → Bool → Changed
dumps c t = record { dumping = t; vector = c.vector; values = c.values; before = c.before; stamped = c.stamped; stamp = c.stamp; frames = c.frames }

-- VALUES: 0, 1, and 2 for `x X z Z`; 3 for any other byte
unfoldable pub value_of : ℕ → ℕ
value_of b =
    cond (eqb b 48) 0
    (cond (eqb b 49) 1
    (cond (eqb b 120 || eqb b 88 || eqb b 122 || eqb b 90) 2
    3))

unfoldable pub all_values : List ℕ → Bool
all_values [] = true
all_values (b ∷ w) = ltb (value_of b) 3 && all_values w

-- `$dumpall`, `$dumpoff`, `$dumpon`, `$dumpvars`
abbrev pub dump_words : List (List ℕ)
dump_words = bytes "$dumpall" ∷ bytes "$dumpoff" ∷ bytes "$dumpon" ∷ bytes "$dumpvars" ∷ []

module _ (table : List Pair) (room : ℕ) where
  -- A stamp is closed, and what comes after. "16 a sample for which there is no frame left: what closes the stamp"
  unfoldable pub closing : State → (State → State) → State
  closing s next = cond (rose s.changed) (cond (ltb (length s.changed.frames) room) (next (with_changed s s.place (sampled s.changed))) (refuse s 16)) (next s)

  -- "Equal stamps in a row are one. A stamp is closed by the next greater stamp or by the end of the text."
  unfoldable pub stamp_at : State → ℕ → State
  stamp_at s t =
      cond (s.changed.stamped && ltb t s.changed.stamp) (refuse s 14)
      (cond (s.changed.stamped && eqb t s.changed.stamp) s
      (closing s (λ z. with_changed z change (stamped_at t z.changed))))

  -- "a stamp: `#` and a decimal number of at most 64 bits, one word"; none within a dump command
  unfoldable pub on_stamp : State → List ℕ → State
  on_stamp s w = cond (not s.changed.dumping && is_number w && ltb (value 0 w) (2 ^ 64)) (stamp_at s (value 0 w)) (refuse s 10)

  -- "A code that cannot be declared (a byte outside 33 to 126) is an undeclared one in a change."
  abbrev pub found : State → List ℕ → Bool
  found s w = is_code w && known s.declared (code_of w)

  abbrev pub at : State → List ℕ → ℕ
  at s w = index_of s.declared.codes (code_of w)

  -- a change of bits; "a vector too long, or of a real" is 10
  unfoldable pub change_bits : State → List ℕ → List ℕ → State
  change_bits s w ds =
      cond (found s w)
      (cond (not (real_at s.declared (at s w)) && leb (length ds) (width_at s.declared (at s w))) (with_changed s change (valued s.changed (changed_to s.declared table s.changed.values (code_of w) ds))) (refuse s 10))
      (undeclared s (code_of w))

  -- "a scalar change: `0 1 x X z Z` and behind it, in the same word, the code; the wire's width is 1"
  unfoldable pub on_scalar : State → ℕ → List ℕ → State
  on_scalar s v [] = refuse s 10
  on_scalar s v (b ∷ w) =
      cond (ltb 8 (length (b ∷ w))) (refuse s 12)
      (cond (found s (b ∷ w) && not (eqb (width_at s.declared (at s (b ∷ w))) 1)) (refuse s 10)
      (change_bits s (b ∷ w) (v ∷ [])))

  -- the code of a vector; "`$end` in the place of a vector's or real's code is ill-formed"
  unfoldable pub on_vector_code : State → List ℕ → State
  on_vector_code s w = cond (ltb 8 (length w)) (refuse s 12) (cond (is_end w) (refuse s 10) (change_bits s w s.changed.vector))

  -- "the number is not read, the code must be a real's"
  unfoldable pub on_real_code : State → List ℕ → State
  on_real_code s w =
      cond (ltb 8 (length w)) (refuse s 12)
      (cond (is_end w) (refuse s 10)
      (cond (found s w) (expect s (real_at s.declared (at s w)) change) (undeclared s (code_of w))))

  -- "`b` or `B` and one or more of `0 1 x X z Z` in one word, then the code as a word"
  unfoldable pub on_vector : State → List ℕ → State
  on_vector s [] = refuse s 10
  on_vector s (b ∷ w) = cond (all_values (b ∷ w)) (with_changed s vector_code (spelled s.changed (map value_of (b ∷ w)))) (refuse s 10)

  -- "`r` or `R` and at least one more byte in one word, then the code"
  unfoldable pub on_real : State → List ℕ → State
  on_real s [] = refuse s 10
  on_real s (b ∷ w) = goto s real_code

  -- "`$dumpall`, …, then changes only (no stamp, no comment, no second such command), then `$end`."
  unfoldable pub on_dollar : State → List ℕ → State
  on_dollar s w =
      cond s.changed.dumping (cond (is_end w) (with_changed s change (dumps s.changed false)) (refuse s 10))
      (cond (one_of dump_words w) (with_changed s change (dumps s.changed true))
      (expect s (same w (bytes "$comment")) later_comment))

  -- "in any order"; "Anything else is ill-formed."
  unfoldable pub on_change : State → List ℕ → State
  on_change s [] = refuse s 10
  on_change s (b ∷ w) =
      cond (eqb b 35) (on_stamp s w)
      (cond (eqb b 36) (on_dollar s (b ∷ w))
      (cond (eqb b 98 || eqb b 66) (on_vector s w)
      (cond (eqb b 114 || eqb b 82) (on_real s w)
      (cond (ltb (value_of b) 3) (on_scalar s (value_of b) w)
      (refuse s 10)))))

  -- the `$end` of `$enddefinitions`, where 13 shows
  unfoldable pub on_last_end : State → List ℕ → State
  on_last_end s w = cond (is_end w) (cond (good_table s.declared table) (with_changed s change (none_changed (at_first table))) (refuse s 13)) (refuse s 10)
