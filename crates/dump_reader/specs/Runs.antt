-- Whole words at once: what the loops over them say of the machine, from one place of the bytes to another. Assumes nothing.
use Rattle.std.specs.Prelude.{◌≡◌, false, cond, List, ℕ, ◌+◌, ◌-◌, ◌<◌, eqb, ltb, length, get_or, drop}
use Rattle.dump.specs.Text.{blank}
use Rattle.dump_words.specs.declared.text.Text.{Text}
use Rattle.dump_words.specs.Gather.{no_text, no_number}
use Rattle.dump_find.specs.Find.{bounded}
use Rattle.dump_declare.specs.declared.head.Head.{Head}
use Rattle.dump_change.specs.declared.wave.Wave.{Wave}
use Rattle.dump_change.specs.Change as C
use Rattle.dump_reader.specs.declared.word.Word.{Word}
use Rattle.dump_reader.specs.declared.changes.Changes.{Changes}
use Rattle.dump_reader.specs.declared.changes.Class.{Class}
use Rattle.dump_reader.specs.declared.changes.Class.TheVariants.{Stamp, Vector, Other}
use Rattle.dump_reader.specs.Machine.{no_scan, no_word, text_word, number_word, vector_word, refused, with_word, All, feed}

abbrev pub text_of : Text → Word
text_of t = record { class = 1; count = 0; wrong = 0; text = t; number = no_number; scan = no_scan }

abbrev pub vector_of : ℕ → Word
vector_of count = record { class = 4; count = count; wrong = 0; text = no_text; number = no_number; scan = no_scan }

abbrev pub put : All → Word → List ℕ → All
put a w digits = record { reader = with_word a.reader w; store = a.store; digits = digits; frames = a.frames }

-- bytes are read from i to j, and nothing but the word and its digits changes
abbrev pub Gathers : List ℕ → Word → ℕ → List ℕ → Word → ℕ → List ℕ → Type 0
Gathers bs w i d w' j d' = (a : All) → refused a.reader ≡ false → feed (put a w d) (drop i bs) ≡ feed (put a w' d') (drop j bs)

-- no word is open, or a vector of k - 1 digits
unfoldable pub open_word : ℕ → Word
open_word k = cond (eqb k 0) no_word (vector_of (k - 1))

-- a reader among the changes
abbrev pub amid : Head → Changes → List ℕ → List ℕ → List ℕ → All
amid h c store digits frames = record { reader = record { line = c.line; started = c.started; shown = c.shown; word = open_word c.held; head = h; wave = c.wave }; store = store; digits = digits; frames = frames }

abbrev pub Goes : ℕ → List ℕ → Changes → List ℕ → List ℕ → List ℕ → Changes → List ℕ → List ℕ → List ℕ → Type 0
Goes n bs c s d f c' s' d' f' = (h : Head) → h.place ≡ 20 → bounded h.codes ≡ n → feed (amid h c s d f) (drop c.at bs) ≡ feed (amid h c' s' d' f') (drop c'.at bs)

-- white space is passed
unfoldable pub past_blank : Changes → ℕ → ℕ → Changes
past_blank c at b =
    cond (eqb b 10)
    (record { at = at; line = cond (ltb c.line 18446744073709551615) (c.line + 1) c.line; started = 0; shown = c.shown; held = c.held; wave = c.wave })
    (record { at = at; line = c.line; started = 1; shown = c.shown; held = c.held; wave = c.wave })

-- behind a word, whose line is kept; no word is open
abbrev pub behind_word : Changes → Wave → Changes
behind_word c v = record { at = c.at; line = c.line; started = c.started; shown = c.line; held = 0; wave = v }

-- a class as the number that a word keeps
abbrev pub class_number : Class → ℕ
class_number Other = 1
class_number Stamp = 2
class_number Vector = 4

-- the first byte b of a word of class k
unfoldable pub begun_as : ℕ → ℕ → Word
begun_as k b = cond (eqb k 2) (number_word no_number) (cond (eqb k 4) vector_word (text_word b))

-- a word is due, and begins where c stands
pub record Due (c : Changes) (bs : List ℕ) : Type 0 where
  pub inside : c.at < length bs
  pub closed : c.held ≡ 0
  pub going : c.wave.place < 100
  pub full : blank (get_or bs c.at 0) ≡ false

-- a good scalar changes the store only
abbrev pub Scalar : Text → ℕ → List ℕ → List ℕ → Type 0
Scalar t n store store' = (w : Wave) (digits frames : List ℕ) → w.place ≡ 20 → (w ≡ C.word_wave w 1 t no_number 0 0 n store frames) × (store' ≡ C.word_store w 1 t no_number n store digits frames) × (frames ≡ C.word_frames w 1 no_number store frames)

-- a vector of `count` digits, whose code is due
abbrev pub vectored : Wave → ℕ → Wave
vectored w count = record { place = 21; identifier = w.identifier; dumping = w.dumping; count = count; stamped = w.stamped; stamp = w.stamp; frames = w.frames }

-- a good vector, with its code, changes the store only
abbrev pub Vectored : Text → ℕ → ℕ → List ℕ → List ℕ → List ℕ → Type 0
Vectored t count n store digits store' = (w : Wave) (frames : List ℕ) → w.place ≡ 20 → w.count ≡ 0 → (vectored w count ≡ C.word_wave w 4 no_text no_number count 0 n store frames) × (w ≡ C.word_wave (vectored w count) 1 t no_number 0 0 n store frames) × (store' ≡ C.word_store (vectored w count) 1 t no_number n store digits frames)
