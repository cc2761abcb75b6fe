-- A reader between two bytes: its numbers, and the bytes of the word that is open. A byte, a word's end and a line's end are steps of the two. Assumes nothing.
use mathlib.Core.Path.{◌≡◌, refl, ◌∙◌, ap}
use mathlib.Core.Bool.{Bool, true, false, cond}
use mathlib.Core.List.{List, [], ◌∷◌, ◌++◌}
use Prim.Native.Nat.{ℕ, ◌+◌, ◌-◌, ◌<◌}
use lib.Dec.{eqb, ltb}
use borrow.Author.Tests.{lt-leb}
use Rattle.dump.specs.Text.{blank}
use Rattle.dump_declare.specs.declared.head.Head.{Head}
use Rattle.dump_change.specs.declared.wave.Wave.{Wave}
use Rattle.dump_reader.specs.declared.word.Word.{Word}
use Rattle.dump_reader.specs.Machine.{All, no_word, place_of, refused, new_line, count_lines, end_change, end_last, end_declaration, end_word, add_byte, lined, closed_word, byte_step, step}
use Rattle.dump_read.specs.Gathers.{word_of, digits_of}
use Rattle.dump_read.proofs.Gathers.{word_first, word-snoc, digits-first, digits-snoc, class-some}

-- `digits` are those before the open word
pub record Core : Type 0 where
  pub line : ℕ
  pub started : ℕ
  pub shown : ℕ
  pub head : Head
  pub wave : Wave
  pub store : List ℕ
  pub digits : List ℕ
  pub frames : List ℕ

-- the word that is due
abbrev pub due : Core → ℕ
due c = cond (eqb c.head.place 20) c.wave.place c.head.place

abbrev pub word_in : ℕ → List ℕ → Word
word_in p [] = no_word
word_in p (b ∷ v) = word_of p b v

abbrev pub digits_in : ℕ → List ℕ → List ℕ → List ℕ
digits_in p [] digits = digits
digits_in p (b ∷ v) digits = digits_of p b v digits

abbrev pub all_of : Core → List ℕ → All
all_of c q =
    record { reader = record { line = c.line; started = c.started; shown = c.shown; word = word_in (due c) q; head = c.head; wave = c.wave }; store = c.store; digits = digits_in (due c) q c.digits; frames = c.frames }

abbrev pub core_of : All → Core
core_of a = record { line = a.reader.line; started = a.reader.started; shown = a.reader.shown; head = a.reader.head; wave = a.reader.wave; store = a.store; digits = a.digits; frames = a.frames }

-- A WORD HAS ENDED: none is open
unfoldable pub end_core : Core → ℕ → List ℕ → Core
end_core c b v = core_of (end_word (all_of c (b ∷ v)))

end_none : (a : All) → end_word a ≡ all_of (core_of (end_word a)) []
unfolding end_word end_change end_last end_declaration
end_none a = go (eqb a.reader.head.place 20) (eqb a.reader.head.place 13)
  where
    go : (t u : Bool) → cond t (end_change a) (cond u (end_last a) (end_declaration a)) ≡ all_of (core_of (cond t (end_change a) (cond u (end_last a) (end_declaration a)))) []
    go true u = refl
    go false true = refl
    go false false = refl

pub closed_none : (c : Core) → closed_word (all_of c []) ≡ all_of c []
unfolding closed_word
closed_none c = refl

pub closed_some : (c : Core) (b : ℕ) (v : List ℕ) → closed_word (all_of c (b ∷ v)) ≡ all_of (end_core c b v) []
unfolding closed_word end_core
closed_some c b v = rw (class-some (due c) b v) (end_none (all_of c (b ∷ v)))

-- its line is kept, and what the white space before it was
pub end_line : (c : Core) (b : ℕ) (v : List ℕ) → ((end_core c b v).line ≡ c.line) × ((end_core c b v).started ≡ c.started)
unfolding end_core end_word end_change end_last end_declaration
end_line c b v = go (all_of c (b ∷ v)) (eqb c.head.place 20) (eqb c.head.place 13)
  where
    go : (a : All) (t u : Bool)
        → ((core_of (cond t (end_change a) (cond u (end_last a) (end_declaration a)))).line ≡ a.reader.line) × ((core_of (cond t (end_change a) (cond u (end_last a) (end_declaration a)))).started ≡ a.reader.started)
    go a true u = (refl, refl)
    go a false true = (refl, refl)
    go a false false = (refl, refl)

-- A LINE HAS ENDED, or not
abbrev pub next_line : ℕ → ℕ → ℕ
next_line line b = cond (eqb b 10) (cond (ltb line 18446744073709551615) (line + 1) line) line

unfoldable pub lined_core : Core → ℕ → Core
lined_core c b = record { line = next_line c.line b; started = cond (eqb b 10) 0 1; shown = c.shown; head = c.head; wave = c.wave; store = c.store; digits = c.digits; frames = c.frames }

pub lined-is : (c : Core) (b : ℕ) → lined (all_of c []) b ≡ all_of (lined_core c b) []
unfolding new_line lined_core
lined-is c b = go (eqb b 10) refl
  where
    go : (t : Bool) → eqb b 10 ≡ t → lined (all_of c []) b ≡ all_of (lined_core c b) []
    go true e = rw e
    go false e = rw e

-- ONE BYTE where nothing is refused
module _ (c : Core) (live : due c < 100) where
  pub not_refused : (q : List ℕ) → refused (all_of c q).reader ≡ false
  unfolding refused place_of
  not_refused q = lt-leb 100 (due c) live

  pub step-more : (q : List ℕ) (b : ℕ) → blank b ≡ false → step (all_of c q) b ≡ all_of c (q ++ (b ∷ []))
  unfolding step byte_step add_byte place_of
  step-more [] b e = rw (not_refused [], e, word_first (due c) b, digits-first (due c) b c.digits)
  step-more (x ∷ v) b e = rw (not_refused (x ∷ v), e, class-some (due c) x v, word-snoc (due c) x v b, digits-snoc (due c) x v b c.digits)

  pub step-none : (b : ℕ) → blank b ≡ true → step (all_of c []) b ≡ all_of (lined_core c b) []
  unfolding step byte_step
  step-none b e = rw (not_refused [], e) (ap (λ (a : All). lined a b) (closed_none c) ∙ lined-is c b)

  pub step-some : (x : ℕ) (v : List ℕ) (b : ℕ) → blank b ≡ true → step (all_of c (x ∷ v)) b ≡ all_of (lined_core (end_core c x v) b) []
  unfolding step byte_step
  step-some x v b e = rw (not_refused (x ∷ v), e) (ap (λ (a : All). lined a b) (closed_some c x v) ∙ lined-is (end_core c x v) b)

-- THE LINE COUNT
pub count_none : (c : Core) → count_lines (all_of c []).reader ≡ cond (eqb c.started 0) (c.line - 1) c.line
unfolding count_lines
count_none c = refl

pub count-some : (c : Core) (b : ℕ) (v : List ℕ) → count_lines (all_of c (b ∷ v)).reader ≡ c.line
unfolding count_lines
count-some c b v = rw (class-some (due c) b v)
