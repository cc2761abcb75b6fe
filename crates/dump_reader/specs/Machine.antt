-- A reader of dumps as a machine over bytes: what it keeps of a word, what a word's end and the text's end do. Any state has a next one. Assumes nothing.
use Rattle.std.specs.Prelude.{Bool, cond, ◌&&◌, List, [], ◌∷◌, ℕ, ◌+◌, ◌-◌, eqb, ltb, leb, set}
use Rattle.dump.specs.Text.{blank}
use Rattle.dump.specs.Changes.{value_of}
use Rattle.dump_words.specs.declared.text.Text.{Text}
use Rattle.dump_words.specs.declared.number.Number.{Number}
use Rattle.dump_words.specs.declared.scan.Scan.{Scan}
use Rattle.dump_words.specs.Gather.{no_text, text_add, no_number, number_add, scan_add}
use Rattle.dump_find.specs.Find.{bounded}
use Rattle.dump_values.specs.Values.{table_good, connect_from}
use Rattle.dump_declare.specs.declared.head.Head.{Head}
use Rattle.dump_declare.specs.Declare as D
use Rattle.dump_change.specs.declared.wave.Wave.{Wave}
use Rattle.dump_change.specs.Change as C
use Rattle.dump_reader.specs.declared.word.Word.{Word}
use Rattle.dump_reader.specs.declared.state.Reader.{Reader}

-- THE WORD THAT IS READ
abbrev pub no_scan : Scan
no_scan = record { kind = 0; counts = 0; phase = 0; left = no_number; right = no_number }

abbrev pub no_word : Word
no_word = record { class = 0; count = 0; wrong = 0; text = no_text; number = no_number; scan = no_scan }

abbrev pub text_word : ℕ → Word
text_word b = record { class = 1; count = 0; wrong = 0; text = text_add no_text b; number = no_number; scan = no_scan }

abbrev pub number_word : Number → Word
number_word n = record { class = 2; count = 0; wrong = 0; text = no_text; number = n; scan = no_scan }

abbrev pub scan_word : ℕ → Scan → Word
scan_word b s = record { class = 3; count = 0; wrong = 0; text = text_add no_text b; number = no_number; scan = s }

abbrev pub vector_word : Word
vector_word = record { class = 4; count = 0; wrong = 0; text = no_text; number = no_number; scan = no_scan }

-- a range may begin with the second byte of a name, but behind a backslash only with one that follows another
unfoldable pub name_scan : ℕ → Scan
name_scan b = cond (eqb b 92) (record { kind = 1; counts = 0; phase = 0; left = no_number; right = no_number }) (record { kind = 0; counts = 1; phase = 0; left = no_number; right = no_number })

unfoldable pub range_scan : ℕ → Scan
range_scan b = cond (eqb b 91) (record { kind = 2; counts = 0; phase = 1; left = no_number; right = no_number }) (record { kind = 2; counts = 0; phase = 0; left = no_number; right = no_number })

-- the first byte of a word, by what is due
unfoldable pub begun_change : ℕ → Word
begun_change b = cond (eqb b 35) (number_word no_number) (cond (eqb b 98) vector_word (cond (eqb b 66) vector_word (text_word b)))

unfoldable pub begun : ℕ → ℕ → Word
begun place b =
    cond (eqb place 20) (begun_change b)
    (cond (eqb place 8) (number_word (number_add no_number b))
    (cond (eqb place 10) (scan_word b (name_scan b))
    (cond (eqb place 11) (scan_word b (range_scan b))
    (text_word b))))

-- one more byte
abbrev pub counted : Word → ℕ → ℕ → Word
counted w count wrong = record { class = w.class; count = count; wrong = wrong; text = w.text; number = w.number; scan = w.scan }

unfoldable pub vector_add : Word → ℕ → Word
vector_add w v = counted w (cond (ltb w.count 4096) (w.count + 1) 4097) (cond (eqb v 3) 1 w.wrong)

unfoldable pub vector_digits : Word → ℕ → List ℕ → List ℕ
vector_digits w b digits = cond (ltb w.count 4096) (set digits w.count (value_of b)) digits

abbrev pub number_word_more : Word → ℕ → Word
number_word_more w b = record { class = w.class; count = w.count; wrong = w.wrong; text = w.text; number = number_add w.number b; scan = w.scan }

abbrev pub scan_more : Word → ℕ → Word
scan_more w b = record { class = w.class; count = w.count; wrong = w.wrong; text = text_add w.text b; number = w.number; scan = scan_add w.scan b }

abbrev pub text_more : Word → ℕ → Word
text_more w b = record { class = w.class; count = w.count; wrong = w.wrong; text = text_add w.text b; number = w.number; scan = w.scan }

unfoldable pub continued : Word → ℕ → Word
continued w b =
    cond (eqb w.class 4) (vector_add w (value_of b))
    (cond (eqb w.class 2) (number_word_more w b)
    (cond (eqb w.class 3) (scan_more w b)
    (text_more w b)))

unfoldable pub continued_digits : Word → ℕ → List ℕ → List ℕ
continued_digits w b digits = cond (eqb w.class 4) (vector_digits w b digits) digits

-- THE STATE
unfoldable pub place_of : Reader → ℕ
place_of r = cond (eqb r.head.place 20) r.wave.place r.head.place

unfoldable pub refused : Reader → Bool
refused r = leb 100 (place_of r)

abbrev pub on_line : Reader → ℕ → ℕ → Reader
on_line r line started = record { line = line; started = started; shown = r.shown; word = r.word; head = r.head; wave = r.wave }

-- white space: byte 10 ends a line
unfoldable pub new_line : Reader → ℕ → Reader
new_line r b = cond (eqb b 10) (on_line r (cond (ltb r.line 18446744073709551615) (r.line + 1) r.line) 0) (on_line r r.line 1)

unfoldable pub count_lines : Reader → ℕ
count_lines r = cond (eqb r.word.class 0) (cond (eqb r.started 0) (r.line - 1) r.line) r.line

-- a reader with all that it is lent
pub record All : Type 0 where
  pub reader : Reader
  pub store : List ℕ
  pub digits : List ℕ
  pub frames : List ℕ

-- a word has ended: which line it was in, and what is known behind it
abbrev pub ended : Reader → Head → Wave → Reader
ended r head wave = record { line = r.line; started = r.started; shown = r.line; word = no_word; head = head; wave = wave }

abbrev pub first_wave : Wave
first_wave = record { place = 20; identifier = 0; dumping = 0; count = 0; stamped = 0; stamp = 0; frames = 0 }

-- the `$end` of `$enddefinitions`: the table is tested and connected
unfoldable pub last_place : Head → Text → List ℕ → ℕ
last_place h t store = cond (D.is_end t) (cond (table_good store (bounded h.codes)) 20 113) 110

unfoldable pub last_store : Head → Text → List ℕ → List ℕ
last_store h t store = cond (eqb (last_place h t store) 20) (connect_from store (bounded h.codes) 0 129) store

unfoldable pub end_declaration : All → All
end_declaration a =
    record { reader = ended a.reader (D.declaration_head a.reader.head a.reader.word.text a.reader.word.number a.reader.word.scan a.store) a.reader.wave; store = D.declaration_store a.reader.head a.reader.word.text a.reader.word.scan a.store; digits = a.digits; frames = a.frames }

unfoldable pub end_last : All → All
end_last a =
    record { reader = ended a.reader (D.at a.reader.head (last_place a.reader.head a.reader.word.text a.store)) first_wave; store = last_store a.reader.head a.reader.word.text a.store; digits = a.digits; frames = a.frames }

unfoldable pub end_change : All → All
end_change a =
    record { reader = ended a.reader a.reader.head (C.word_wave a.reader.wave a.reader.word.class a.reader.word.text a.reader.word.number a.reader.word.count a.reader.word.wrong (bounded a.reader.head.codes) a.store a.frames); store = C.word_store a.reader.wave a.reader.word.class a.reader.word.text a.reader.word.number (bounded a.reader.head.codes) a.store a.digits a.frames; digits = a.digits; frames = C.word_frames a.reader.wave a.reader.word.class a.reader.word.number a.store a.frames }

unfoldable pub end_word : All → All
end_word a = cond (eqb a.reader.head.place 20) (end_change a) (cond (eqb a.reader.head.place 13) (end_last a) (end_declaration a))

-- ONE BYTE; what is refused stays
abbrev pub with_word : Reader → Word → Reader
with_word r w = record { line = r.line; started = r.started; shown = r.shown; word = w; head = r.head; wave = r.wave }

unfoldable pub add_byte : All → ℕ → All
add_byte a b =
    cond (eqb a.reader.word.class 0)
    (record { reader = with_word a.reader (begun (place_of a.reader) b); store = a.store; digits = a.digits; frames = a.frames })
    (record { reader = with_word a.reader (continued a.reader.word b); store = a.store; digits = continued_digits a.reader.word b a.digits; frames = a.frames })

abbrev pub lined : All → ℕ → All
lined a b = record { reader = new_line a.reader b; store = a.store; digits = a.digits; frames = a.frames }

unfoldable pub closed_word : All → All
closed_word a = cond (eqb a.reader.word.class 0) a (end_word a)

unfoldable pub byte_step : All → ℕ → All
byte_step a b = cond (blank b) (lined (closed_word a) b) (add_byte a b)

unfoldable pub step : All → ℕ → All
step a b = cond (refused a.reader) a (byte_step a b)

unfoldable pub feed : All → List ℕ → All
feed a [] = a
feed a (b ∷ bs) = feed (step a b) bs

-- THE END of the text: it ends a word too; `count` is the line count
abbrev pub refused_at : Reader → ℕ → ℕ → Wave → Reader
refused_at r count head_place wave = record { line = r.line; started = r.started; shown = count; word = r.word; head = D.at r.head head_place; wave = wave }

unfoldable pub complete : Reader → Bool
complete r = eqb r.head.place 20 && eqb r.wave.place 20 && eqb r.wave.dumping 0

unfoldable pub unfinished : Reader → ℕ → Reader
unfinished r count = cond (eqb r.head.place 20) (refused_at r count 20 (C.at r.wave 110)) (refused_at r count 110 r.wave)

unfoldable pub closing : All → ℕ → All
closing a count =
    cond (complete a.reader)
    (record { reader = refused_at a.reader count a.reader.head.place (C.closed a.reader.wave a.store a.frames); store = a.store; digits = a.digits; frames = C.closed_frames a.reader.wave a.store a.frames })
    (record { reader = unfinished a.reader count; store = a.store; digits = a.digits; frames = a.frames })

unfoldable pub finish_at : All → ℕ → All
finish_at a count = cond (refused a.reader) a (closing a count)

unfoldable pub finish : All → All
finish a = cond (refused a.reader) a (finish_at (closed_word a) (count_lines a.reader))
