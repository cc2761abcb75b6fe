-- One word of the changes, on what is kept of it and of those before. Assumes nothing.
use Rattle.std.specs.Prelude.{Bool, false, cond, List, [], ◌∷◌, ℕ, zero, suc, ◌+◌, ◌*◌, ◌/◌, ◌%◌, ◌^◌, eqb, ltb, length, get_or, set}
use Rattle.std.specs.Int.Bits.{bit_or}
use Rattle.dump.specs.Changes.{value_of}
use Rattle.dump_words.specs.declared.text.Text.{Text}
use Rattle.dump_words.specs.declared.number.Number.{Number}
use Rattle.dump_words.specs.Gather.{text_is, text_in}
use Rattle.dump_find.specs.Find.{lookup}
use Rattle.dump_values.specs.Values.{bits_changed}
use Rattle.dump_change.specs.declared.wave.Wave.{Wave}
use Rattle.dump_change.specs.declared.stamp.StampOrder.{StampOrder}
use Rattle.dump_change.specs.declared.stamp.StampOrder.TheVariants.{Next, Equal, Back}

abbrev pub at : Wave → ℕ → Wave
at w place = record { place = place; identifier = w.identifier; dumping = w.dumping; count = w.count; stamped = w.stamped; stamp = w.stamp; frames = w.frames }

abbrev pub unknown_code : Wave → ℕ → Wave
unknown_code w x = record { place = 110; identifier = x; dumping = w.dumping; count = w.count; stamped = w.stamped; stamp = w.stamp; frames = w.frames }

-- $end
abbrev pub is_end : Text → Bool
is_end t = text_is t 4 1684956452 0

-- A SCALAR
unfoldable pub tail_code : Text → ℕ
tail_code t = bit_or (t.low / 256) (t.high * 2 ^ 56 % 2 ^ 64)

unfoldable pub scalar_test : Wave → ℕ → ℕ → ℕ → ℕ → List ℕ → Wave
scalar_test w plain x i n store =
    cond (eqb plain 1)
    (cond (ltb i n) (cond (eqb (get_or store (1024 + i) 0) 1) (cond (eqb (get_or store (2048 + i) 0) 2) (at w 110) (at w 20)) (at w 110)) (unknown_code w x))
    (unknown_code w x)

unfoldable pub on_scalar : Wave → Text → ℕ → List ℕ → Wave
on_scalar w t n store = cond (ltb t.length 2) (at w 110) (cond (ltb 9 t.length) (at w 112) (scalar_test w t.plain (tail_code t) (lookup store n (tail_code t)) n store))

unfoldable pub scalar_change : Wave → ℕ → ℕ → ℕ → ℕ → List ℕ → List ℕ
scalar_change r v x i n store = cond (eqb r.place 20) (cond (ltb i n) (bits_changed store (v ∷ []) 1 x i) store) store

unfoldable pub scalar_store : Wave → ℕ → Text → ℕ → List ℕ → List ℕ
scalar_store w v t n store = cond (ltb t.length 2) store (cond (ltb 9 t.length) store (scalar_change (scalar_test w t.plain (tail_code t) (lookup store n (tail_code t)) n store) v (tail_code t) (lookup store n (tail_code t)) n store))

-- A VECTOR
abbrev pub cleared : Wave → Wave
cleared w = record { place = 20; identifier = w.identifier; dumping = w.dumping; count = 0; stamped = w.stamped; stamp = w.stamp; frames = w.frames }

unfoldable pub vector_test : Wave → ℕ → ℕ → ℕ → ℕ → List ℕ → Wave
vector_test w plain x i n store =
    cond (eqb plain 1)
    (cond (ltb i n) (cond (eqb (get_or store (2048 + i) 0) 2) (at w 110) (cond (ltb (get_or store (1024 + i) 0) w.count) (at w 110) (cleared w))) (unknown_code w x))
    (unknown_code w x)

unfoldable pub on_vector_code : Wave → Text → ℕ → List ℕ → Wave
on_vector_code w t n store = cond (ltb 8 t.length) (at w 112) (cond (is_end t) (at w 110) (vector_test w t.plain t.low (lookup store n t.low) n store))

unfoldable pub vector_change : Wave → ℕ → ℕ → ℕ → ℕ → List ℕ → List ℕ → List ℕ
vector_change r count x i n store digits = cond (eqb r.place 20) (cond (ltb i n) (cond (eqb count 0) store (cond (ltb 4096 count) store (bits_changed store digits count x i))) store) store

unfoldable pub vector_store : Wave → Text → ℕ → List ℕ → List ℕ → List ℕ
vector_store w t n store digits = cond (ltb 8 t.length) store (cond (is_end t) store (vector_change (vector_test w t.plain t.low (lookup store n t.low) n store) w.count t.low (lookup store n t.low) n store digits))

unfoldable pub on_vector : Wave → ℕ → ℕ → Wave
on_vector w count wrong =
    cond (eqb count 0) (at w 110)
    (cond (eqb wrong 0) (record { place = 21; identifier = w.identifier; dumping = w.dumping; count = count; stamped = w.stamped; stamp = w.stamp; frames = w.frames }) (at w 110))

-- A REAL
unfoldable pub real_test : Wave → ℕ → ℕ → ℕ → ℕ → List ℕ → Wave
real_test w plain x i n store = cond (eqb plain 1) (cond (ltb i n) (cond (eqb (get_or store (2048 + i) 0) 2) (at w 20) (at w 110)) (unknown_code w x)) (unknown_code w x)

unfoldable pub on_real_code : Wave → Text → ℕ → List ℕ → Wave
on_real_code w t n store = cond (ltb 8 t.length) (at w 112) (cond (is_end t) (at w 110) (real_test w t.plain t.low (lookup store n t.low) n store))

unfoldable pub on_real : Wave → Text → Wave
on_real w t = cond (ltb t.length 2) (at w 110) (at w 22)

-- KEYWORDS
abbrev pub dumps : Wave → ℕ → Wave
dumps w dumping = record { place = 20; identifier = w.identifier; dumping = dumping; count = w.count; stamped = w.stamped; stamp = w.stamp; frames = w.frames }

unfoldable pub in_dump : Wave → Text → Wave
in_dump w t = cond (is_end t) (dumps w 0) (at w 110)

-- $dumpall $dumpoff $dumpon $dumpvars
abbrev pub dump_words : List ℕ
dump_words = 8 ∷ 7812726589081609252 ∷ 0 ∷ 8 ∷ 7378707568156566564 ∷ 0 ∷ 7 ∷ 31084776101602340 ∷ 0 ∷ 9 ∷ 8241999018309542948 ∷ 115 ∷ []

unfoldable pub on_dollar : Wave → Text → Wave
on_dollar w t = cond (eqb w.dumping 0) (cond (text_in t dump_words) (dumps w 1) (cond (text_is t 8 8389754676499669796 0) (at w 23) (at w 110))) (in_dump w t)

unfoldable pub on_comment : Wave → Text → Wave
on_comment w t = cond (is_end t) (at w 20) w

-- A STAMP IS CLOSED
unfoldable pub sample_from : List ℕ → List ℕ → ℕ → ℕ → ℕ → List ℕ
sample_from store frames k j zero = frames
sample_from store frames k j (suc m) = sample_from store (set frames (8 * k + j) (get_or store (8458 + j) 0 % 2 ^ 32)) k (suc j) m

unfoldable pub rises : Wave → List ℕ → Bool
rises w store = cond (eqb w.stamped 0) false (cond (eqb (get_or store 8467 0) 0) (eqb (get_or store 8466 0) 1) false)

abbrev pub sampled : Wave → Wave
sampled w = record { place = w.place; identifier = w.identifier; dumping = w.dumping; count = w.count; stamped = w.stamped; stamp = w.stamp; frames = w.frames + 1 }

unfoldable pub closed : Wave → List ℕ → List ℕ → Wave
closed w store frames = cond (rises w store) (cond (ltb w.frames (length frames / 8)) (sampled w) (at w 116)) w

unfoldable pub closed_frames : Wave → List ℕ → List ℕ → List ℕ
closed_frames w store frames = cond (rises w store) (cond (ltb w.frames (length frames / 8)) (sample_from store frames w.frames 0 8) frames) frames

-- A STAMP
unfoldable pub open_from : List ℕ → ℕ → ℕ → List ℕ
open_from store j zero = store
open_from store j (suc m) = open_from (set store (8458 + j) (get_or store (8450 + j) 0)) (suc j) m

unfoldable pub opened : List ℕ → List ℕ
opened store = set (open_from store 0 8) 8467 (get_or (open_from store 0 8) 8466 0)

unfoldable pub stamp_order : Wave → ℕ → ℕ
stamp_order w v = cond (eqb w.stamped 0) 0 (cond (ltb v w.stamp) 2 (cond (eqb v w.stamp) 1 0))

-- the order as the number that stamp_order says
abbrev pub order_number : StampOrder → ℕ
order_number Next = 0
order_number Equal = 1
order_number Back = 2

abbrev pub stamped_at : Wave → ℕ → Wave
stamped_at w v = record { place = 20; identifier = w.identifier; dumping = w.dumping; count = w.count; stamped = 1; stamp = v; frames = w.frames }

unfoldable pub next_wave : Wave → ℕ → List ℕ → List ℕ → Wave
next_wave w v store frames = cond (eqb (closed w store frames).place 116) (closed w store frames) (stamped_at (closed w store frames) v)

unfoldable pub next_store : Wave → List ℕ → List ℕ → List ℕ
next_store w store frames = cond (eqb (closed w store frames).place 116) store (opened store)

unfoldable pub next_frames : Wave → List ℕ → List ℕ → List ℕ
next_frames w store frames = closed_frames w store frames

unfoldable pub stamp_wave : Wave → ℕ → List ℕ → List ℕ → Wave
stamp_wave w v store frames = cond (eqb (stamp_order w v) 0) (next_wave w v store frames) (cond (eqb (stamp_order w v) 1) w (at w 114))

unfoldable pub stamp_store : Wave → ℕ → List ℕ → List ℕ → List ℕ
stamp_store w v store frames = cond (eqb (stamp_order w v) 0) (next_store w store frames) store

unfoldable pub stamp_frames : Wave → ℕ → List ℕ → List ℕ → List ℕ
stamp_frames w v store frames = cond (eqb (stamp_order w v) 0) (next_frames w store frames) frames

unfoldable pub on_stamp : Wave → Number → List ℕ → List ℕ → Wave
on_stamp w n store frames = cond (eqb w.dumping 0) (cond (eqb n.state 1) (stamp_wave w n.value store frames) (at w 110)) (at w 110)

unfoldable pub on_stamp_store : Wave → Number → List ℕ → List ℕ → List ℕ
on_stamp_store w n store frames = cond (eqb w.dumping 0) (cond (eqb n.state 1) (stamp_store w n.value store frames) store) store

unfoldable pub on_stamp_frames : Wave → Number → List ℕ → List ℕ → List ℕ
on_stamp_frames w n store frames = cond (eqb w.dumping 0) (cond (eqb n.state 1) (stamp_frames w n.value store frames) frames) frames

-- ONE WORD, by the word that is due, and of a change by its class and its first byte
abbrev pub first_byte : Text → ℕ
first_byte t = t.low % 256

unfoldable pub text_wave : Wave → Text → ℕ → List ℕ → Wave
text_wave w t n store =
    cond (ltb (value_of (first_byte t)) 3) (on_scalar w t n store)
    (cond (eqb (first_byte t) 36) (on_dollar w t)
    (cond (eqb (first_byte t) 114) (on_real w t)
    (cond (eqb (first_byte t) 82) (on_real w t)
    (at w 110))))

unfoldable pub text_store : Wave → Text → ℕ → List ℕ → List ℕ
text_store w t n store = cond (ltb (value_of (first_byte t)) 3) (scalar_store w (value_of (first_byte t)) t n store) store

unfoldable pub change_wave : Wave → ℕ → Text → Number → ℕ → ℕ → ℕ → List ℕ → List ℕ → Wave
change_wave w class t number count wrong n store frames = cond (eqb class 2) (on_stamp w number store frames) (cond (eqb class 4) (on_vector w count wrong) (text_wave w t n store))

unfoldable pub change_store : Wave → ℕ → Text → Number → ℕ → List ℕ → List ℕ → List ℕ
change_store w class t number n store frames = cond (eqb class 2) (on_stamp_store w number store frames) (cond (eqb class 4) store (text_store w t n store))

unfoldable pub change_frames : Wave → ℕ → Number → List ℕ → List ℕ → List ℕ
change_frames w class number store frames = cond (eqb class 2) (on_stamp_frames w number store frames) frames

unfoldable pub code_wave : Wave → Text → ℕ → List ℕ → Wave
code_wave w t n store = cond (eqb w.place 21) (on_vector_code w t n store) (cond (eqb w.place 22) (on_real_code w t n store) (cond (eqb w.place 23) (on_comment w t) w))

unfoldable pub code_store : Wave → Text → ℕ → List ℕ → List ℕ → List ℕ
code_store w t n store digits = cond (eqb w.place 21) (vector_store w t n store digits) store

unfoldable pub word_wave : Wave → ℕ → Text → Number → ℕ → ℕ → ℕ → List ℕ → List ℕ → Wave
word_wave w class t number count wrong n store frames = cond (eqb w.place 20) (change_wave w class t number count wrong n store frames) (code_wave w t n store)

unfoldable pub word_store : Wave → ℕ → Text → Number → ℕ → List ℕ → List ℕ → List ℕ → List ℕ
word_store w class t number n store digits frames = cond (eqb w.place 20) (change_store w class t number n store frames) (code_store w t n store digits)

unfoldable pub word_frames : Wave → ℕ → Number → List ℕ → List ℕ → List ℕ
word_frames w class number store frames = cond (eqb w.place 20) (change_frames w class number store frames) frames
