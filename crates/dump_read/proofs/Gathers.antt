-- What a reader keeps of a whole word, by the word that is due. Assumes nothing.
use mathlib.Core.Path.{◌≡◌, refl, ◌∙◌, sym, ap}
use mathlib.Core.Bool.{Bool, true, false, cond, not, ◌&&◌, ◌||◌}
use mathlib.Core.List.{List, [], ◌∷◌, ◌++◌, map, append-nil}
use Prim.Native.Nat.{ℕ, suc, ◌+◌, ◌<◌, ◌≤◌}
use native.Mathlib.Omega.{arith}
use lib.Dec.{eqb, ltb}
use lib.ListN.{length, set, take, length-set}
use lib.Seq.{append_snoc, take-suc-set}
use borrow.Author.Tests.{eqb-true, eqb-false, ne_eqb, ltb-true, ltb-false, lt-ltb, le-ltb}
use Rattle.dump.specs.Changes.{value_of, all_values}
use Rattle.dump_words.specs.declared.text.Text.{Text}
use Rattle.dump_words.specs.declared.number.Number.{Number}
use Rattle.dump_words.specs.declared.scan.Scan.{Scan}
use Rattle.dump_words.specs.Gather.{no_text, no_number, text_add, number_add, scan_add}
use Rattle.dump_gathered.specs.Gathered.{text_of, number_of, scan_of, first_of_name, first_of_range, Bytes}
use Rattle.dump_declare.specs.declared.head.Head.{Head}
use Rattle.dump_declared.specs.Declared.{Kept}
use Rattle.dump_reader.specs.declared.word.Word.{Word}
use Rattle.dump_reader.specs.Machine.{begun_change, begun, vector_add, vector_digits, number_word, no_scan, name_scan, range_scan, continued, continued_digits}
use Rattle.dump_read.specs.Gathers.{continued_by, digits_by, word_of, digits_of, is_vector}

-- ONE MORE BYTE
by-snoc : (w : Word) (v : List ℕ) (b : ℕ) → continued_by w (v ++ (b ∷ [])) ≡ continued (continued_by w v) b
unfolding continued_by
by-snoc w [] b = refl
by-snoc w (a ∷ v) b = by-snoc (continued w a) v b

digits-by-snoc : (w : Word) (v : List ℕ) (b : ℕ) (digits : List ℕ) → digits_by w (v ++ (b ∷ [])) digits ≡ continued_digits (continued_by w v) b (digits_by w v digits)
unfolding continued_by digits_by
digits-by-snoc w [] b digits = refl
digits-by-snoc w (a ∷ v) b digits = digits-by-snoc (continued w a) v b (continued_digits w a digits)

pub word_first : (place b : ℕ) → word_of place b [] ≡ begun place b
unfolding word_of continued_by
word_first place b = refl

pub word-snoc : (place b : ℕ) (v : List ℕ) (x : ℕ) → word_of place b (v ++ (x ∷ [])) ≡ continued (word_of place b v) x
unfolding word_of
word-snoc place b v x = by-snoc (begun place b) v x

pub digits-first : (place b : ℕ) (digits : List ℕ) → digits_of place b [] digits ≡ digits
unfolding digits_of digits_by
digits-first place b digits = refl

pub digits-snoc : (place b : ℕ) (v : List ℕ) (x : ℕ) (digits : List ℕ) → digits_of place b (v ++ (x ∷ [])) digits ≡ continued_digits (word_of place b v) x (digits_of place b v digits)
unfolding word_of digits_of
digits-snoc place b v x digits = digits-by-snoc (begun place b) v x digits

-- THE CLASS STAYS, and so do the digits but those of a vector
if-list : (P : List ℕ → Type 0) (t : Bool) (x y : List ℕ) → P x → P y → P (cond t x y)
if-list P true x y p q = p
if-list P false x y p q = q

if_word : (P : Word → Type 0) (t : Bool) (x y : Word) → P x → P y → P (cond t x y)
if_word P true x y p q = p
if_word P false x y p q = q

continued-class : (w : Word) (b : ℕ) → (continued w b).class ≡ w.class
unfolding continued vector_add
continued-class w b =
    if_word (λ (x : Word). x.class ≡ w.class) (eqb w.class 4) _ _ refl
    (if_word (λ (x : Word). x.class ≡ w.class) (eqb w.class 2) _ _ refl (if_word (λ (x : Word). x.class ≡ w.class) (eqb w.class 3) _ _ refl refl))

by-class : (v : List ℕ) (w : Word) → (continued_by w v).class ≡ w.class
unfolding continued_by
by-class [] w = refl
by-class (b ∷ v) w = by-class v (continued w b) ∙ continued-class w b

pub class-is : (place b : ℕ) (v : List ℕ) → (word_of place b v).class ≡ (begun place b).class
unfolding word_of
class-is place b v = by-class v (begun place b)

abbrev Some : Word → Type 0
Some w = eqb w.class 0 ≡ false

begun-some : (place b : ℕ) → Some (begun place b)
unfolding begun begun_change
begun-some place b =
    if_word Some (eqb place 20) _ _ (if_word Some (eqb b 35) _ _ refl (if_word Some (eqb b 98) _ _ refl (if_word Some (eqb b 66) _ _ refl refl)))
    (if_word Some (eqb place 8) _ _ refl (if_word Some (eqb place 10) _ _ refl (if_word Some (eqb place 11) _ _ refl refl)))

pub class-some : (place b : ℕ) (v : List ℕ) → eqb (word_of place b v).class 0 ≡ false
class-some place b v = rw (class-is place b v) (begun-some place b)

continued-length : (w : Word) (b : ℕ) (digits : List ℕ) → length (continued_digits w b digits) ≡ length digits
unfolding continued_digits vector_digits
continued-length w b digits =
    if-list (λ (x : List ℕ). length x ≡ length digits) (eqb w.class 4) _ _
    (if-list (λ (x : List ℕ). length x ≡ length digits) (ltb w.count 4096) _ _ (length-set digits w.count (value_of b)) refl) refl

by_length : (v : List ℕ) (w : Word) (digits : List ℕ) → length (digits_by w v digits) ≡ length digits
unfolding digits_by
by_length [] w digits = refl
by_length (b ∷ v) w digits = by_length v (continued w b) (continued_digits w b digits) ∙ continued-length w b digits

pub digits-length : (place b : ℕ) (v digits : List ℕ) → length (digits_of place b v digits) ≡ length digits
unfolding digits_of
digits-length place b v digits = by_length v (begun place b) digits

by-same : (v : List ℕ) (w : Word) (digits : List ℕ) → eqb w.class 4 ≡ false → digits_by w v digits ≡ digits
unfolding digits_by continued_digits
by-same [] w digits e = refl
by-same (b ∷ v) w digits e =
    let f : cond (eqb w.class 4) (vector_digits w b digits) digits ≡ digits = rw e in
    ap (digits_by (continued w b) v) f ∙ by-same v (continued w b) digits (rw (continued-class w b) e)

pub digits_same : (place b : ℕ) (v digits : List ℕ) → eqb (word_of place b v).class 4 ≡ false → digits_of place b v digits ≡ digits
unfolding digits_of
digits_same place b v digits e = by-same v (begun place b) digits (rw (class-is place b v) at e)

-- TEXTS, NUMBERS AND SCANS
abbrev texted : Text → Word
texted t = record { class = 1; count = 0; wrong = 0; text = t; number = no_number; scan = no_scan }

abbrev scanning : Text → Scan → Word
scanning t s = record { class = 3; count = 0; wrong = 0; text = t; number = no_number; scan = s }

text-by : (v : List ℕ) (t : Text) → continued_by (texted t) v ≡ texted (text_of t v)
unfolding continued_by continued text_of
text-by [] t = refl
text-by (b ∷ v) t = text-by v (text_add t b)

number_by : (v : List ℕ) (n : Number) → continued_by (number_word n) v ≡ number_word (number_of n v)
unfolding continued_by continued number_of
number_by [] n = refl
number_by (b ∷ v) n = number_by v (number_add n b)

scan-by : (v : List ℕ) (t : Text) (s : Scan) → continued_by (scanning t s) v ≡ scanning (text_of t v) (scan_of s v)
unfolding continued_by continued text_of scan_of
scan-by [] t s = refl
scan-by (b ∷ v) t s = scan-by v (text_add t b) (scan_add s b)

abbrev pub whole_text : List ℕ → Word
whole_text w = record { class = 1; count = 0; wrong = 0; text = text_of no_text w; number = no_number; scan = no_scan }

abbrev pub whole_scan : List ℕ → Scan → Word
whole_scan w s = record { class = 3; count = 0; wrong = 0; text = text_of no_text w; number = no_number; scan = s }

pub word-8 : (b : ℕ) (v : List ℕ) → word_of 8 b v ≡ number_word (number_of no_number (b ∷ v))
unfolding word_of begun number_of
word-8 b v = number_by v (number_add no_number b)

abbrev scan_from : ℕ → ℕ → ℕ → Scan
scan_from kind counts phase = record { kind = kind; counts = counts; phase = phase; left = no_number; right = no_number }

name-scan : (b : ℕ) → name_scan b ≡ first_of_name b
unfolding name_scan first_of_name
name-scan b = go (eqb b 92)
  where
    go : (t : Bool) → cond t (scan_from 1 0 0) (scan_from 0 1 0) ≡ scan_from (cond t 1 0) (cond t 0 1) 0
    go true = refl
    go false = refl

range-scan : (b : ℕ) → range_scan b ≡ first_of_range b
unfolding range_scan first_of_range
range-scan b = go (eqb b 91)
  where
    go : (t : Bool) → cond t (scan_from 2 0 1) (scan_from 2 0 0) ≡ scan_from 2 0 (cond t 1 0)
    go true = refl
    go false = refl

pub word-10 : (b : ℕ) (v : List ℕ) → word_of 10 b v ≡ whole_scan (b ∷ v) (scan_of (first_of_name b) v)
unfolding word_of begun text_of
word-10 b v = rw (name-scan b) (scan-by v (text_add no_text b) (first_of_name b))

pub word-11 : (b : ℕ) (v : List ℕ) → word_of 11 b v ≡ whole_scan (b ∷ v) (scan_of (first_of_range b) v)
unfolding word_of begun text_of
word-11 b v = rw (range-scan b) (scan-by v (text_add no_text b) (first_of_range b))

pub word-other : (place b : ℕ) (v : List ℕ) → (place ≡ 20 → ⊥) → (place ≡ 8 → ⊥) → (place ≡ 10 → ⊥) → (place ≡ 11 → ⊥) → word_of place b v ≡ whole_text (b ∷ v)
unfolding word_of begun text_of
word-other place b v p q r s = rw (ne_eqb place 20 p, ne_eqb place 8 q, ne_eqb place 10 r, ne_eqb place 11 s) (text-by v (text_add no_text b))

-- WHERE A CHANGE IS DUE
pub word-stamp : (b : ℕ) (v : List ℕ) → b ≡ 35 → word_of 20 b v ≡ number_word (number_of no_number v)
unfolding word_of begun begun_change
word-stamp b v e = rw e (number_by v no_number)

pub word-change : (b : ℕ) (v : List ℕ) → eqb b 35 ≡ false → is_vector b ≡ false → word_of 20 b v ≡ whole_text (b ∷ v)
unfolding word_of begun begun_change text_of
word-change b v e = go (eqb b 98) refl (eqb b 66) refl
  where
    go : (s : Bool) → eqb b 98 ≡ s → (t : Bool) → eqb b 66 ≡ t → (s || t) ≡ false → continued_by (begun 20 b) v ≡ whole_text (b ∷ v)
    go true f t g h = let z : ◌≡◌ {A = ℕ} 0 1 = cc in absurd (omega arith)
    go false f true g h = let z : ◌≡◌ {A = ℕ} 0 1 = cc in absurd (omega arith)
    go false f false g h = rw (e, f, g) (text-by v (text_add no_text b))

-- VECTORS: c digits so far
abbrev digited : ℕ → ℕ → Word
digited c z = record { class = 4; count = c; wrong = z; text = no_text; number = no_number; scan = no_scan }

begun-vector : (b : ℕ) → is_vector b ≡ true → begun 20 b ≡ digited 0 0
unfolding begun begun_change
begun-vector b = go (eqb b 98) refl (eqb b 66) refl
  where
    go : (s : Bool) → eqb b 98 ≡ s → (t : Bool) → eqb b 66 ≡ t → (s || t) ≡ true → begun 20 b ≡ digited 0 0
    go true f t g h = rw (eqb-true b 98 f)
    go false f true g h = rw (eqb-true b 66 g)
    go false f false g h = let z : ◌≡◌ {A = ℕ} 0 1 = cc in absurd (omega arith)

abbrev more : ℕ → ℕ
more c = cond (ltb c 4096) (c + 1) 4097

count_by : (v : List ℕ) (c z : ℕ) → c ≤ 4097 → (continued_by (digited c z) v).count ≡ cond (ltb (c + length v) 4097) (c + length v) 4097
unfolding continued_by continued vector_add
count_by [] c z h = go (ltb c 4097) refl
  where
    go : (t : Bool) → ltb c 4097 ≡ t → c ≡ cond (ltb (c + 0) 4097) (c + 0) 4097
    go true e = let f : c + 0 ≡ c = omega arith in rw (f, e)
    go false e = let f : c + 0 ≡ c = omega arith in rw (f, e) (omega (arith, ltb-false c 4097 e))
count_by (b ∷ v) c z h = go (λ x y k. count_by v x y k) (ltb c 4096) refl
  where
    go : ((x y : ℕ) → x ≤ 4097 → (continued_by (digited x y) v).count ≡ cond (ltb (x + length v) 4097) (x + length v) 4097) → (t : Bool) → ltb c 4096 ≡ t
        → (continued_by (digited (cond (ltb c 4096) (c + 1) 4097) (cond (eqb (value_of b) 3) 1 z)) v).count ≡ cond (ltb (c + suc (length v)) 4097) (c + suc (length v)) 4097
    go ih true e =
        let k : c < 4096 = ltb-true c 4096 e in
        let f : c + suc (length v) ≡ c + 1 + length v = omega arith in
        rw (e, f) (ih (c + 1) (cond (eqb (value_of b) 3) 1 z) (omega arith))
    go ih false e =
        let k : 4096 ≤ c = ltb-false c 4096 e in
        rw (e, le-ltb (c + suc (length v)) 4097 (omega arith)) (ih 4097 (cond (eqb (value_of b) 3) 1 z) (omega arith) ∙ rw (le-ltb (4097 + length v) 4097 (omega arith)))

-- a value is at most 3, and 3 is wrong
value_is : (b : ℕ) → eqb (value_of b) 3 ≡ not (ltb (value_of b) 3)
unfolding value_of
value_is b = go (eqb b 48) (eqb b 49) (eqb b 120 || eqb b 88 || eqb b 122 || eqb b 90)
  where
    go : (x y z : Bool) → eqb (cond x 0 (cond y 1 (cond z 2 3))) 3 ≡ not (ltb (cond x 0 (cond y 1 (cond z 2 3))) 3)
    go true y z = refl
    go false true z = refl
    go false false true = refl
    go false false false = refl

wrong-by : (v : List ℕ) (c z : ℕ) → eqb (continued_by (digited c z) v).wrong 0 ≡ (eqb z 0 && all_values v)
unfolding continued_by continued vector_add all_values
wrong-by [] c z = go (eqb z 0)
  where
    go : (t : Bool) → t ≡ (t && true)
    go true = refl
    go false = refl
wrong-by (b ∷ v) c z = wrong-by v (more c) (cond (eqb (value_of b) 3) 1 z) ∙ rw (value_is b) (go (ltb (value_of b) 3) (eqb z 0) refl)
  where
    go : (t u : Bool) → eqb z 0 ≡ u → (eqb (cond (not t) 1 z) 0 && all_values v) ≡ (u && (t && all_values v))
    go true u e = rw e
    go false true e = refl
    go false false e = refl

digits-by : (v : List ℕ) (c z : ℕ) (digits : List ℕ) → length digits ≡ 4096 → c + length v ≤ 4096 → take (c + length v) (digits_by (digited c z) v digits) ≡ take c digits ++ map value_of v
unfolding digits_by continued_digits continued vector_add vector_digits
digits-by [] c z digits l h = let f : c + 0 ≡ c = omega arith in rw f (sym (append-nil (take c digits)))
digits-by (b ∷ v) c z digits l h =
    let k : c < 4096 = omega arith in
    let f : c + suc (length v) ≡ suc c + length v = omega arith in
    let g : c + 1 ≡ suc c = omega arith in
    rw (lt-ltb c 4096 k, f, g)
    (digits-by v (suc c) (cond (eqb (value_of b) 3) 1 z) (set digits c (value_of b)) (simp length-set l) (omega arith)
    ∙ rw (take-suc-set digits c (value_of b) (omega arith)) (append_snoc (take c digits) (value_of b) (map value_of v)))

module _ (b : ℕ) (v : List ℕ) (vector : is_vector b ≡ true) where
  pub vector-class : (word_of 20 b v).class ≡ 4
  vector-class = class-is 20 b v ∙ ap (λ (w : Word). w.class) (begun-vector b vector)

  pub vector-count : (word_of 20 b v).count ≡ cond (ltb (length v) 4097) (length v) 4097
  unfolding word_of
  vector-count = let f : 0 + length v ≡ length v = omega arith in rw (begun-vector b vector) (rw f at (count_by v 0 0 (omega arith)))

  pub vector-wrong : eqb (word_of 20 b v).wrong 0 ≡ all_values v
  unfolding word_of
  vector-wrong = rw (begun-vector b vector) (wrong-by v 0 0)

  pub vector-digits : (digits : List ℕ) → length digits ≡ 4096 → length v ≤ 4096 → take (length v) (digits_of 20 b v digits) ≡ map value_of v
  unfolding digits_of
  vector-digits digits l h = let f : 0 + length v ≡ length v = omega arith in rw (begun-vector b vector) (rw f at (digits-by v 0 0 digits l (omega arith)))

-- IN THE DECLARATIONS it is what `declared-step` asks for
pub word_kept : (h : Head) (b : ℕ) (v : List ℕ) → Bytes (b ∷ v) → h.place < 20 → Kept h b v (word_of h.place b v).text (word_of h.place b v).number (word_of h.place b v).scan
word_kept h b v bytes k = record {
  bytes = bytes;
  text_equals = texts h.place k;
  number_is = λ e. at_8 h.place e;
  name_is = λ e. at-10 h.place e;
  range_is = λ e. at-11 h.place e;
}
  where
    at_8 : (p : ℕ) → p ≡ 8 → (word_of p b v).number ≡ number_of no_number (b ∷ v)
    at_8 p e = rw e (ap (λ (w : Word). w.number) (word-8 b v))

    at-10 : (p : ℕ) → p ≡ 10 → (word_of p b v).scan ≡ scan_of (first_of_name b) v
    at-10 p e = rw e (ap (λ (w : Word). w.scan) (word-10 b v))

    at-11 : (p : ℕ) → p ≡ 11 → (word_of p b v).scan ≡ scan_of (first_of_range b) v
    at-11 p e = rw e (ap (λ (w : Word). w.scan) (word-11 b v))

    texts : (p : ℕ) → p < 20 → (p ≡ 8 → ⊥) → (word_of p b v).text ≡ text_of no_text (b ∷ v)
    texts p k q = go (eqb p 10) refl (eqb p 11) refl
      where
        go : (s : Bool) → eqb p 10 ≡ s → (t : Bool) → eqb p 11 ≡ t → (word_of p b v).text ≡ text_of no_text (b ∷ v)
        go true e t f = rw (eqb-true p 10 e) (ap (λ (w : Word). w.text) (word-10 b v))
        go false e true f = rw (eqb-true p 11 f) (ap (λ (w : Word). w.text) (word-11 b v))
        go false e false f = ap (λ (w : Word). w.text) (word-other p b v (λ z. omega arith) q (eqb-false p 10 e) (eqb-false p 11 f))
