-- Laws of whole words: what the loops over them do is what the machine does byte by byte. Assumes nothing.
use mathlib.Core.Path.{◌≡◌, refl, ◌∙◌, sym, ap}
use mathlib.Core.Bool.{Bool, true, false}
use mathlib.Core.List.{List, [], ◌∷◌}
use Prim.Native.Nat.{ℕ, suc, ◌+◌, ◌%◌, ◌<◌, ◌≤◌}
use native.Mathlib.Omega.{arith}
use native.Mathlib.Numerals.{add-one}
use lib.Dec.{eqb, ltb}
use lib.ListN.{length, get_or, set, drop}
use lib.Seq.{drop-cons, drop-length}
use borrow.Author.Tests.{lt-leb, eq-eqb, ne_eqb, lt-ltb, le-ltb, ltb-true, ltb-false}
use Rattle.dump.specs.Text.{blank}
use Rattle.dump.specs.Changes.{value_of}
use Rattle.dump_words.specs.declared.text.Text.{Text}
use Rattle.dump_words.specs.declared.number.Number.{Number}
use Rattle.dump_words.specs.Gather.{no_text, no_number, text_add, number_add}
use Rattle.dump_find.specs.Find.{bounded, lookup}
use Rattle.dump_values.specs.Values.{bits_changed}
use Rattle.dump_change.specs.Change.{word_wave, word_store, word_frames, change_wave, change_store, change_frames, text_wave, text_store, on_scalar, scalar_test, scalar_store, scalar_change, on_vector, code_wave, code_store, on_vector_code, vector_test, vector_store, vector_change}
use Rattle.dump_declare.specs.declared.head.Head.{Head}
use Rattle.dump_change.specs.declared.wave.Wave.{Wave}
use Rattle.dump_change.specs.Change as C
use Rattle.dump_reader.specs.declared.word.Word.{Word}
use Rattle.dump_reader.specs.declared.state.Reader.{Reader}
use Rattle.dump_reader.specs.declared.changes.Changes.{Changes}
use Rattle.dump_reader.specs.Machine.{All, no_word, number_word, with_word, place_of, refused, begun, vector_add, vector_digits, continued, continued_digits, new_line, end_change, end_word, closed_word, add_byte, lined, byte_step, step, feed}
use Rattle.dump_reader.specs.Runs.{text_of, vector_of, put, Gathers, open_word, amid, Goes, past_blank, behind_word, begun_as, Due, Scalar, vectored, Vectored}
use Rattle.dump_reader.proofs.Laws.{above-blanks, feed-refused}

stepped : (a : All) (b : ℕ) → refused a.reader ≡ false → step a b ≡ byte_step a b
unfolding step
stepped a b g = simp g

-- one byte is fed
pub one_byte : (a : All) (bs : List ℕ) (i : ℕ) → i < length bs → refused a.reader ≡ false → feed a (drop i bs) ≡ feed (byte_step a (get_or bs i 0)) (drop (i + 1) bs)
unfolding feed
one_byte a bs i h g = rw (add-one, drop-cons bs i 0 h) (ap (λ (x : All). feed x (drop (suc i) bs)) (stepped a (get_or bs i 0) g))

-- BYTES OF ONE WORD
module _ (bs : List ℕ) (i : ℕ) (inside : i < length bs) (full : blank (get_or bs i 0) ≡ false) where
  pub gather_more : (w w' : Word) (d : List ℕ) → (w.class ≡ 0 → ⊥) → (w.class ≡ 4 → ⊥) → w' ≡ continued w (get_or bs i 0) → Gathers bs w i d w' (i + 1) d
  unfolding byte_step add_byte continued_digits refused place_of
  gather_more w w' d h k e a g = rw e (one_byte (put a w d) bs i inside g ∙ simp (full, ne_eqb w.class 0 h, ne_eqb w.class 4 k))

  pub vector-more : (k v : ℕ) (d : List ℕ) → k < 4096 → v ≡ value_of (get_or bs i 0) → (v ≡ 3 → ⊥) → Gathers bs (vector_of k) i d (vector_of (k + 1)) (i + 1) (set d k v)
  unfolding byte_step add_byte continued continued_digits vector_add vector_digits refused place_of
  vector-more k v d h e m a g = rw e (one_byte (put a (vector_of k) d) bs i inside g ∙ simp (full, lt-ltb k 4096 h, ne_eqb (value_of (get_or bs i 0)) 3 (λ x. m (e ∙ x))))

-- a digit is no white space
low-none : (b : ℕ) → b ≤ 32 → value_of b ≡ 3
unfolding value_of
low-none b h = simp (ne_eqb b 48 (λ e. omega (arith, e, h)), ne_eqb b 49 (λ e. omega (arith, e, h)), ne_eqb b 120 (λ e. omega (arith, e, h)), ne_eqb b 88 (λ e. omega (arith, e, h)), ne_eqb b 122 (λ e. omega (arith, e, h)), ne_eqb b 90 (λ e. omega (arith, e, h)))

full_by : (q : Bool) (b : ℕ) → ltb 32 b ≡ q → (value_of b ≡ 3 → ⊥) → blank b ≡ false
full_by true b e h = sym (above-blanks b (ltb-true 32 b e))
full_by false b e h = absurd (h (low-none b (ltb-false 32 b e)))

pub digit-full : (b : ℕ) → (value_of b ≡ 3 → ⊥) → blank b ≡ false
digit-full b h = full_by (ltb 32 b) b refl h

-- AMONG THE CHANGES
module _ (h : Head) (c : Changes) (s d f : List ℕ) (bs : List ℕ) (due : Due c bs) (p : h.place ≡ 20) where
  amid-going : refused (amid h c s d f).reader ≡ false
  unfolding refused place_of
  amid-going = simp (eq-eqb h.place 20 p, lt-leb 100 c.wave.place due.going)

  -- a word is begun
  pub word-begun : feed (amid h c s d f) (drop c.at bs) ≡ feed (put (amid h c s d f) (begun c.wave.place (get_or bs c.at 0)) d) (drop (c.at + 1) bs)
  unfolding byte_step add_byte place_of open_word
  word-begun = one_byte (amid h c s d f) bs c.at due.inside amid-going ∙ simp (due.full, eq-eqb c.held 0 due.closed, eq-eqb h.place 20 p)

  pub word-run : (k j : ℕ) (w : Word) (d' : List ℕ) → begun c.wave.place (get_or bs c.at 0) ≡ begun_as k (get_or bs c.at 0) → Gathers bs (begun_as k (get_or bs c.at 0)) (c.at + 1) d w j d' → feed (amid h c s d f) (drop c.at bs) ≡ feed (put (amid h c s d f) w d') (drop j bs)
  word-run k j w d' e g = word-begun ∙ rw e (g (amid h c s d f) amid-going)

-- white space passes
lined-past : (q : Bool) (h : Head) (c : Changes) (s d f : List ℕ) (k b : ℕ) → eqb b 10 ≡ q → lined (amid h c s d f) b ≡ amid h (past_blank c k b) s d f
unfolding new_line past_blank
lined-past true h c s d f k b e = simp e
lined-past false h c s d f k b e = simp e

past-at-by : (q : Bool) (c : Changes) (k b : ℕ) → eqb b 10 ≡ q → (past_blank c k b).at ≡ k
unfolding past_blank
past-at-by true c k b e = simp e
past-at-by false c k b e = simp e

pub past-at : (c : Changes) (k b : ℕ) → (past_blank c k b).at ≡ k
past-at c k b = past-at-by (eqb b 10) c k b refl

blank_step : (a : All) (b : ℕ) → blank b ≡ true → byte_step a b ≡ lined (closed_word a) b
unfolding byte_step
blank_step a b w = simp w

closed-amid : (h : Head) (c : Changes) (s d f : List ℕ) → c.held ≡ 0 → closed_word (amid h c s d f) ≡ amid h c s d f
unfolding closed_word open_word
closed-amid h c s d f z = simp (eq-eqb c.held 0 z)

pub past-goes : (h : Head) (c : Changes) (s d f bs : List ℕ) → h.place ≡ 20 → c.at < length bs → c.held ≡ 0 → c.wave.place < 100 → blank (get_or bs c.at 0) ≡ true → feed (amid h c s d f) (drop c.at bs) ≡ feed (amid h (past_blank c (c.at + 1) (get_or bs c.at 0)) s d f) (drop (past_blank c (c.at + 1) (get_or bs c.at 0)).at bs)
unfolding refused place_of
past-goes h c s d f bs p i z g w =
    one_byte (amid h c s d f) bs c.at i (simp (eq-eqb h.place 20 p, lt-leb 100 c.wave.place g))
    ∙ ap (λ (x : All). feed x (drop (c.at + 1) bs)) (blank_step (amid h c s d f) (get_or bs c.at 0) w ∙ ap (λ (x : All). lined x (get_or bs c.at 0)) (closed-amid h c s d f z) ∙ lined-past (eqb (get_or bs c.at 0) 10) h c s d f (c.at + 1) (get_or bs c.at 0) refl)
    ∙ ap (λ (k : ℕ). feed (amid h (past_blank c (c.at + 1) (get_or bs c.at 0)) s d f) (drop k bs)) (sym (past-at c (c.at + 1) (get_or bs c.at 0)))

-- a word ends
closed-word : (a : All) → (a.reader.word.class ≡ 0 → ⊥) → closed_word a ≡ end_word a
unfolding closed_word
closed-word a h = simp (ne_eqb a.reader.word.class 0 h)

module _ (h : Head) (c : Changes) (s d f : List ℕ) (w : Word) (n : ℕ) (v : Wave) (s' f' : List ℕ) (p : h.place ≡ 20) (q : bounded h.codes ≡ n) (ev : v ≡ C.word_wave c.wave w.class w.text w.number w.count w.wrong n s f) (es : s' ≡ C.word_store c.wave w.class w.text w.number n s d f) (ef : f' ≡ C.word_frames c.wave w.class w.number s f) where
  ended-amid : end_word (put (amid h c s d f) w d) ≡ amid h (behind_word c v) s' d f'
  unfolding end_word end_change open_word
  ended-amid = rw (ev, es, ef, ← q) (simp (eq-eqb h.place 20 p))

  pub word-close : (bs : List ℕ) (j : ℕ) → j < length bs → blank (get_or bs j 0) ≡ true → c.wave.place < 100 → (w.class ≡ 0 → ⊥) → feed (put (amid h c s d f) w d) (drop j bs) ≡ feed (amid h (past_blank (behind_word c v) (j + 1) (get_or bs j 0)) s' d f') (drop (past_blank (behind_word c v) (j + 1) (get_or bs j 0)).at bs)
  unfolding refused place_of
  word-close bs j i b g k =
      one_byte (put (amid h c s d f) w d) bs j i (simp (eq-eqb h.place 20 p, lt-leb 100 c.wave.place g))
      ∙ ap (λ (x : All). feed x (drop (j + 1) bs)) (blank_step (put (amid h c s d f) w d) (get_or bs j 0) b ∙ ap (λ (x : All). lined x (get_or bs j 0)) (closed-word (put (amid h c s d f) w d) k ∙ ended-amid) ∙ lined-past (eqb (get_or bs j 0) 10) h (behind_word c v) s' d f' (j + 1) (get_or bs j 0) refl)
      ∙ ap (λ (k : ℕ). feed (amid h (past_blank (behind_word c v) (j + 1) (get_or bs j 0)) s' d f') (drop k bs)) (sym (past-at (behind_word c v) (j + 1) (get_or bs j 0)))

-- a vector stays open
pub held_word : (k : ℕ) → vector_of k ≡ open_word (k + 1)
unfolding open_word
held_word k = sym (simp (ne_eqb (k + 1) 0 (λ e. omega (arith, e))) (ap vector_of (omega arith)))

-- a word begins: what stood in its place is forgotten
abbrev four_of : Reader → List ℕ → List ℕ → List ℕ → All
four_of r s d f = record { reader = r; store = s; digits = d; frames = f }

fresh_step : (r : Reader) (s d f : List ℕ) (b : ℕ) → blank b ≡ false → r.word.class ≡ 0 → byte_step (four_of r s d f) b ≡ byte_step (four_of (with_word r no_word) s d f) b
unfolding byte_step add_byte place_of
fresh_step r s d f b h k = simp (h, eq-eqb r.word.class 0 k)

pub fresh_start : (r : Reader) (s d f bs : List ℕ) (i : ℕ) → i < length bs → refused r ≡ false → blank (get_or bs i 0) ≡ false → r.word.class ≡ 0 → feed (four_of r s d f) (drop i bs) ≡ feed (four_of (with_word r no_word) s d f) (drop i bs)
unfolding refused place_of
fresh_start r s d f bs i h g b k =
    one_byte (four_of r s d f) bs i h g
    ∙ ap (λ (x : All). feed x (drop (i + 1) bs)) (fresh_step r s d f (get_or bs i 0) b k)
    ∙ sym (one_byte (four_of (with_word r no_word) s d f) bs i h g)

-- A SCALAR that is good
pub scalar_made : (t : Text) (n : ℕ) (store store' : List ℕ) (i v : ℕ) → v ≡ value_of (t.low % 256) → v < 3 → 2 ≤ t.length → t.length ≤ 9 → t.plain ≡ 1 → i ≡ lookup store n (C.tail_code t) → i < n → get_or store (1024 + i) 0 ≡ 1 → (get_or store (2048 + i) 0 ≡ 2 → ⊥) → store' ≡ bits_changed store (v ∷ []) 1 (C.tail_code t) i → Scalar t n store store'
unfolding word_wave word_store word_frames change_wave change_store change_frames text_wave text_store on_scalar scalar_test scalar_store scalar_change
scalar_made t n store store' i v ev hv l2 l9 pl ei hi w1 w2 es w d f p = (
  simp (eq-eqb w.place 20 p, ← ev, lt-ltb v 3 hv, le-ltb t.length 2 l2, le-ltb 9 t.length l9, ← ei, eq-eqb t.plain 1 pl, lt-ltb i n hi, eq-eqb (get_or store (1024 + i) 0) 1 w1, ne_eqb (get_or store (2048 + i) 0) 2 w2) (ap (C.at w) p),
  rw es (sym (simp (eq-eqb w.place 20 p, ← ev, lt-ltb v 3 hv, le-ltb t.length 2 l2, le-ltb 9 t.length l9, ← ei, eq-eqb t.plain 1 pl, lt-ltb i n hi, eq-eqb (get_or store (1024 + i) 0) 1 w1, ne_eqb (get_or store (2048 + i) 0) 2 w2))),
  sym (simp (eq-eqb w.place 20 p)),
)

-- A VECTOR that is good
both-kept : (w : Wave) → w.place ≡ 20 → w.count ≡ 0 → w ≡ C.cleared w
both-kept w p z =
    ap (λ (x : ℕ). record { place = x; identifier = w.identifier; dumping = w.dumping; count = w.count; stamped = w.stamped; stamp = w.stamp; frames = w.frames }) p
    ∙ ap (λ (x : ℕ). record { place = 20; identifier = w.identifier; dumping = w.dumping; count = x; stamped = w.stamped; stamp = w.stamp; frames = w.frames }) z

pub vector-made : (t : Text) (count n : ℕ) (store digits store' : List ℕ) (i : ℕ) → (count ≡ 0 → ⊥) → count ≤ 4096 → t.length ≤ 8 → t.plain ≡ 1 → C.is_end t ≡ false → i ≡ lookup store n t.low → i < n → (get_or store (2048 + i) 0 ≡ 2 → ⊥) → count ≤ get_or store (1024 + i) 0 → store' ≡ bits_changed store digits count t.low i → Vectored t count n store digits store'
unfolding word_wave word_store change_wave on_vector code_wave code_store on_vector_code vector_test vector_store vector_change
vector-made t count n store digits store' i c0 cm l8 pl en ei hi w2 cw es w f p z = (
  sym (simp (eq-eqb w.place 20 p, ne_eqb count 0 c0)),
  simp (le-ltb 8 t.length l8, en, ← ei, eq-eqb t.plain 1 pl, lt-ltb i n hi, ne_eqb (get_or store (2048 + i) 0) 2 w2, le-ltb (get_or store (1024 + i) 0) count cw) (both-kept w p z),
  rw es (sym (simp (le-ltb 8 t.length l8, en, ← ei, eq-eqb t.plain 1 pl, lt-ltb i n hi, ne_eqb (get_or store (2048 + i) 0) 2 w2, le-ltb (get_or store (1024 + i) 0) count cw, ne_eqb count 0 c0, le-ltb 4096 count cm))),
)

-- of the two words of a vector, the first leaves the store, and both the frames
vector-store : (w : Wave) (n : ℕ) (s d f : List ℕ) → w.place ≡ 20 → s ≡ C.word_store w 4 no_text no_number n s d f
unfolding word_store change_store
vector-store w n s d f p = sym (simp (eq-eqb w.place 20 p))

vector-frames : (w : Wave) (s f : List ℕ) → w.place ≡ 20 → f ≡ C.word_frames w 4 no_number s f
unfolding word_frames change_frames
vector-frames w s f p = sym (simp (eq-eqb w.place 20 p))

code-frames : (w : Wave) (count : ℕ) (s f : List ℕ) → f ≡ C.word_frames (vectored w count) 1 no_number s f
unfolding word_frames
code-frames w count s f = refl

code-begun : (b : ℕ) → begun 21 b ≡ begun_as 1 b
unfolding begun begun_as
code-begun b = refl

past-held-by : (q : Bool) (c : Changes) (k b : ℕ) → eqb b 10 ≡ q → (past_blank c k b).held ≡ c.held
unfolding past_blank
past-held-by true c k b e = simp e
past-held-by false c k b e = simp e

past-wave-by : (q : Bool) (c : Changes) (k b : ℕ) → eqb b 10 ≡ q → (past_blank c k b).wave ≡ c.wave
unfolding past_blank
past-wave-by true c k b e = simp e
past-wave-by false c k b e = simp e

-- behind a word, what the wave was before it is forgotten
behind-any : (q : Bool) (c : Changes) (v w u : Wave) (k b : ℕ) → eqb b 10 ≡ q → behind_word (past_blank (behind_word c v) k b) u ≡ behind_word (past_blank (behind_word c w) k b) u
unfolding past_blank
behind-any true c v w u k b e = simp e
behind-any false c v w u k b e = simp e

pub behind-past : (c x r : Changes) (v : Wave) (k b : ℕ) → x ≡ behind_word c v → r ≡ past_blank x k b → r ≡ past_blank (behind_word c v) k b
behind-past c x r v k b e h = h ∙ ap (λ (y : Changes). past_blank y k b) e

-- WHOLE WORDS
pub by-past : (n : ℕ) (bs : List ℕ) (c r y : Changes) (k b : ℕ) (s d f s' d' f' : List ℕ) → r ≡ past_blank y k b → c.at ≤ k → k ≤ length bs → Goes n bs c s d f (past_blank y k b) s' d' f' → (c.at ≤ r.at) × (r.at ≤ length bs) × Goes n bs c s d f r s' d' f'
by-past n bs c r y k b s d f s' d' f' e l m g = rw e (rw (past-at y k b) l, rw (past-at y k b) m, g)

pub by-past-all : (n : ℕ) (bs : List ℕ) (c r y : Changes) (k b : ℕ) (s s' : List ℕ) → r ≡ past_blank y k b → c.at ≤ k → k ≤ length bs → ((d f : List ℕ) → Goes n bs c s d f (past_blank y k b) s' d f) → (c.at ≤ r.at) × (r.at ≤ length bs) × ((d f : List ℕ) → Goes n bs c s d f r s' d f)
by-past-all n bs c r y k b s s' e l m g = rw e (rw (past-at y k b) l, rw (past-at y k b) m, g)

pub blank-all : (n : ℕ) (bs : List ℕ) (c r : Changes) (s : List ℕ) → r ≡ past_blank c (c.at + 1) (get_or bs c.at 0) → c.at < length bs → c.held ≡ 0 → c.wave.place < 100 → blank (get_or bs c.at 0) ≡ true → (c.at ≤ r.at) × (r.at ≤ length bs) × ((d f : List ℕ) → Goes n bs c s d f r s d f)
blank-all n bs c r s e i z g w = by-past-all n bs c r c (c.at + 1) (get_or bs c.at 0) s s e (omega arith) (omega arith) (λ d f h p q. past-goes h c s d f bs p i z g w)

module _ (c : Changes) (bs : List ℕ) (due : Due c bs) (n : ℕ) (s d d' f : List ℕ) (k j : ℕ) (w : Word) (e : begun c.wave.place (get_or bs c.at 0) ≡ begun_as k (get_or bs c.at 0)) (g : Gathers bs (begun_as k (get_or bs c.at 0)) (c.at + 1) d w j d') where
  pub whole : (v : Wave) (s' f' : List ℕ) → j < length bs → blank (get_or bs j 0) ≡ true → (w.class ≡ 0 → ⊥) → v ≡ C.word_wave c.wave w.class w.text w.number w.count w.wrong n s f → s' ≡ C.word_store c.wave w.class w.text w.number n s d' f → f' ≡ C.word_frames c.wave w.class w.number s f → Goes n bs c s d f (past_blank (behind_word c v) (j + 1) (get_or bs j 0)) s' d' f'
  whole v s' f' i b x ev es ef h p q = word-run h c s d f bs due p k j w d' e g ∙ word-close h c s d' f w n v s' f' p q ev es ef bs j i b due.going x

text-from : (bs : List ℕ) (b i j : ℕ) (first t : Text) (d : List ℕ) → first ≡ text_add no_text b → Gathers bs (text_of first) i d (text_of t) j d → Gathers bs (begun_as 1 b) i d (text_of t) j d
unfolding begun_as
text-from bs b i j first t d e g a x = ap (λ (t : Text). feed (put a (text_of t) d) (drop i bs)) (sym e) ∙ g a x

number-from : (bs : List ℕ) (b i j : ℕ) (t : Number) (d : List ℕ) → Gathers bs (number_word no_number) i d (number_word t) j d → Gathers bs (begun_as 2 b) i d (number_word t) j d
unfolding begun_as
number-from bs b i j t d g = g

vector-from : (bs : List ℕ) (b i j k : ℕ) (d d' : List ℕ) → Gathers bs (vector_of 0) i d (vector_of k) j d' → Gathers bs (begun_as 4 b) i d (vector_of k) j d'
unfolding begun_as
vector-from bs b i j k d d' g = g

module _ (c : Changes) (bs : List ℕ) (due : Due c bs) (n : ℕ) (s : List ℕ) (j : ℕ) (inside : j < length bs) (after : c.at + 1 ≤ j) (space : blank (get_or bs j 0) ≡ true) where
  pub scalar-whole : (first t : Text) (s' : List ℕ) (r : Changes) → begun c.wave.place (get_or bs c.at 0) ≡ begun_as 1 (get_or bs c.at 0) → first ≡ text_add no_text (get_or bs c.at 0) → ((d : List ℕ) → Gathers bs (text_of first) (c.at + 1) d (text_of t) j d) → Scalar t n s s' → c.wave.place ≡ 20 → r ≡ past_blank (behind_word c c.wave) (j + 1) (get_or bs j 0) → (c.at ≤ r.at) × (r.at ≤ length bs) × ((d f : List ℕ) → Goes n bs c s d f r s' d f)
  scalar-whole first t s' r e x g m p er =
      by-past-all n bs c r (behind_word c c.wave) (j + 1) (get_or bs j 0) s s' er (omega arith) (omega arith)
      (λ d f. whole c bs due n s d d f 1 j (text_of t) e (text-from bs (get_or bs c.at 0) (c.at + 1) j first t d x (g d)) c.wave s' f inside space (λ z. omega (arith, z)) (m c.wave d f p).0 (m c.wave d f p).1 (m c.wave d f p).2)

  module _ (d f s' f' : List ℕ) (v : Wave) (r : Changes) (er : r ≡ past_blank (behind_word c v) (j + 1) (get_or bs j 0)) where
    pub text-whole : (first t : Text) → begun c.wave.place (get_or bs c.at 0) ≡ begun_as 1 (get_or bs c.at 0) → first ≡ text_add no_text (get_or bs c.at 0) → Gathers bs (text_of first) (c.at + 1) d (text_of t) j d → v ≡ C.word_wave c.wave 1 t no_number 0 0 n s f → s' ≡ C.word_store c.wave 1 t no_number n s d f → f' ≡ C.word_frames c.wave 1 no_number s f → (c.at ≤ r.at) × (r.at ≤ length bs) × Goes n bs c s d f r s' d f'
    text-whole first t e x g ev es ef = by-past n bs c r (behind_word c v) (j + 1) (get_or bs j 0) s d f s' d f' er (omega arith) (omega arith) (whole c bs due n s d d f 1 j (text_of t) e (text-from bs (get_or bs c.at 0) (c.at + 1) j first t d x g) v s' f' inside space (λ z. omega (arith, z)) ev es ef)

    pub number-whole : (t : Number) → begun c.wave.place (get_or bs c.at 0) ≡ begun_as 2 (get_or bs c.at 0) → Gathers bs (number_word no_number) (c.at + 1) d (number_word t) j d → v ≡ C.word_wave c.wave 2 no_text t 0 0 n s f → s' ≡ C.word_store c.wave 2 no_text t n s d f → f' ≡ C.word_frames c.wave 2 t s f → (c.at ≤ r.at) × (r.at ≤ length bs) × Goes n bs c s d f r s' d f'
    number-whole t e g ev es ef = by-past n bs c r (behind_word c v) (j + 1) (get_or bs j 0) s d f s' d f' er (omega arith) (omega arith) (whole c bs due n s d d f 2 j (number_word t) e (number-from bs (get_or bs c.at 0) (c.at + 1) j t d g) v s' f' inside space (λ z. omega (arith, z)) ev es ef)

    pub vector-whole : (k : ℕ) (d' : List ℕ) → begun c.wave.place (get_or bs c.at 0) ≡ begun_as 4 (get_or bs c.at 0) → Gathers bs (vector_of 0) (c.at + 1) d (vector_of k) j d' → v ≡ C.word_wave c.wave 4 no_text no_number k 0 n s f → s' ≡ C.word_store c.wave 4 no_text no_number n s d' f → f' ≡ C.word_frames c.wave 4 no_number s f → (c.at ≤ r.at) × (r.at ≤ length bs) × Goes n bs c s d f r s' d' f'
    vector-whole k d' e g ev es ef = by-past n bs c r (behind_word c v) (j + 1) (get_or bs j 0) s d f s' d' f' er (omega arith) (omega arith) (whole c bs due n s d d' f 4 j (vector_of k) e (vector-from bs (get_or bs c.at 0) (c.at + 1) j k d d' g) v s' f' inside space (λ z. omega (arith, z)) ev es ef)

pub by-past-frames : (n : ℕ) (bs : List ℕ) (c r y : Changes) (k b : ℕ) (s d s' d' : List ℕ) → r ≡ past_blank y k b → c.at ≤ k → k ≤ length bs → ((f : List ℕ) → Goes n bs c s d f (past_blank y k b) s' d' f) → (c.at ≤ r.at) × (r.at ≤ length bs) × ((f : List ℕ) → Goes n bs c s d f r s' d' f)
by-past-frames n bs c r y k b s d s' d' e l m g = rw e (rw (past-at y k b) l, rw (past-at y k b) m, g)

-- a vector and its code
module _ (c : Changes) (bs : List ℕ) (due : Due c bs) (n : ℕ) (s d d' : List ℕ) (count j k : ℕ) (at20 : c.wave.place ≡ 20) (none : c.wave.count ≡ 0) (inside : j < length bs) (after : c.at + 1 ≤ j) (space : blank (get_or bs j 0) ≡ true) (inside₂ : j + 1 < length bs) (full₂ : blank (get_or bs (j + 1) 0) ≡ false) (inside₃ : k < length bs) (after₃ : j + 1 + 1 ≤ k) (space₃ : blank (get_or bs k 0) ≡ true) where
  abbrev between : Changes
  between = past_blank (behind_word c (vectored c.wave count)) (j + 1) (get_or bs j 0)

  between-at : between.at ≡ j + 1
  between-at = past-at (behind_word c (vectored c.wave count)) (j + 1) (get_or bs j 0)

  between-wave : between.wave ≡ vectored c.wave count
  between-wave = past-wave-by (eqb (get_or bs j 0) 10) (behind_word c (vectored c.wave count)) (j + 1) (get_or bs j 0) refl

  between-due : Due between bs
  between-due = record { inside = rw between-at inside₂; closed = past-held-by (eqb (get_or bs j 0) 10) (behind_word c (vectored c.wave count)) (j + 1) (get_or bs j 0) refl; going = rw between-wave (omega arith); full = rw between-at full₂ }

  module _ (t : Text) (s' : List ℕ) (made : Vectored t count n s d' s') where
    vector-then : (f : List ℕ) → begun c.wave.place (get_or bs c.at 0) ≡ begun_as 4 (get_or bs c.at 0) → Gathers bs (vector_of 0) (c.at + 1) d (vector_of count) j d' → Goes n bs c s d f between s d' f
    vector-then f e g = whole c bs due n s d d' f 4 j (vector_of count) e (vector-from bs (get_or bs c.at 0) (c.at + 1) j count d d' g) (vectored c.wave count) s f inside space (λ z. omega (arith, z)) (made c.wave f at20 none).0 (vector-store c.wave n s d' f at20) (vector-frames c.wave s f at20)

    code-then : (f : List ℕ) (first : Text) → first ≡ text_add no_text (get_or bs (j + 1) 0) → Gathers bs (text_of first) (j + 1 + 1) d' (text_of t) k d' → Goes n bs between s d' f (past_blank (behind_word between c.wave) (k + 1) (get_or bs k 0)) s' d' f
    code-then f first x g = whole between bs between-due n s d' d' f 1 k (text_of t) (rw between-wave (code-begun (get_or bs between.at 0))) (rw between-at (text-from bs (get_or bs (j + 1) 0) (j + 1 + 1) k first t d' x g)) c.wave s' f inside₃ space₃ (λ z. omega (arith, z)) (rw between-wave (made c.wave f at20 none).1) (rw between-wave (made c.wave f at20 none).2) (rw between-wave (code-frames c.wave count s f))

    pub vectored-whole : (first : Text) (m r : Changes) → begun c.wave.place (get_or bs c.at 0) ≡ begun_as 4 (get_or bs c.at 0) → Gathers bs (vector_of 0) (c.at + 1) d (vector_of count) j d' → first ≡ text_add no_text (get_or bs (j + 1) 0) → ((d : List ℕ) → Gathers bs (text_of first) (j + 1 + 1) d (text_of t) k d) → m ≡ past_blank (behind_word c c.wave) (j + 1) (get_or bs j 0) → r ≡ past_blank (behind_word m c.wave) (k + 1) (get_or bs k 0) → (c.at ≤ r.at) × (r.at ≤ length bs) × ((f : List ℕ) → Goes n bs c s d f r s' d' f)
    vectored-whole first m r e g x g₂ em er =
        by-past-frames n bs c r (behind_word between c.wave) (k + 1) (get_or bs k 0) s d s' d'
        (er ∙ ap (λ (y : Changes). past_blank y (k + 1) (get_or bs k 0)) (ap (λ (y : Changes). behind_word y c.wave) em ∙ behind-any (eqb (get_or bs j 0) 10) c c.wave (vectored c.wave count) c.wave (j + 1) (get_or bs j 0) refl))
        (omega arith) (omega arith)
        (λ f h p q. vector-then f e g h p q ∙ code-then f first x (g₂ d') h p q)

vector-due : (w : Wave) (count n : ℕ) (s f : List ℕ) → w.place ≡ 20 → (count ≡ 0 → ⊥) → vectored w count ≡ C.word_wave w 4 no_text no_number count 0 n s f
unfolding word_wave change_wave on_vector
vector-due w count n s f p c0 = sym (simp (eq-eqb w.place 20 p, ne_eqb count 0 c0))

-- a vector alone
pub vector-passed : (c : Changes) (bs : List ℕ) (due : Due c bs) (n : ℕ) (s d d' : List ℕ) (count j : ℕ) → c.wave.place ≡ 20 → (count ≡ 0 → ⊥) → j < length bs → c.at + 1 ≤ j → blank (get_or bs j 0) ≡ true → (r : Changes) → begun c.wave.place (get_or bs c.at 0) ≡ begun_as 4 (get_or bs c.at 0) → Gathers bs (vector_of 0) (c.at + 1) d (vector_of count) j d' → r ≡ past_blank (behind_word c (vectored c.wave count)) (j + 1) (get_or bs j 0) → (c.at ≤ r.at) × (r.at ≤ length bs) × ((f : List ℕ) → Goes n bs c s d f r s d' f)
vector-passed c bs due n s d d' count j at20 c0 inside after space r e g er =
    by-past-frames n bs c r (behind_word c (vectored c.wave count)) (j + 1) (get_or bs j 0) s d s d' er (omega arith) (omega arith)
    (λ f. whole c bs due n s d d' f 4 j (vector_of count) e (vector-from bs (get_or bs c.at 0) (c.at + 1) j count d d' g) (vectored c.wave count) s f inside space (λ z. omega (arith, z)) (vector-due c.wave count n s f at20 c0) (vector-store c.wave n s d' f at20) (vector-frames c.wave s f at20))

pub for-digits : (n : ℕ) (bs : List ℕ) (c r : Changes) (s s' d : List ℕ) → (c.at ≤ r.at) × (r.at ≤ length bs) × ((d f : List ℕ) → Goes n bs c s d f r s' d f) → (c.at ≤ r.at) × (r.at ≤ length bs) × ((f : List ℕ) → Goes n bs c s d f r s' d f)
for-digits n bs c r s s' d x = (x.0, x.1, x.2 d)

pub vector-open : (c : Changes) (bs : List ℕ) (due : Due c bs) (n : ℕ) (s d d' f : List ℕ) (k j : ℕ) → begun c.wave.place (get_or bs c.at 0) ≡ begun_as 4 (get_or bs c.at 0) → Gathers bs (vector_of 0) (c.at + 1) d (vector_of k) j d' → Goes n bs c s d f (record { at = j; line = c.line; started = c.started; shown = c.shown; held = k + 1; wave = c.wave }) s d' f
vector-open c bs due n s d d' f k j e g h p q = word-run h c s d f bs due p 4 j (vector_of k) d' e (vector-from bs (get_or bs c.at 0) (c.at + 1) j k d d' g) ∙ ap (λ (w : Word). feed (put (amid h c s d f) w d') (drop j bs)) (held_word k)

pub blank-one : (n : ℕ) (bs : List ℕ) (c r : Changes) (s d f : List ℕ) → r ≡ past_blank c (c.at + 1) (get_or bs c.at 0) → c.at < length bs → c.held ≡ 0 → c.wave.place < 100 → blank (get_or bs c.at 0) ≡ true → (c.at ≤ r.at) × (r.at ≤ length bs) × Goes n bs c s d f r s d f
blank-one n bs c r s d f e i z g w = by-past n bs c r c (c.at + 1) (get_or bs c.at 0) s d f s d f e (omega arith) (omega arith) (λ h p q. past-goes h c s d f bs p i z g w)

pub as-class : (p k m b : ℕ) → begun p b ≡ begun_as k b → k ≡ m → begun p b ≡ begun_as m b
as-class p k m b h e = rw e at h

pub at-change : (p k m b : ℕ) → p ≡ 20 → begun 20 b ≡ begun_as k b → k ≡ m → begun p b ≡ begun_as m b
at-change p k m b e h x = rw e (as-class 20 k m b h x)

-- THE PIECE
pub carried : (r : Reader) (s d f bs : List ℕ) (i n : ℕ) → i < length bs → refused r ≡ false → blank (get_or bs i 0) ≡ false → r.word.class ≡ 0 → r.head.place ≡ 20 → n ≡ bounded r.head.codes → (c : Changes) (s' d' f' : List ℕ) (w : Word) → w ≡ open_word c.held → Goes n bs (record { at = i; line = r.line; started = r.started; shown = r.shown; held = 0; wave = r.wave }) s d f c s' d' f' → feed (four_of r s d f) (drop i bs) ≡ feed (record { reader = record { line = c.line; started = c.started; shown = c.shown; word = w; head = r.head; wave = c.wave }; store = s'; digits = d'; frames = f' }) (drop c.at bs)
unfolding open_word
carried r s d f bs i n h g b k p en c s' d' f' w ew go =
    fresh_start r s d f bs i h g b k
    ∙ go r.head p (sym en)
    ∙ ap (λ (x : Word). feed (record { reader = record { line = c.line; started = c.started; shown = c.shown; word = x; head = r.head; wave = c.wave }; store = s'; digits = d'; frames = f' }) (drop c.at bs)) (sym ew)

read_out : (a : All) (bs : List ℕ) (i : ℕ) → length bs ≡ i → feed a (drop i bs) ≡ a
unfolding feed
read_out a bs i e = rw (← e, drop-length bs) refl

module _ (a s : All) (bs : List ℕ) (i : ℕ) (inv : feed a bs ≡ feed s (drop i bs)) where
  pub at-end : length bs ≤ i → i ≤ length bs → s ≡ feed a bs
  at-end h g = sym (inv ∙ read_out s bs i (omega arith))

  module _ (t : All) (j : ℕ) (gone : feed s (drop i bs) ≡ feed t (drop j bs)) where
    pub gone-end : length bs ≤ j → j ≤ length bs → t ≡ feed a bs
    gone-end h g = sym (inv ∙ gone ∙ read_out t bs j (omega arith))

    pub gone-stop : refused t.reader ≡ true → t ≡ feed a bs
    gone-stop h = sym (inv ∙ gone ∙ feed-refused t (drop j bs) h)

    pub gone-more : (u : All) → j < length bs → refused t.reader ≡ false → u ≡ byte_step t (get_or bs j 0) → feed a bs ≡ feed u (drop (j + 1) bs)
    gone-more u h g e = inv ∙ gone ∙ one_byte t bs j h g ∙ ap (λ (x : All). feed x (drop (j + 1) bs)) (sym e)
