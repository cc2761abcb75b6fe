-- Words that name no wire: keywords, comments, the digits of a vector, the number of a real. Assumes nothing.
use mathlib.Core.Path.{◌≡◌, refl, sym}
use mathlib.Core.Bool.{Bool, true, false, cond, not, ◌||◌}
use mathlib.Core.List.{List, [], ◌∷◌, map}
use Prim.Native.Nat.{ℕ, zero, suc, ◌/◌, ◌<◌, ◌≤◌}
use native.Mathlib.Omega.{arith}
use lib.Dec.{eqb, ltb}
use lib.ListN.{length, get_or, take, length-map}
use lib.Seq.{get_or-take}
use borrow.Author.Tests.{ltb-true, ltb-false, eqb-true, lt-ltb, le-ltb, eq-eqb, ne_eqb}
use Rattle.dump.specs.Text.{bytes, code_of, same, one_of, is_end}
use Rattle.dump.specs.State.{State, refuse, goto, expect, with_changed}
use Rattle.dump.specs.Connections.{Pair}
use Rattle.dump.specs.Changes as D
use Rattle.dump.specs.Load.{on_comment}
use Rattle.dump_words.specs.declared.text.Text.{Text}
use Rattle.dump_words.specs.Gather.{no_text, text_is, text_in}
use Rattle.dump_gathered.specs.Gathered.{text_of, Bytes, all_short, all_bytes}
use Rattle.dump_gathered.proofs.Codes.{both}
use Rattle.dump_gathered.proofs.Texts.{text-keyword, text-one-of, text-least, text-first}
use Rattle.dump_change.specs.declared.wave.Wave.{Wave}
use Rattle.dump_change.specs.Change as C
use Rattle.dump_changed.specs.Changed.{Follows, Vector, Spelled}
use Rattle.dump_changed.proofs.Moves.{moved, ill}
use Rattle.dump_changed.proofs.Codes.{end_is, scalar-follows}

-- every digit is a value
all_small : (v : List ℕ) → D.all_values v ≡ true → (k : ℕ) → k < length v → get_or (map D.value_of v) k 0 < 3
unfolding D.all_values
all_small [] e k l = absurd (omega arith)
all_small (b ∷ v) e zero l = ltb-true (D.value_of b) 3 (both (ltb (D.value_of b) 3) (D.all_values v) e).0
all_small (b ∷ v) e (suc k) l = all_small v (both (ltb (D.value_of b) 3) (D.all_values v) e).1 k (omega arith)

-- what is kept of the digits of a vector
module _ (v : List ℕ) (count wrong : ℕ) (digits : List ℕ) (k : Spelled v count wrong digits) where
  counts : (count ≤ 4096 → count ≡ length v) × ((4096 < count → 4096 < length v) × (0 < length v → 0 < count))
  counts = go (ltb (length v) 4097) refl k.count_is
    where
      go : (t : Bool) → ltb (length v) 4097 ≡ t → count ≡ cond t (length v) 4097 → (count ≤ 4096 → count ≡ length v) × ((4096 < count → 4096 < length v) × (0 < length v → 0 < count))
      go true e f = (λ l. f, (λ l. omega arith, λ l. omega arith))
      go false e f = let m : 4097 ≤ length v = ltb-false (length v) 4097 e in (λ l. absurd (omega arith), (λ l. omega arith, λ l. omega arith))

  spelled-vector : 0 < length v → D.all_values v ≡ true → Vector count digits (map D.value_of v)
  spelled-vector some e =
      let (exact, rest) = counts in
      let (over, more) = rest in
      let short : (count ≤ 4096 → map D.value_of v ≡ take count digits) = λ l. let q : count ≡ length v = exact l in rw q (sym (k.digits_are (omega arith))) in
      record {
        some = more some;
        short = short;
        small = λ l j m. let q : count ≡ length v = exact l in rw (sym (get_or-take count digits j 0 m), ← short l) (all_small v e j (omega arith));
        long = λ l. rw (length-map v D.value_of) (over l);
      }

-- a byte with a value is no byte with none
not-value : (b k : ℕ) → ltb (D.value_of b) 3 ≡ true → ltb (D.value_of k) 3 ≡ false → eqb b k ≡ false
not-value b k f g = go (eqb b k) refl
  where
    go : (t : Bool) → eqb b k ≡ t → t ≡ false
    go false e = refl
    go true e = let q : b ≡ k = eqb-true b k e in cc

not-dollar : (b : ℕ) → ltb (D.value_of b) 3 ≡ true → eqb b 36 ≡ false
unfolding D.value_of
not-dollar b e = not-value b 36 e refl

not-real : (b : ℕ) → ltb (D.value_of b) 3 ≡ true → eqb b 114 ≡ false
unfolding D.value_of
not-real b e = not-value b 114 e refl

not-Real : (b : ℕ) → ltb (D.value_of b) 3 ≡ true → eqb b 82 ≡ false
unfolding D.value_of
not-Real b e = not-value b 82 e refl

module _ {n : ℕ} {w : Wave} {store digits frames lent : List ℕ} {table : List Pair} {s : State} (h : Follows n w store digits frames lent table s) where
  abbrev room : ℕ
  room = length lent / 8

  -- THE DIGITS OF A VECTOR
  vector-due : (count : ℕ) (ds : List ℕ) → Vector count digits ds
      → Follows n (record { place = 21; identifier = w.identifier; dumping = w.dumping; count = count; stamped = w.stamped; stamp = w.stamp; frames = w.frames }) store digits frames lent table (with_changed s 21 (D.spelled s.changed ds))
  vector-due count ds k = record {
    place_is = refl;
    identifier_is = h.identifier_is;
    many = h.many;
    tabled = h.tabled;
    holds = h.holds;
    before = h.before;
    dumping_is = h.dumping_is;
    stamped_is = h.stamped_is;
    stamp_is = h.stamp_is;
    framed = h.framed;
    vector_equals = λ e. k;
  }

  pub vector-follows : (v : List ℕ) (count wrong : ℕ) → Spelled v count wrong digits → Follows n (C.on_vector w count wrong) store digits frames lent table (D.on_vector table room s v)
  unfolding C.on_vector D.on_vector
  vector-follows [] count wrong k = rw (eq-eqb count 0 k.count_is) (ill h)
  vector-follows (b ∷ v) count wrong k =
      let some : 0 < count = (counts (b ∷ v) count wrong digits k).1.1 (omega arith) in
      rw (ne_eqb count 0 (λ z. omega arith), k.wrong_is) (go (D.all_values (b ∷ v)) refl)
    where
      go : (t : Bool) → D.all_values (b ∷ v) ≡ t
          → Follows n (cond t (record { place = 21; identifier = w.identifier; dumping = w.dumping; count = count; stamped = w.stamped; stamp = w.stamp; frames = w.frames }) (C.at w 110)) store digits frames lent table
          (cond t (with_changed s 21 (D.spelled s.changed (map D.value_of (b ∷ v)))) (refuse s 10))
      go true e = vector-due count (map D.value_of (b ∷ v)) (spelled-vector (b ∷ v) count wrong digits k (omega arith) e)
      go false e = ill h

  -- A DUMP COMMAND begins or ends
  dumps-follow : (d : ℕ) (t : Bool) → t ≡ not (eqb d 0) → Follows n (C.dumps w d) store digits frames lent table (with_changed s 20 (D.dumps s.changed t))
  dumps-follow d t e = record {
    place_is = refl;
    identifier_is = h.identifier_is;
    many = h.many;
    tabled = h.tabled;
    holds = h.holds;
    before = h.before;
    dumping_is = e;
    stamped_is = h.stamped_is;
    stamp_is = h.stamp_is;
    framed = h.framed;
    vector_equals = λ e. absurd (omega arith);
  }

  module _ (u : List ℕ) (g : Bytes u) where
    abbrev t : Text
    t = text_of no_text u

    pub comment-follows : Follows n (C.on_comment w t) store digits frames lent table (on_comment s u 20)
    unfolding C.on_comment
    comment-follows = rw (end_is u g) (go (is_end u))
      where
        go : (e : Bool) → Follows n (cond e (C.at w 20) w) store digits frames lent table (cond e (goto s 20) s)
        go true = moved h 20 (λ e. omega arith)
        go false = h

    in-dump : Follows n (C.in_dump w t) store digits frames lent table (cond (is_end u) (with_changed s 20 (D.dumps s.changed false)) (refuse s 10))
    unfolding C.in_dump
    in-dump = rw (end_is u g) (go (is_end u))
      where
        go : (e : Bool) → Follows n (cond e (C.dumps w 0) (C.at w 110)) store digits frames lent table (cond e (with_changed s 20 (D.dumps s.changed false)) (refuse s 10))
        go true = dumps-follow 0 false refl
        go false = ill h

    outside : Follows n (cond (text_in t C.dump_words) (C.dumps w 1) (cond (text_is t 8 8389754676499669796 0) (C.at w 23) (C.at w 110))) store digits frames lent table
        (cond (one_of D.dump_words u) (with_changed s 20 (D.dumps s.changed true)) (expect s (same u (bytes "$comment")) 23))
    unfolding code_of all_short all_bytes
    outside = rw (text-one-of D.dump_words u g refl, text-keyword u (bytes "$comment") g refl) (go (one_of D.dump_words u) (same u (bytes "$comment")))
      where
        go : (x y : Bool) → Follows n (cond x (C.dumps w 1) (cond y (C.at w 23) (C.at w 110))) store digits frames lent table (cond x (with_changed s 20 (D.dumps s.changed true)) (expect s y 23))
        go true y = dumps-follow 1 true refl
        go false true = moved h 23 (λ e. omega arith)
        go false false = ill h

    dollar-follows : Follows n (C.on_dollar w t) store digits frames lent table (D.on_dollar table room s u)
    unfolding C.on_dollar D.on_dollar
    dollar-follows = go (eqb w.dumping 0) s.changed.dumping h.dumping_is
      where
        go : (d x : Bool) → x ≡ not d
            → Follows n (cond d (cond (text_in t C.dump_words) (C.dumps w 1) (cond (text_is t 8 8389754676499669796 0) (C.at w 23) (C.at w 110))) (C.in_dump w t)) store digits frames lent table
            (cond x (cond (is_end u) (with_changed s 20 (D.dumps s.changed false)) (refuse s 10)) (cond (one_of D.dump_words u) (with_changed s 20 (D.dumps s.changed true)) (expect s (same u (bytes "$comment")) 23)))
        go true x e = rw e outside
        go false x e = rw e in-dump

  -- THE NUMBER OF A REAL is not read
  real-follows : (b : ℕ) (v : List ℕ) → Follows n (C.on_real w (text_of no_text (b ∷ v))) store digits frames lent table (D.on_real table room s v)
  unfolding C.on_real D.on_real
  real-follows b [] = rw (lt-ltb (text_of no_text (b ∷ [])).length 2 (omega (arith, text-least (b ∷ [])))) (ill h)
  real-follows b (c ∷ v) = rw (le-ltb (text_of no_text (b ∷ c ∷ v)).length 2 (omega (arith, text-least (b ∷ c ∷ v)))) (moved h 22 (λ e. omega arith))

  -- ANY WORD OF A CHANGE but a stamp and the digits of a vector, by its first byte
  pub text-follows : (b : ℕ) (v : List ℕ) → Bytes (b ∷ v)
      → Follows n (C.text_wave w (text_of no_text (b ∷ v)) n store) (C.text_store w (text_of no_text (b ∷ v)) n store) digits frames lent table
      (cond (eqb b 36) (D.on_dollar table room s (b ∷ v)) (cond (eqb b 114 || eqb b 82) (D.on_real table room s v) (cond (ltb (D.value_of b) 3) (D.on_scalar table room s (D.value_of b) v) (refuse s 10))))
  unfolding C.text_wave C.text_store
  text-follows b v g = rw (text-first b v g) (go (ltb (D.value_of b) 3) refl)
    where
      others : (x y z : Bool)
          → Follows n (cond x (C.on_dollar w (text_of no_text (b ∷ v))) (cond y (C.on_real w (text_of no_text (b ∷ v))) (cond z (C.on_real w (text_of no_text (b ∷ v))) (C.at w 110)))) store digits frames lent table
          (cond x (D.on_dollar table room s (b ∷ v)) (cond (y || z) (D.on_real table room s v) (refuse s 10)))
      others true y z = dollar-follows (b ∷ v) g
      others false true z = real-follows b v
      others false false true = real-follows b v
      others false false false = ill h

      values : ltb (D.value_of b) 3 ≡ true
          → Follows n (C.on_scalar w (text_of no_text (b ∷ v)) n store) (C.scalar_store w (D.value_of b) (text_of no_text (b ∷ v)) n store) digits frames lent table
          (cond (eqb b 36) (D.on_dollar table room s (b ∷ v)) (cond (eqb b 114 || eqb b 82) (D.on_real table room s v) (D.on_scalar table room s (D.value_of b) v)))
      values e = rw (not-dollar b e, not-real b e, not-Real b e) (scalar-follows h b v g e)

      go : (t : Bool) → ltb (D.value_of b) 3 ≡ t
          → Follows n (cond t (C.on_scalar w (text_of no_text (b ∷ v)) n store) (cond (eqb b 36) (C.on_dollar w (text_of no_text (b ∷ v))) (cond (eqb b 114) (C.on_real w (text_of no_text (b ∷ v))) (cond (eqb b 82) (C.on_real w (text_of no_text (b ∷ v))) (C.at w 110)))))
          (cond t (C.scalar_store w (D.value_of b) (text_of no_text (b ∷ v)) n store) store) digits frames lent table
          (cond (eqb b 36) (D.on_dollar table room s (b ∷ v)) (cond (eqb b 114 || eqb b 82) (D.on_real table room s v) (cond t (D.on_scalar table room s (D.value_of b) v) (refuse s 10))))
      go true e = values e
      go false e = others (eqb b 36) (eqb b 114) (eqb b 82)
