-- Words that name a wire: a scalar with its code, the code of a vector and the code of a real. Assumes nothing.
--
-- Both sides find the code or do not, and read the same width and sort of it; the store then changes as `dump_valued` says.
use mathlib.Core.Path.{◌≡◌, refl, ◌∙◌, ap}
use mathlib.Core.Bool.{Bool, true, false, cond, not, ◌&&◌, ◌||◌}
use mathlib.Core.List.{List, [], ◌∷◌}
use Prim.Native.Nat.{ℕ, ◌+◌, ◌/◌, ◌<◌, ◌≤◌}
use native.Mathlib.Omega.{arith}
use lib.Dec.{eqb, ltb, leb}
use lib.ListN.{length, get_or, take}
use lib.Seq.{length-take-le}
use borrow.Author.Tests.{ltb-true, ltb-false, leb-true, eqb-true, lt-ltb, le-ltb, le-leb, lt-leb, ne_eqb}
use Rattle.dump.specs.Text.{bytes, code_of, code_byte, is_code, is_end}
use Rattle.dump.specs.State.{State, refuse, goto, undeclared, with_changed}
use Rattle.dump.specs.Declarations.{index_of, known, width_at, real_at}
use Rattle.dump.specs.Connections.{Pair, changed_to}
use Rattle.dump.specs.Changes as D
use Rattle.dump_words.specs.declared.text.Text.{Text}
use Rattle.dump_words.specs.Gather.{no_text}
use Rattle.dump_gathered.specs.Gathered.{text_of, Bytes, all_bytes}
use Rattle.dump_gathered.proofs.Codes.{both}
use Rattle.dump_gathered.proofs.Texts.{text-keyword, text-long, text-plain, text-code, text-tail, text-least, tail-long}
use Rattle.dump_find.specs.Find.{lookup}
use Rattle.dump_values.specs.Values.{bits_changed}
use Rattle.dump_valued.proofs.Change.{change-holds, change-kept}
use Rattle.dump_valued.proofs.Survivals.{before-kept}
use Rattle.dump_change.specs.declared.wave.Wave.{Wave}
use Rattle.dump_change.specs.Change as C
use Rattle.dump_changed.specs.Changed.{Follows, Vector}
use Rattle.dump_changed.proofs.Moves.{moved, unknown, ill, long-code}
use Rattle.dump_changed.proofs.Opens.{tabled-below}

pub end_is : (u : List ℕ) → Bytes u → C.is_end (text_of no_text u) ≡ is_end u
unfolding code_of all_bytes
end_is u g = text-keyword u (bytes "$end") g refl

-- a code is not 0
named : (b : ℕ) (u : List ℕ) → is_code (b ∷ u) ≡ true → 0 < code_of (b ∷ u)
unfolding is_code code_of
named b u e =
    let (p, q) = both (code_byte b) (is_code u) e in
    let (l, m) = both (leb 33 b) (leb b 126) p in
    omega (arith, leb-true 33 b l)

-- the byte of a value may stand in a code
value-byte : (b : ℕ) → ltb (D.value_of b) 3 ≡ true → code_byte b ≡ true
unfolding D.value_of
value-byte b h = go (eqb b 48) refl (eqb b 49) refl (eqb b 120) refl (eqb b 88) refl (eqb b 122) refl (eqb b 90) refl h
  where
    is : (k : ℕ) → eqb b k ≡ true → code_byte k ≡ true → code_byte b ≡ true
    is k e f = rw (eqb-true b k e) f

    go : (x : Bool) → eqb b 48 ≡ x → (y : Bool) → eqb b 49 ≡ y → (z : Bool) → eqb b 120 ≡ z → (u : Bool) → eqb b 88 ≡ u → (v : Bool) → eqb b 122 ≡ v → (w : Bool) → eqb b 90 ≡ w
        → ltb (cond x 0 (cond y 1 (cond (z || u || v || w) 2 3))) 3 ≡ true → code_byte b ≡ true
    go true a y c z d u e v f w g h = is 48 a refl
    go false a true c z d u e v f w g h = is 49 c refl
    go false a false c true d u e v f w g h = is 120 d refl
    go false a false c false d true e v f w g h = is 88 e refl
    go false a false c false d false e true f w g h = is 122 f refl
    go false a false c false d false e false f true g h = is 90 g refl
    go false a false c false d false e false f false g h = let q : ◌≡◌ {A = ℕ} 0 1 = cc in absurd (omega arith)

-- behind it stands the code
scalar-plain : (a : ℕ) (v : List ℕ) → ltb (D.value_of a) 3 ≡ true → eqb (text_of no_text (a ∷ v)).plain 1 ≡ is_code v
unfolding is_code
scalar-plain a v small = text-plain (a ∷ v) ∙ ap (λ (z : Bool). z && is_code v) (value-byte a small)

scalar-tail : (a : ℕ) (v : List ℕ) → Bytes (a ∷ v) → length v ≤ 8 → C.tail_code (text_of no_text (a ∷ v)) ≡ code_of v
unfolding C.tail_code
scalar-tail a v g l = text-tail a v g l

module _ {n : ℕ} {w : Wave} {store digits frames lent : List ℕ} {table : List Pair} {s : State} (h : Follows n w store digits frames lent table s) where
  abbrev room : ℕ
  room = length lent / 8

  -- THE WIRE named b ∷ u, at place i
  module _ (b : ℕ) (u : List ℕ) where
    abbrev x : ℕ
    x = code_of (b ∷ u)

    abbrev i : ℕ
    i = index_of s.declared.codes x

    abbrev width : ℕ
    width = width_at s.declared i

    abbrev real : Bool
    real = real_at s.declared i

    -- where its value is changed to some digits
    module _ (coded : is_code (b ∷ u) ≡ true) (there : i < n) (ds : List ℕ) (count : ℕ) (some : 0 < count) (enough : count ≤ length ds) (small : (k : ℕ) → k < count → get_or ds k 0 < 3) where
      valued-follows : (c : ℕ)
          → Follows n (record { place = 20; identifier = w.identifier; dumping = w.dumping; count = c; stamped = w.stamped; stamp = w.stamp; frames = w.frames }) (bits_changed store ds count x i) digits frames lent table
          (with_changed s 20 (D.valued s.changed (changed_to s.declared table s.changed.values x (take count ds))))
      valued-follows c =
          let kept = change-kept store h.tabled.long n s.declared table h.tabled.declares h.tabled.connected ds count some enough small x i (named b u coded) refl there s.changed.values h.holds in
          record {
            place_is = refl;
            identifier_is = h.identifier_is;
            many = h.many;
            tabled = tabled-below n store (bits_changed store ds count x i) table s.declared kept.as_long kept.below h.tabled;
            holds = change-holds store h.tabled.long n s.declared table h.tabled.declares h.tabled.connected ds count some enough small x i (named b u coded) refl there s.changed.values h.holds;
            before = λ e. before-kept store (bits_changed store ds count x i) kept s.changed.before (h.before e);
            dumping_is = h.dumping_is;
            stamped_is = h.stamped_is;
            stamp_is = h.stamp_is;
            framed = h.framed;
            vector_equals = λ e. absurd (omega arith);
          }

    known_is : known s.declared x ≡ ltb i n
    known_is = rw h.tabled.declares.count

    -- A REAL'S CODE
    real-found : (plain : ℕ) → eqb plain 1 ≡ is_code (b ∷ u)
        → Follows n (C.real_test w plain x i n store) store digits frames lent table (cond (D.found table room s (b ∷ u)) (cond real (goto s 20) (refuse s 10)) (undeclared s x))
    unfolding C.real_test
    real-found plain e = rw (e, known_is) (go (is_code (b ∷ u)) (ltb i n) refl)
      where
        sort : (q : Bool) → Follows n (cond q (C.at w 20) (C.at w 110)) store digits frames lent table (cond q (goto s 20) (refuse s 10))
        sort true = moved h 20 (λ e. omega arith)
        sort false = ill h

        go : (a k : Bool) → ltb i n ≡ k
            → Follows n (cond a (cond k (cond (eqb (get_or store (2048 + i) 0) 2) (C.at w 20) (C.at w 110)) (C.unknown_code w x)) (C.unknown_code w x)) store digits frames lent table
            (cond (a && k) (cond real (goto s 20) (refuse s 10)) (undeclared s x))
        go false k e = unknown h x
        go true false e = unknown h x
        go true true e = rw (h.tabled.declares.sort_is i (ltb-true i n e)) (sort real)

    -- A SCALAR of value v
    module _ (v : ℕ) (small : v < 3) where
      abbrev scalar_is : Wave → State → Type 0
      scalar_is r z = Follows n r (C.scalar_change r v x i n store) digits frames lent table z

      scalar-found : (plain : ℕ) → eqb plain 1 ≡ is_code (b ∷ u)
          → scalar_is (C.scalar_test w plain x i n store) (cond (D.found table room s (b ∷ u) && not (eqb width 1)) (refuse s 10) (D.change_bits table room s (b ∷ u) (v ∷ [])))
      unfolding C.scalar_test C.scalar_change D.change_bits
      scalar-found plain e = rw (e, known_is) (go (is_code (b ∷ u)) refl (ltb i n) refl)
        where
          one : (k : ℕ) → k < 1 → get_or (v ∷ []) k 0 < 3
          one k l = let z : k ≡ 0 = omega arith in rw z small

          sort : is_code (b ∷ u) ≡ true → (l : ltb i n ≡ true) → (p : Bool) → eqb width 1 ≡ p → (q : Bool)
              → Follows n (cond p (cond q (C.at w 110) (C.at w 20)) (C.at w 110)) (cond (eqb (cond p (cond q (C.at w 110) (C.at w 20)) (C.at w 110)).place 20) (bits_changed store (v ∷ []) 1 x i) store) digits frames lent table
              (cond (not p) (refuse s 10) (cond (not q && leb 1 width) (with_changed s 20 (D.valued s.changed (changed_to s.declared table s.changed.values x (v ∷ [])))) (refuse s 10)))
          sort a l false e q = ill h
          sort a l true e true = ill h
          sort a l true e false = rw (le-leb 1 width (omega (arith, eqb-true width 1 e))) (valued-follows a (ltb-true i n l) (v ∷ []) 1 (omega arith) (omega arith) one w.count)

          go : (a : Bool) → is_code (b ∷ u) ≡ a → (k : Bool) → ltb i n ≡ k
              → Follows n (cond a (cond k (cond (eqb (get_or store (1024 + i) 0) 1) (cond (eqb (get_or store (2048 + i) 0) 2) (C.at w 110) (C.at w 20)) (C.at w 110)) (C.unknown_code w x)) (C.unknown_code w x))
              (cond (eqb (cond a (cond k (cond (eqb (get_or store (1024 + i) 0) 1) (cond (eqb (get_or store (2048 + i) 0) 2) (C.at w 110) (C.at w 20)) (C.at w 110)) (C.unknown_code w x)) (C.unknown_code w x)).place 20) (cond k (bits_changed store (v ∷ []) 1 x i) store) store) digits frames lent table
              (cond (a && k && not (eqb width 1)) (refuse s 10) (cond (a && k) (cond (not real && leb 1 width) (with_changed s 20 (D.valued s.changed (changed_to s.declared table s.changed.values x (v ∷ [])))) (refuse s 10)) (undeclared s x)))
          go false a k e = unknown h x
          go true a false e = unknown h x
          go true a true e = rw (h.tabled.declares.width_is i (ltb-true i n e), h.tabled.declares.sort_is i (ltb-true i n e)) (sort a e (eqb width 1) refl real)

    -- A VECTOR'S CODE
    module _ (vector : Vector w.count digits s.changed.vector) where
      -- it is too long on both sides or on neither
      too_long : (m : ℕ) → m ≤ 4096 → leb (length s.changed.vector) m ≡ not (ltb m w.count)
      too_long m l = go (ltb m w.count) refl (ltb 4096 w.count) refl
        where
          go : (t : Bool) → ltb m w.count ≡ t → (z : Bool) → ltb 4096 w.count ≡ z → leb (length s.changed.vector) m ≡ not t
          go true e true q = lt-leb (length s.changed.vector) m (omega (arith, vector.long (ltb-true 4096 w.count q)))
          go true e false q =
              let c : w.count ≤ 4096 = ltb-false 4096 w.count q in
              lt-leb (length s.changed.vector) m (omega (arith, ap length (vector.short c), length-take-le w.count digits (omega (arith, h.many)), ltb-true m w.count e))
          go false e z q =
              let k : w.count ≤ m = ltb-false m w.count e in
              le-leb (length s.changed.vector) m (omega (arith, ap length (vector.short (omega arith)), length-take-le w.count digits (omega (arith, h.many))))

      abbrev vector_is : Wave → State → Type 0
      vector_is r z = Follows n r (C.vector_change r w.count x i n store digits) digits frames lent table z

      vector-found : (plain : ℕ) → eqb plain 1 ≡ is_code (b ∷ u) → vector_is (C.vector_test w plain x i n store) (D.change_bits table room s (b ∷ u) s.changed.vector)
      unfolding C.vector_test C.vector_change D.change_bits
      vector-found plain e = rw (e, known_is) (go (is_code (b ∷ u)) refl (ltb i n) refl)
        where
          sort : is_code (b ∷ u) ≡ true → ltb i n ≡ true → width ≤ 4096 → (q p : Bool) → ltb width w.count ≡ p
              → Follows n (cond q (C.at w 110) (cond p (C.at w 110) (C.cleared w))) (cond (eqb (cond q (C.at w 110) (cond p (C.at w 110) (C.cleared w))).place 20) (cond (eqb w.count 0) store (cond (ltb 4096 w.count) store (bits_changed store digits w.count x i))) store) digits frames lent table
              (cond (not q && not p) (with_changed s 20 (D.valued s.changed (changed_to s.declared table s.changed.values x s.changed.vector))) (refuse s 10))
          sort a l m true p e = ill h
          sort a l m false true e = ill h
          sort a l m false false e =
              let k : w.count ≤ width = ltb-false width w.count e in
              let c : w.count ≤ 4096 = omega arith in
              let f : changed_to s.declared table s.changed.values x s.changed.vector ≡ changed_to s.declared table s.changed.values x (take w.count digits) = ap (changed_to s.declared table s.changed.values x) (vector.short c) in
              rw (ne_eqb w.count 0 (λ z. omega (arith, vector.some)), le-ltb 4096 w.count c, f)
              (valued-follows a (ltb-true i n l) digits w.count vector.some (omega (arith, h.many)) (vector.small c) 0)

          go : (a : Bool) → is_code (b ∷ u) ≡ a → (k : Bool) → ltb i n ≡ k
              → Follows n (cond a (cond k (cond (eqb (get_or store (2048 + i) 0) 2) (C.at w 110) (cond (ltb (get_or store (1024 + i) 0) w.count) (C.at w 110) (C.cleared w))) (C.unknown_code w x)) (C.unknown_code w x))
              (cond (eqb (cond a (cond k (cond (eqb (get_or store (2048 + i) 0) 2) (C.at w 110) (cond (ltb (get_or store (1024 + i) 0) w.count) (C.at w 110) (C.cleared w))) (C.unknown_code w x)) (C.unknown_code w x)).place 20) (cond k (cond (eqb w.count 0) store (cond (ltb 4096 w.count) store (bits_changed store digits w.count x i))) store) store) digits frames lent table
              (cond (a && k) (cond (not real && leb (length s.changed.vector) width) (with_changed s 20 (D.valued s.changed (changed_to s.declared table s.changed.values x s.changed.vector))) (refuse s 10)) (undeclared s x))
          go false a k e = unknown h x
          go true a false e = unknown h x
          go true a true e =
              let l : i < n = ltb-true i n e in
              let m : width ≤ 4096 = rw (h.tabled.declares.width_is i l) at (h.tabled.narrow i l) in
              rw (h.tabled.declares.width_is i l, h.tabled.declares.sort_is i l, too_long width m) (sort a e m real (ltb width w.count) refl)

    -- THE WHOLE WORD is the code
    module _ (g : Bytes (b ∷ u)) where
      abbrev t : Text
      t = text_of no_text (b ∷ u)

      pub real-code-follows : Follows n (C.on_real_code w t n store) store digits frames lent table (D.on_real_code table room s (b ∷ u))
      unfolding C.on_real_code D.on_real_code
      real-code-follows = rw (text-long (b ∷ u), end_is (b ∷ u) g) (go (ltb 8 (length (b ∷ u))) refl (is_end (b ∷ u)))
        where
          go : (l : Bool) → ltb 8 (length (b ∷ u)) ≡ l → (e : Bool)
              → Follows n (cond l (C.at w 112) (cond e (C.at w 110) (C.real_test w t.plain t.low (lookup store n t.low) n store))) store digits frames lent table
              (cond l (refuse s 12) (cond e (refuse s 10) (cond (D.found table room s (b ∷ u)) (cond real (goto s 20) (refuse s 10)) (undeclared s x))))
          go true q e = long-code h
          go false q true = ill h
          go false q false = rw (text-code (b ∷ u) g (ltb-false 8 (length (b ∷ u)) q), h.tabled.declares.finds x) (real-found t.plain (text-plain (b ∷ u)))

      pub vector-code-follows : Vector w.count digits s.changed.vector → Follows n (C.on_vector_code w t n store) (C.vector_store w t n store digits) digits frames lent table (D.on_vector_code table room s (b ∷ u))
      unfolding C.on_vector_code C.vector_store D.on_vector_code
      vector-code-follows vector = rw (text-long (b ∷ u), end_is (b ∷ u) g) (go (ltb 8 (length (b ∷ u))) refl (is_end (b ∷ u)))
        where
          go : (l : Bool) → ltb 8 (length (b ∷ u)) ≡ l → (e : Bool)
              → Follows n (cond l (C.at w 112) (cond e (C.at w 110) (C.vector_test w t.plain t.low (lookup store n t.low) n store)))
              (cond l store (cond e store (C.vector_change (C.vector_test w t.plain t.low (lookup store n t.low) n store) w.count t.low (lookup store n t.low) n store digits))) digits frames lent table
              (cond l (refuse s 12) (cond e (refuse s 10) (D.change_bits table room s (b ∷ u) s.changed.vector)))
          go true q e = long-code h
          go false q true = ill h
          go false q false = rw (text-code (b ∷ u) g (ltb-false 8 (length (b ∷ u)) q), h.tabled.declares.finds x) (vector-found vector t.plain (text-plain (b ∷ u)))

  -- A WORD a and behind it the code: a scalar
  pub scalar-follows : (a : ℕ) (v : List ℕ) → Bytes (a ∷ v) → ltb (D.value_of a) 3 ≡ true
      → Follows n (C.on_scalar w (text_of no_text (a ∷ v)) n store) (C.scalar_store w (D.value_of a) (text_of no_text (a ∷ v)) n store) digits frames lent table (D.on_scalar table room s (D.value_of a) v)
  unfolding C.on_scalar C.scalar_store D.on_scalar
  scalar-follows a [] g small = rw (lt-ltb (text_of no_text (a ∷ [])).length 2 (omega (arith, text-least (a ∷ [])))) (ill h)
  scalar-follows a (b ∷ u) g small =
      rw (le-ltb (text_of no_text (a ∷ b ∷ u)).length 2 (omega (arith, text-least (a ∷ b ∷ u))), tail-long a (b ∷ u)) (go (ltb 8 (length (b ∷ u))) refl)
    where
      go : (l : Bool) → ltb 8 (length (b ∷ u)) ≡ l
          → Follows n (cond l (C.at w 112) (C.scalar_test w (text_of no_text (a ∷ b ∷ u)).plain (C.tail_code (text_of no_text (a ∷ b ∷ u))) (lookup store n (C.tail_code (text_of no_text (a ∷ b ∷ u)))) n store))
          (cond l store (C.scalar_change (C.scalar_test w (text_of no_text (a ∷ b ∷ u)).plain (C.tail_code (text_of no_text (a ∷ b ∷ u))) (lookup store n (C.tail_code (text_of no_text (a ∷ b ∷ u)))) n store) (D.value_of a) (C.tail_code (text_of no_text (a ∷ b ∷ u))) (lookup store n (C.tail_code (text_of no_text (a ∷ b ∷ u)))) n store)) digits frames lent table
          (cond l (refuse s 12) (cond (D.found table room s (b ∷ u) && not (eqb (width_at s.declared (index_of s.declared.codes (code_of (b ∷ u)))) 1)) (refuse s 10) (D.change_bits table room s (b ∷ u) (D.value_of a ∷ []))))
      go true q = long-code h
      go false q =
          rw (scalar-tail a (b ∷ u) g (ltb-false 8 (length (b ∷ u)) q), h.tabled.declares.finds (code_of (b ∷ u)))
          (scalar-found b u (D.value_of a) (ltb-true (D.value_of a) 3 small) (text_of no_text (a ∷ b ∷ u)).plain (scalar-plain a (b ∷ u) small))
