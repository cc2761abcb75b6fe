-- What is kept of a word's text, and what follows from it. Assumes nothing.
use mathlib.Core.Path.{◌≡◌, refl, ◌∙◌, sym, ap, ap₂}
use mathlib.Core.Bool.{Bool, true, false, cond, ◌&&◌, ◌||◌}
use mathlib.Core.List.{List, [], ◌∷◌, ◌++◌, append-nil}
use Prim.Native.Nat.{ℕ, suc, ◌+◌, ◌-◌, ◌*◌, ◌/◌, ◌%◌, ◌^◌, ◌<◌, ◌≤◌, min}
use native.Mathlib.Omega.{arith}
use lib.Bits.{bit_or, or_zero_r}
use lib.Dec.{eqb, ltb, leb, leb-suc-suc}
use lib.ListN.{length, take, drop, length-append, length-take, length-drop, take-append-drop, drop_of_length-le}
use lib.Seq.{take_all, take-append-le, drop-append-le, append_snoc}
use borrow.Author.Tests.{le-ltb, lt-ltb, eq-eqb, ltb-true, ltb-false, leb-true, leb-false, eqb-true}
use Rattle.dump.specs.Text.{code_of, code_byte, is_code, same, one_of}
use Rattle.dump_words.specs.declared.text.Text.{Text}
use Rattle.dump_words.specs.Gather.{no_text, plain_after, text_add, text_is, text_in}
use Rattle.dump_gathered.specs.Gathered.{text_of, Bytes, triples, all_bytes, all_short}
use Rattle.dump_gathered.proofs.Codes.{both, one-test, bytes-append, bytes_take, bytes_drop, bytes-test, code-inj, code-snoc, same_self, same-eq}

-- ONE BYTE, by the place where it goes: among the first eight, among the next eight, or nowhere
module _ (t : Text) (b : ℕ) where
  abbrev to_low : Text
  to_low = record { length = t.length + 1; low = bit_or t.low (b * 2 ^ (8 * t.length) % 2 ^ 64); high = t.high; plain = plain_after t.plain b }

  abbrev to_high : Text
  to_high = record { length = t.length + 1; low = t.low; high = bit_or t.high (b * 2 ^ (8 * (t.length - 8)) % 2 ^ 64); plain = plain_after t.plain b }

  abbrev to_none : Text
  to_none = record { length = 17; low = t.low; high = t.high; plain = plain_after t.plain b }

  by_place : (P : Text → Type 0) → (t.length < 8 → P to_low) → (8 ≤ t.length → t.length < 16 → P to_high) → (16 ≤ t.length → P to_none) → P (text_add t b)
  unfolding text_add
  by_place P f g h = go (ltb t.length 8) refl (ltb t.length 16) refl
    where
      go : (x : Bool) → ltb t.length 8 ≡ x → (y : Bool) → ltb t.length 16 ≡ y → P (cond (ltb t.length 8) to_low (cond (ltb t.length 16) to_high to_none))
      go true e y k = rw e (f (ltb-true t.length 8 e))
      go false e true k = rw (e, k) (g (ltb-false t.length 8 e) (ltb-true t.length 16 k))
      go false e false k = rw (e, k) (h (ltb-false t.length 16 k))

  length-add : (text_add t b).length ≡ min 17 (suc t.length)
  length-add = by_place (λ (r : Text). r.length ≡ min 17 (suc t.length)) (λ h. omega arith) (λ g h. omega arith) (λ h. omega arith)

  plain-add : (text_add t b).plain ≡ plain_after t.plain b
  plain-add = by_place (λ (r : Text). r.plain ≡ plain_after t.plain b) (λ h. refl) (λ g h. refl) (λ h. refl)

-- THE LENGTH, up to 17
length-of : (t : Text) (w : List ℕ) → t.length ≤ 17 → (text_of t w).length ≡ min 17 (t.length + length w)
unfolding text_of
length-of t [] h = omega arith
length-of t (b ∷ w) h = length-of (text_add t b) w (omega (arith, length-add t b)) ∙ omega (arith, length-add t b)

pub text-least : (w : List ℕ) → (text_of no_text w).length ≡ min 17 (length w)
text-least w = length-of no_text w (omega arith) ∙ omega arith

pub text-length : (w : List ℕ) → length w ≤ 16 → (text_of no_text w).length ≡ length w
text-length w h = text-least w ∙ omega arith

-- a test below 17
least-ltb : (m n : ℕ) → m < 17 → ltb m (min 17 n) ≡ ltb m n
least-ltb m n h = go (ltb m n) refl
  where
    go : (t : Bool) → ltb m n ≡ t → ltb m (min 17 n) ≡ ltb m n
    go true e = lt-ltb m (min 17 n) (omega (arith, ltb-true m n e)) ∙ sym e
    go false e = le-ltb m (min 17 n) (omega (arith, ltb-false m n e)) ∙ sym e

least-eqb : (m n : ℕ) → m < 17 → eqb (min 17 n) m ≡ eqb n m
least-eqb m n h = one-test _ _ (λ e. eq-eqb n m (omega (arith, eqb-true (min 17 n) m e))) (λ e. eq-eqb (min 17 n) m (omega (arith, eqb-true n m e)))

pub text-long : (w : List ℕ) → ltb 8 (text_of no_text w).length ≡ ltb 8 (length w)
text-long w = rw (text-least w) (least-ltb 8 (length w) (omega arith))

pub text-empty : (w : List ℕ) → eqb (text_of no_text w).length 0 ≡ eqb (length w) 0
text-empty w = rw (text-least w) (least-eqb 0 (length w) (omega arith))

pub tail-long : (b : ℕ) (w : List ℕ) → ltb 9 (text_of no_text (b ∷ w)).length ≡ ltb 8 (length w)
tail-long b w = rw (text-least (b ∷ w)) (least-ltb 9 (suc (length w)) (omega arith) ∙ leb-suc-suc (suc 8) (length w))

-- WHETHER EVERY BYTE IS ONE OF A CODE
plain-after : (p b : ℕ) → plain_after p b ≡ cond (code_byte b) p 0
unfolding plain_after
plain-after p b = go (leb 33 b) refl (leb b 126) refl
  where
    go : (x : Bool) → leb 33 b ≡ x → (y : Bool) → leb b 126 ≡ y → cond (ltb b 33) 0 (cond (ltb 126 b) 0 p) ≡ cond (leb 33 b && leb b 126) p 0
    go false e y f = rw (e, lt-ltb b 33 (leb-false 33 b e))
    go true e false f = rw (e, f, le-ltb b 33 (leb-true 33 b e), lt-ltb 126 b (leb-false b 126 f))
    go true e true f = rw (e, f, le-ltb b 33 (leb-true 33 b e), le-ltb 126 b (leb-true b 126 f))

plain_of : (t : Text) (w : List ℕ) → (text_of t w).plain ≡ cond (is_code w) t.plain 0
unfolding text_of is_code
plain_of t [] = refl
plain_of t (b ∷ w) = plain_of (text_add t b) w ∙ rw (plain-add t b, plain-after t.plain b) (go (code_byte b) (is_code w))
  where
    go : (x y : Bool) → cond y (cond x t.plain 0) 0 ≡ cond (x && y) t.plain 0
    go true y = refl
    go false true = refl
    go false false = refl

pub text-plain : (w : List ℕ) → eqb (text_of no_text w).plain 1 ≡ is_code w
text-plain w = rw (plain_of no_text w) (go (is_code w))
  where
    go : (t : Bool) → eqb (cond t 1 0) 1 ≡ t
    go true = refl
    go false = refl

-- THE BYTES: eight of a word, with one more behind it
module _ (q : List ℕ) (b : ℕ) where
  grows : (m : ℕ) → Bytes q → b < 256 → m ≡ length q → m < 8 → bit_or (code_of (take 8 q)) (b * 2 ^ (8 * m) % 2 ^ 64) ≡ code_of (take 8 (q ++ (b ∷ [])))
  grows m g h e k =
      let l : length (q ++ (b ∷ [])) ≤ 8 = simp length-append (omega arith) in
      rw (take_all 8 q (omega arith), take_all 8 (q ++ (b ∷ [])) l, e) (code-snoc q b g h (omega arith))

  stays : 8 ≤ length q → code_of (take 8 q) ≡ code_of (take 8 (q ++ (b ∷ [])))
  stays h = rw (take-append-le 8 q (b ∷ []) h)

-- what is kept of a word p
record Holds (t : Text) (p : List ℕ) : Type 0 where
  length_is : t.length ≡ min 17 (length p)
  low-is : t.low ≡ code_of (take 8 p)
  high_is : t.high ≡ code_of (take 8 (drop 8 p))

module _ (t : Text) (p : List ℕ) (b : ℕ) (bs : Bytes p) (byte : b < 256) (h : Holds t p) where
  holds-low : t.length < 8 → Holds (to_low t b) (p ++ (b ∷ []))
  holds-low k = record {
    length_is = simp length-append (omega arith);
    low-is = rw h.low-is (grows p b t.length bs byte (omega arith) k);
    high_is = h.high_is ∙ rw (drop_of_length-le p {i = 8} (omega arith), drop_of_length-le (p ++ (b ∷ [])) {i = 8} (simp length-append (omega arith)));
  }

  holds-high : 8 ≤ t.length → t.length < 16 → Holds (to_high t b) (p ++ (b ∷ []))
  holds-high k l = record {
    length_is = simp length-append (omega arith);
    low-is = h.low-is ∙ stays p b (omega arith);
    high_is =
        rw (h.high_is, drop-append-le 8 p (b ∷ []) (omega arith))
        (grows (drop 8 p) b (t.length - 8) (bytes_drop 8 p bs) byte (simp length-drop (omega arith)) (omega arith));
  }

  holds-none : 16 ≤ t.length → Holds (to_none t b) (p ++ (b ∷ []))
  holds-none k = record {
    length_is = simp length-append (omega arith);
    low-is = h.low-is ∙ stays p b (omega arith);
    high_is = h.high_is ∙ rw (drop-append-le 8 p (b ∷ []) (omega arith)) (stays (drop 8 p) b (simp length-drop (omega arith)));
  }

  holds_more : Holds (text_add t b) (p ++ (b ∷ []))
  holds_more = by_place t b (λ (r : Text). Holds r (p ++ (b ∷ []))) holds-low holds-high holds-none

holds_of : (t : Text) (p w : List ℕ) → Bytes p → Bytes w → Holds t p → Holds (text_of t w) (p ++ w)
unfolding text_of
holds_of t p [] g k h = rw (append-nil p) h
holds_of t p (b ∷ w) g k h =
    rw append_snoc at (holds_of (text_add t b) (p ++ (b ∷ [])) w (bytes-append p (b ∷ []) g (k.0, tt)) k.1 (holds_more t p b g k.0 h))

holds : (w : List ℕ) → Bytes w → Holds (text_of no_text w) w
unfolding code_of
holds w h = holds_of no_text [] w tt h (record { length_is = refl; low-is = refl; high_is = refl })

pub text-low : (w : List ℕ) → Bytes w → (text_of no_text w).low ≡ code_of (take 8 w)
text-low w h = (holds w h).low-is

pub text-high : (w : List ℕ) → Bytes w → (text_of no_text w).high ≡ code_of (take 8 (drop 8 w))
text-high w h = (holds w h).high_is

-- CODES
pub text-code : (w : List ℕ) → Bytes w → length w ≤ 8 → (text_of no_text w).low ≡ code_of w
text-code w h k = text-low w h ∙ rw (take_all 8 w k)

pub text-first : (b : ℕ) (w : List ℕ) → Bytes (b ∷ w) → (text_of no_text (b ∷ w)).low % 256 ≡ b
unfolding code_of
text-first b w h = rw (text-low (b ∷ w) h) (omega arith)

-- behind the first byte: seven bytes, and at most one more
seven-one : (x y : List ℕ) → Bytes x → Bytes y → (0 < length y → length x ≡ 7) → length y ≤ 1 → bit_or (code_of x) (code_of y * 2 ^ 56 % 2 ^ 64) ≡ code_of (x ++ y)
unfolding code_of
seven-one x [] g h e k = rw (append-nil x) (or_zero_r (code_of x))
seven-one x (c ∷ []) g h e k =
    let l : length x ≡ 7 = e (omega arith) in
    let z : c + 256 * 0 ≡ c = omega arith in
    rw z (rw l at (code-snoc x c g h.0 (omega arith)))
seven-one x (c ∷ d ∷ y) g h e k = absurd (omega arith)

pub text-tail : (b : ℕ) (w : List ℕ) → Bytes (b ∷ w) → length w ≤ 8
    → bit_or ((text_of no_text (b ∷ w)).low / 256) ((text_of no_text (b ∷ w)).high * 2 ^ 56 % 2 ^ 64) ≡ code_of w
unfolding code_of
text-tail b w h k =
    let e : (b + 256 * code_of (take 7 w)) / 256 ≡ code_of (take 7 w) = omega arith in
    let l : length (drop 7 w) ≤ 1 = simp length-drop (omega arith) in
    let f : (0 < length (drop 7 w) → length (take 7 w) ≡ 7) = λ z. simp length-take (omega (arith, length-drop 7 w)) in
    rw (text-low (b ∷ w) h, text-high (b ∷ w) h, e, take_all 8 (drop 7 w) (omega arith))
    (seven-one (take 7 w) (drop 7 w) (bytes_take 7 w h.1) (bytes_drop 7 w h.1) f l ∙ ap code_of (take-append-drop 7 w))

eqb-self : (n : ℕ) → eqb n n ≡ true
eqb-self n = eq-eqb n n refl

-- KEYWORDS: a word of at most 16 bytes is told by its length and its numbers
abbrev alike : List ℕ → List ℕ → Bool
alike w k = eqb (length w) (length k) && eqb (code_of (take 8 w)) (code_of (take 8 k)) && eqb (code_of (take 8 (drop 8 w))) (code_of (drop 8 k))

module _ (w k : List ℕ) (g : Bytes w) (h : Bytes k) (short : length k ≤ 16) where
  told : alike w k ≡ true → same w k ≡ true
  told e =
      let (p, r) = both (eqb (length w) (length k) && eqb (code_of (take 8 w)) (code_of (take 8 k))) (eqb (code_of (take 8 (drop 8 w))) (code_of (drop 8 k))) e in
      let (m, l) = both (eqb (length w) (length k)) (eqb (code_of (take 8 w)) (code_of (take 8 k))) p in
      let n : length w ≡ length k = eqb-true _ _ m in
      let s : length (drop 8 w) ≤ 8 = simp length-drop (omega arith) in
      let f : code_of (take 8 (drop 8 w)) ≡ code_of (drop 8 k) = eqb-true _ _ r in
      let x : take 8 w ≡ take 8 k = code-inj (take 8 w) (take 8 k) (bytes_take 8 w g) (bytes_take 8 k h) (simp length-take (omega arith)) (eqb-true _ _ l) in
      let y : drop 8 w ≡ drop 8 k = code-inj (drop 8 w) (drop 8 k) (bytes_drop 8 w g) (bytes_drop 8 k h) (simp length-drop (omega arith)) (rw (take_all 8 (drop 8 w) s) at f) in
      let q : w ≡ k = sym (take-append-drop 8 w) ∙ rw (x, y) (take-append-drop 8 k) in
      rw q (same_self k)

  tells : same w k ≡ true → alike w k ≡ true
  tells e =
      let s : length (drop 8 k) ≤ 8 = simp length-drop (omega arith) in
      rw (same-eq w k e, take_all 8 (drop 8 k) s) (simp eqb-self)

  pub text_same : text_is (text_of no_text w) (length k) (code_of (take 8 k)) (code_of (drop 8 k)) ≡ same w k
  unfolding text_is
  text_same = rw (text-least w, text-low w g, text-high w g, least-eqb (length k) (length w) (omega arith)) (one-test (alike w k) (same w k) told tells)

-- a word that is written out, and a list of them
pub text-keyword : (w k : List ℕ) → Bytes w → leb (length k) 16 && all_bytes k ≡ true → text_is (text_of no_text w) (length k) (code_of (take 8 k)) (code_of (drop 8 k)) ≡ same w k
text-keyword w k g e = let (n, l) = both (leb (length k) 16) (all_bytes k) e in text_same w k g (bytes-test k l) (leb-true (length k) 16 n)

pub text-one-of : (ks : List (List ℕ)) (w : List ℕ) → Bytes w → all_short ks ≡ true → text_in (text_of no_text w) (triples ks) ≡ one_of ks w
unfolding text_in one_of all_short
text-one-of [] w g e = refl
text-one-of (k ∷ ks) w g e =
    let (p, r) = both (leb (length k) 16 && all_bytes k) (all_short ks) e in
    ap₂ (λ (x y : Bool). x || y) (text-keyword w k g p) (text-one-of ks w g r)
