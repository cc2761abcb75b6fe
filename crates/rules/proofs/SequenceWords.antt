-- Kinds 0 to 2: the open words that traces leave are exactly the possible ones.
--
-- Every word that is left is possible: it is made of n−1 bits, and of kind 2 a step starts an attempt only from the word 0 and otherwise only moves
-- bits up, so a word of at most one set bit is followed by another. Every possible word w is left: in n−1 cycles with every later event 1, the first
-- event of cycle u is bit n−2−u of w, so that the word shifts w in from its top bit down. Assumes nothing.
use Prim.Native.Nat.{ℕ, zero, suc, ◌+◌, ◌-◌, ◌*◌, ◌/◌, ◌^◌, ◌<◌, ◌≤◌, zero-le}
use mathlib.Core.Path.{◌≡◌, refl, sym, ap, ◌∙◌}
use mathlib.Core.Bool.{Bool, true, false, not, ◌&&◌, ◌||◌, and-true, and-false}
use mathlib.Core.Logic.{⊎_elim}
use native.Mathlib.Nat.{le_refl, lt_of_le_of_lt, add-zero, div-one, div-eq_of_lt}
use native.Mathlib.Numerals.{one-add}
use native.Mathlib.Omega.{arith}
use lib.Count.{ones, ones_step, ones_cat}
use lib.Dec.{T, leb, ltb, eqb, lit<, lt→ltb, ltb→lt, le→leb, leb→le}
use lib.Pow.{pow_pos, pow-lt, shr_le}
use borrow.Author.Tests.{lt-ltb, le-ltb, le-leb, eqb-true}
use Rattle.bits.specs.Bits.{to_bit, bit, some, number}
use Rattle.bus.specs.Range.{width, within, value_of}
use Rattle.bits.proofs.Tests.{either, is_true, of-true, and_left, and_right, and_intro, or_right, some-none, some-intro}
use Rattle.bits.proofs.Bits.{number_lt, number_is, bit-number, bit-holds, bit_past, bit-shr, bit-top, bit-digit}
use Rattle.bits.proofs.Ones.{ones-mono, ones-one}
use Rattle.bus.proofs.Wires.{wires_for, value-wires, value-zero, wires-small}
use Rattle.rules.specs.declared.config.Config.{Config}
use Rattle.rules.specs.declared.frame.Frame.{Frame}
use Rattle.rules.specs.Config.{family}
use Rattle.rules.specs.Config.Family.{sequence}
use Rattle.rules.specs.Frame.{Trace, up, P}
use Rattle.rules.specs.Sequence.{event_missed}
use Rattle.rules.specs.Rules.{Marks, going_word, going_word_before, failing, going_row}
use Rattle.rules.specs.Step.{starts_attempt, attempt, attempt_on, step_marks_of, step_open_of}
use Rattle.rules.specs.Possible.{possible_of, LeftPassing}
use Rattle.rules.proofs.Frames.{frame_of, frame-proper, known-value, FailsNext}
use Rattle.rules.proofs.Rows.{row-passes, step-fails}
use Rattle.rules.proofs.SequenceRules.{sequence-open, sequence-marks}

-- ---- what the test says

module _ (c : Config) (w : ℕ) where
  possible-intro : w < 2 ^ (c.n - 1) → (eqb c.kind 2 ≡ true → ones w ≤ 1) → T (possible_of sequence c w)
  unfolding possible_of
  possible-intro l h =
      and_intro (ltb w (2 ^ (c.n - 1))) (not (eqb c.kind 2) || leb (ones w) 1) (lt→ltb w (2 ^ (c.n - 1)) l)
      (⊎_elim (λ (e : eqb c.kind 2 ≡ true). or_right (not (eqb c.kind 2)) (leb (ones w) 1) (le→leb (ones w) 1 (h e)))
      (λ (e : eqb c.kind 2 ≡ false). rw e tt) (either (eqb c.kind 2)))

  pub possible-lt : T (possible_of sequence c w) → w < 2 ^ (c.n - 1)
  unfolding possible_of
  possible-lt h = ltb→lt w (2 ^ (c.n - 1)) (and_left (ltb w (2 ^ (c.n - 1))) (not (eqb c.kind 2) || leb (ones w) 1) h)

  possible-one : T (possible_of sequence c w) → eqb c.kind 2 ≡ true → ones w ≤ 1
  unfolding possible_of
  possible-one h e = leb→le (ones w) 1 (rw e at (and_right (ltb w (2 ^ (c.n - 1))) (not (eqb c.kind 2) || leb (ones w) 1) h))

-- ---- every word that is left is possible

possible-zero : (c : Config) → T (possible_of sequence c 0)
unfolding ones
possible-zero c = possible-intro c 0 (pow_pos (c.n - 1)) (λ e. zero-le)

module _ (c : Config) (two : 2 ≤ c.n) where
  -- of kind 2, at most one set bit stays at most one
  step-one : (w : ℕ) (f : Frame) → eqb c.kind 2 ≡ true → ones w ≤ 1 → ones (number (c.n - 1) (attempt c w f)) ≤ 1
  unfolding attempt starts_attempt ones
  step-one w f k h =
      ⊎_elim (λ (e : eqb w 0 ≡ true). omega (arith, ones_step next, older, ap ones (eqb-true w 0 e)))
      (λ (e : eqb w 0 ≡ false).
      let first : bit next 0 ≡ false = bit-number (c.n - 1) (attempt c w f) 0 (omega arith) ∙ rw (starts_attempt, k, e, and-false) in
      omega (arith, ones_step next, older, bit-digit next 0, ap to_bit first))
      (either (eqb w 0))
    where
      next : ℕ
      next = number (c.n - 1) (attempt c w f)

      -- above bit 0 are the bits of w that had their event
      older : ones (next / 2) ≤ ones w
      older =
          ones-mono (next / 2) w
          (λ i t.
          and_left (bit w i) (bit (P c f) (c.n - 1 - suc i)) (bit-holds (c.n - 1) (attempt c w f) (suc i) (rw (bit-shr next 1 i, one-add) at t)))

  module _ (tr : Trace) (f : family c.kind ≡ sequence) where
    before-possible : (t : ℕ) → T (possible_of sequence c (going_word_before c tr t))
    unfolding going_word_before going_word step_open_of
    before-possible zero = possible-zero c
    before-possible (suc t) =
        let next : ℕ → Bool = attempt c (going_word_before c tr t) (tr t) in
        ⊎_elim
        (λ (e : up (tr t) ≡ true).
        rw (going_word, e, f, sequence-open c tr two f t e)
        (possible-intro c (number (c.n - 1) next) (number_lt (c.n - 1) next)
        (λ k. step-one (going_word_before c tr t) (tr t) k (possible-one c (going_word_before c tr t) (before-possible t) k))))
        (λ (e : up (tr t) ≡ false). rw (going_word, e) (possible-zero c)) (either (up (tr t)))

pub sequence-possible : (c : Config) (tr : Trace) → 2 ≤ c.n → family c.kind ≡ sequence → (t : ℕ) → T (possible_of sequence c (going_word c tr t))
unfolding going_word_before
sequence-possible c tr two f t = before-possible c two tr f (suc t)

-- ---- every possible word is left

-- whether event bit i is 1 in cycle u
wanted : Config → ℕ → ℕ → ℕ → Bool
wanted c w u i = ltb i (c.n - 1) || bit w (c.n - 2 - u)

leaving : Config → ℕ → Trace
leaving c w u = frame_of 1 (wires_for c.p (number c.n (wanted c w u))) 0 0

module _ (c : Config) (two : 2 ≤ c.n) (f : family c.kind ≡ sequence) (wide : width c.p ≡ c.n) (ok : T (within c.p))
    (w : ℕ) (h : T (possible_of sequence c w)) where
  events : (u i : ℕ) → i < c.n → bit (P c (leaving c w u)) i ≡ wanted c w u i
  unfolding leaving
  events u i l =
      ap (λ (v : ℕ). bit v i)
      (known-value c.p (wires_for c.p (number c.n (wanted c w u))) (number c.n (wanted c w u))
      (value-wires c.p (number c.n (wanted c w u)) ok (rw wide (number_lt c.n (wanted c w u)))))
      ∙ bit-number c.n (wanted c w u) i l

  -- a set bit of w is accepted as a start: of kind 2 there is none above it
  starts : (k : ℕ) → bit w k ≡ (bit w k && not (eqb c.kind 2 && not (eqb (w / 2 ^ suc k) 0)))
  starts k =
      ⊎_elim
      (λ (b : bit w k ≡ true).
      ⊎_elim (λ (e : eqb c.kind 2 ≡ true). rw (b, e, ones-one w k (possible-one c w h e) (of-true b)))
      (λ (e : eqb c.kind 2 ≡ false). rw (b, e)) (either (eqb c.kind 2)))
      (λ (b : bit w k ≡ false). rw b) (either (bit w k))

  -- cycle u shifts bit k of w in
  shifts : (u k : ℕ) → suc u + k ≡ c.n - 1 → (i : ℕ) → i < c.n - 1 → bit (w / 2 ^ k) i ≡ attempt c (w / 2 ^ suc k) (leaving c w u) i
  unfolding attempt starts_attempt wanted
  shifts u k e zero l =
      let now : c.n - 2 - u ≡ k = omega arith in
      rw (bit-shr, add-zero, events u (c.n - 1) (omega arith), wanted, le-ltb (c.n - 1) (c.n - 1) (le_refl (c.n - 1)), now) (starts k)
  shifts u k e (suc i) l =
      let place : k + suc i ≡ suc k + i = omega arith in
      let j : ℕ = c.n - 1 - suc i in
      rw (bit-shr w k (suc i), bit-shr w (suc k) i, events u j (omega arith), wanted, lt-ltb j (c.n - 1) (omega arith), and-true, place)

  before-leaving : (u k : ℕ) → u + k ≡ c.n - 1 → going_word_before c (leaving c w) u ≡ w / 2 ^ k
  unfolding going_word_before going_word step_open_of up bit leaving
  before-leaving zero k e =
      let all : k ≡ c.n - 1 = omega arith in
      rw all (sym (div-eq_of_lt (possible-lt c w h)))
  before-leaving (suc u) k e =
      rw (going_word, f, sequence-open c (leaving c w) two f u refl, before-leaving u (suc k) (omega arith))
      (sym
      (number_is (c.n - 1) (w / 2 ^ k) (attempt c (w / 2 ^ suc k) (leaving c w u)) (lt_of_le_of_lt (shr_le w k) (possible-lt c w h)) (shifts u k e)))

  -- every attempt has its event
  held : (u i : ℕ) → i < c.n - 1 → bit (P c (leaving c w u)) i ≡ true
  unfolding wanted
  held u i l = events u i (omega arith) ∙ rw (wanted, lt-ltb i (c.n - 1) l) refl

  none-fails : (v u : ℕ) → attempt_on c v (leaving c w u) (event_missed c) ≡ false
  unfolding attempt_on event_missed
  none-fails v u =
      ⊎_elim (λ (e : eqb c.kind 0 ≡ true). rw (e, held u 0 (omega arith)) (and-false (bit v (c.n - 2))))
      (λ (e : eqb c.kind 0 ≡ false).
      rw e
      (some-none (c.n - 1) (λ j. bit v j && event_missed c (leaving c w u) (c.n - 1 - suc j))
      (λ j l. rw (held u (c.n - 1 - suc j) (omega arith)) (and-false (bit v j)))))
      (either (eqb c.kind 0))

  passing : (u : ℕ) → failing (going_row c (leaving c w) u) ≡ false
  unfolding step_marks_of up bit leaving
  passing u =
      let marks = sequence-marks c (leaving c w) two f u refl in
      row-passes c (leaving c w) u sequence f (ap (λ (m : Marks). m.failure) marks ∙ none-fails (going_word_before c (leaving c w) u) u)
      (ap (λ (m : Marks). m.illegal) marks)

pub sequence-left : (c : Config) → 2 ≤ c.n → c.n ≤ 32 → family c.kind ≡ sequence → width c.p ≡ c.n → T (within c.p)
    → (w : ℕ) → T (possible_of sequence c w) → LeftPassing c w
unfolding going_word_before leaving
sequence-left c two small f wide ok w h = record {
  trace = leaving c w;
  cycle = c.n - 2;
  short = omega arith;
  early = λ l. omega arith;
  proper = λ u.
      frame-proper 1 (wires_for c.p (number c.n (wanted c w u))) 0 0 (lit< tt) (wires-small c.p (number c.n (wanted c w u))) (lit< tt) (lit< tt);
  leaves = before-leaving c two f wide ok w h (suc (c.n - 2)) 0 (omega arith) ∙ div-one w;
  passes = λ u l. passing c two f wide ok w h u;
}

-- the oldest attempt there can be misses the last event
pub sequence-fails : (c : Config) → 2 ≤ c.n → c.n ≤ 32 → family c.kind ≡ sequence → width c.p ≡ c.n → T (within c.p) → FailsNext c
unfolding step_marks_of attempt_on event_missed up bit ones
sequence-fails c two small f wide ok = record {
  word = oldest;
  left = left;
  room = left.early (pow_pos (c.n - 2));
  frame = frame_of 1 0 0 0;
  proper = frame-proper 1 0 0 0 (lit< tt) (lit< tt) (lit< tt) (lit< tt);
  fails = step-fails c oldest (frame_of 1 0 0 0) sequence f refl misses;
}
  where
    oldest : ℕ
    oldest = 2 ^ (c.n - 2)

    low : oldest < 2 ^ (c.n - 1)
    low = pow-lt (omega arith)

    single : ones oldest ≤ 1
    single =
        let whole : oldest ≡ 1 * oldest + 0 = omega arith in
        let e : ones oldest ≡ 1 = ap ones whole ∙ ones_cat (c.n - 2) 1 0 (pow_pos (c.n - 2)) in
        omega (arith, e)

    may-be : T (possible_of sequence c oldest)
    may-be = possible-intro c oldest low (λ e. single)

    set : bit oldest (c.n - 2) ≡ true
    set = bit-top oldest (c.n - 2) (pow-lt (le_refl (suc (c.n - 2)))) ∙ le-leb oldest oldest (le_refl oldest)

    no-bit : (i : ℕ) → bit (value_of c.p 0) i ≡ false
    no-bit i = ap (λ (v : ℕ). bit v i) (value-zero c.p) ∙ bit_past 0 0 i (lit< tt) zero-le

    none : (i : ℕ) → event_missed c (frame_of 1 0 0 0) i ≡ true
    none i = rw (no-bit i) refl

    left : LeftPassing c oldest
    left = sequence-left c two small f wide ok oldest may-be

    misses : attempt_on c oldest (frame_of 1 0 0 0) (event_missed c) ≡ true
    misses =
        ⊎_elim (λ (e : eqb c.kind 0 ≡ true). rw (e, set, none 0) refl)
        (λ (e : eqb c.kind 0 ≡ false).
        rw e
        (is_true (some (c.n - 1) (λ j. bit oldest j && event_missed c (frame_of 1 0 0 0) (c.n - 1 - suc j)))
        (some-intro (c.n - 1) (λ j. bit oldest j && event_missed c (frame_of 1 0 0 0) (c.n - 1 - suc j)) (c.n - 2) (omega arith)
        (rw (set, none (c.n - 1 - suc (c.n - 2))) tt))))
        (either (eqb c.kind 0))
