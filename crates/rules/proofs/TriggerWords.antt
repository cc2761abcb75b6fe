-- Kinds 7 and 8: the words that traces leave are the possible ones. The cycles left are at most max. A window of kind 8 that has a reference has taken it in s+min or
-- later, so that at most max−min cycles are left. With a trigger in cycle 0 only and no reset, max − t cycles are left after cycle t; there is no reference where P is
-- unknown in each cycle, and it is any value where P holds that. Where P has one value in all cycles, of kind 7 the expected one, or is unknown, nothing fails. Assumes
-- nothing.
use Prim.Native.Nat.{ℕ, zero, suc, ◌+◌, ◌-◌, ◌^◌, ◌<◌, ◌≤◌}
use mathlib.Core.Path.{◌≡◌, refl, sym, ap, subst, subst⁻¹, ◌∙◌}
use mathlib.Core.Bool.{Bool, true, false, not, ◌&&◌, ◌||◌, cond, and-false}
use mathlib.Core.Logic.{⊎_elim}
use native.Mathlib.Nat.{eq-zero-or-pos}
use native.Mathlib.Omega.{arith}
use lib.Dec.{T, leb, ltb, eqb, leb→le, le→leb, lt→ltb, ltb→lt, eqb→eq, lit<}
use borrow.Author.Tests.{le-leb, ltb-false, eq-eqb, ne_eqb, eqb-true, eqb-false}
use Rattle.bits.specs.Bits.{bit, to_bit, some}
use Rattle.bus.specs.Range.{width, within}
use lib.Pow.{pow_pos}
use Rattle.bits.proofs.Tests.{is_true, is_false, of-true, either, and_intro, and_left, and_right, or_left, or_right, or_cases, some-intro, some-elim, some-none, every-intro}
use Rattle.bus.proofs.Wires.{wires_for, wires-small, value-wires, value-zero, value-lt, one-fits}
use Rattle.rules.specs.declared.config.Config.{Config}
use Rattle.rules.specs.declared.frame.Frame.{Frame}
use Rattle.rules.specs.Config.{family, max_window}
use Rattle.rules.specs.Config.Family.{value, stability}
use Rattle.rules.specs.Frame.{Trace, Proper, sample, up, enabled, P, Q, known_p}
use Rattle.rules.specs.Checks.{accepted, busy, fails}
use Rattle.rules.specs.Window.{between, at_first}
use Rattle.rules.specs.Trigger.{with_reference, trigger_seen, trigger_pending, in_window, tested, compared, trigger_checks, has_reference, reference, stability_checks}
use Rattle.rules.specs.Rules.{Marks, marks_of, going_word, going_word_before, failing, going_row}
use Rattle.rules.specs.Step.{left_in, holds, reference_in, pends, triggered, opens, after, tests, compares, tracked_marks, step_marks_of, going_step_row}
use Rattle.rules.specs.Possible.{without_reference, with_a_reference, possible_of, going_possible, LeftPassing}
use Rattle.rules.proofs.Frames.{frame_of, frame_with, frame-proper, with-proper, known-value, zero_left, FailsNext}
use Rattle.rules.proofs.Good.{possible-are}
use Rattle.rules.proofs.Rows.{row-passes, step-fails, step-passes}
use Rattle.rules.proofs.Windows.{live-range, live-count, low}
use Rattle.rules.proofs.TriggerRules.{windowed, alive, left-before, trigger-accepted, busy-left, forbidden, value-word, value-marks, unstable, stable-before, word-pending, word_none, left-with, holds-with, reference-with}

-- ---- `at_first`

first_below : (k : ℕ) (f : ℕ → Bool) (g : ℕ → ℕ) (b : ℕ) → 0 < b → ((i : ℕ) → g i < b) → at_first k f g < b
unfolding at_first
first_below zero f g b z h = z
first_below (suc k) f g b z h = by (some k f) (f k) (first_below k f g b z h)
  where
    by : (x y : Bool) → at_first k f g < b → cond x (at_first k f g) (cond y (g k) 0) < b
    by true y l = l
    by false true l = h k
    by false false l = z

first-same : (k : ℕ) (f : ℕ → Bool) (g : ℕ → ℕ) (v : ℕ) → ((i : ℕ) → g i ≡ v) → T (some k f) → at_first k f g ≡ v
unfolding at_first some
first-same zero f g v h l = absurd l
first-same (suc k) f g v h l = by (some k f) (f k) (first-same k f g v h) l
  where
    by : (x y : Bool) → (T x → at_first k f g ≡ v) → T (x || y) → cond x (at_first k f g) (cond y (g k) 0) ≡ v
    by true y e o = e tt
    by false true e o = h k
    by false false e o = absurd o

-- ---- the words that traces leave

with-reference : (c : Config) (l r : ℕ) → l < 2 ^ 16 → 0 < l → l ≤ c.n - c.min → r < 2 ^ width c.p → T (with_a_reference c (l + with_reference r))
unfolding with_a_reference
with-reference c l r h z m f =
    rw (holds-with l r, left-with l r h, reference-with l r h)
    (and_intro (ltb 0 l && leb l (c.n - c.min)) (ltb r (2 ^ width c.p))
    (and_intro (ltb 0 l) (leb l (c.n - c.min)) (lt→ltb 0 l z) (le→leb l (c.n - c.min) m)) (lt→ltb r (2 ^ width c.p) f))

pub value-possible : (c : Config) (tr : Trace) → family c.kind ≡ value → (t : ℕ) → T (possible_of value c (going_word c tr t))
unfolding possible_of going_word_before
value-possible c tr k t =
    rw (value-word c tr k (suc t))
    (le→leb (left-before c tr (forbidden c tr k) (suc t)) c.n
    (low (trigger_checks c tr (forbidden c tr k)) tr c.n (windowed c tr (forbidden c tr k)) (suc t)))

module _ (c : Config) (tr : Trace) (k : family c.kind ≡ stability) (high : c.n < 2 ^ 16) where
  abbrev wrong : ℕ → ℕ → Bool
  wrong = unstable c tr k high

  -- a reference was taken from s+min on
  taken : (t s : ℕ) → T (has_reference c tr s (suc t)) → s + c.min ≤ t
  unfolding has_reference compared tested
  taken t s h =
      let r = some-elim (suc t) (compared c tr s) h in
      let was = and_left (tested c tr s r.at) (known_p c (tr r.at)) r.holds in
      let from = leb→le (s + c.min) r.at (and_right (enabled (tr r.at) && in_window c tr s r.at) (leb (s + c.min) r.at) was) in
      omega (arith, r.low)

  reference-below : (s t : ℕ) → reference c tr s t < 2 ^ width c.p
  unfolding reference
  reference-below s t =
      first_below t (compared c tr s) (λ u. P c (tr u)) (2 ^ width c.p) (pow_pos (width c.p)) (λ u. value-lt c.p (sample (tr u) 1))

  word-possible : (t s : ℕ) → T (alive c tr wrong (suc t) s) → (b : Bool) → has_reference c tr s (suc t) ≡ b → T (possible_of stability c (going_word c tr t))
  unfolding possible_of going_word_before without_reference
  word-possible t s p true h =
      let l = stable-before c tr k high (suc t) in
      let r : ℕ = reference c tr s (suc t) in
      let w : going_word c tr t ≡ l + with_reference r = word-pending c tr k high (suc t) s p ∙ rw h refl in
      let e = live-count (trigger_checks c tr wrong) tr c.n (windowed c tr wrong) (suc t) s p in
      let g = live-range (trigger_checks c tr wrong) tr c.n (windowed c tr wrong) (suc t) s p in
      let m = taken t s (of-true h) in
      rw w
      (or_right (eqb (l + with_reference r) 0 || without_reference c (l + with_reference r)) (with_a_reference c (l + with_reference r))
      (with-reference c l r (omega arith) (omega arith) (omega arith) (reference-below s (suc t))))
  word-possible t s p false h =
      let l = stable-before c tr k high (suc t) in
      let w : going_word c tr t ≡ l + 0 = word-pending c tr k high (suc t) s p ∙ rw h refl in
      let z : going_word c tr t ≡ l = omega (arith, w) in
      rw z
      (or_left (eqb l 0 || without_reference c l) (with_a_reference c l)
      (or_right (eqb l 0) (without_reference c l) (le→leb l c.n (low (trigger_checks c tr wrong) tr c.n (windowed c tr wrong) (suc t)))))

  pub stability-possible : (t : ℕ) → T (possible_of stability c (going_word c tr t))
  unfolding possible_of going_word_before busy
  stability-possible t =
      ⊎_elim
      (λ (e : ltb 0 (stable-before c tr k high (suc t)) ≡ true).
      let r = some-elim (suc t) (alive c tr wrong (suc t)) (of-true (busy-left c tr wrong (suc t) ∙ e)) in
      word-possible t r.at r.holds (has_reference c tr r.at (suc t)) refl)
      (λ (e : ltb 0 (stable-before c tr k high (suc t)) ≡ false).
      let z : going_word c tr t ≡ 0 = word_none c tr k high (suc t) (omega (arith, ltb-false 0 (stable-before c tr k high (suc t)) e)) in rw z tt)
      (either (ltb 0 (stable-before c tr k high (suc t))))

-- what a possible word of kind 8 says of its parts
pub record WordParts (c : Config) (w : ℕ) : Type 0 where
  pub some_left : 0 < w → 0 < left_in w
  pub left-low : left_in w ≤ c.n
  pub plain-low : w < 2 ^ 48 → w ≤ c.n
  pub compared-low : 2 ^ 48 ≤ w → left_in w ≤ c.n - c.min

pub word-parts : (c : Config) (w : ℕ) → family c.kind ≡ stability → c.n ≤ max_window → T (going_possible c w) → WordParts c w
unfolding possible_of without_reference with_a_reference
word-parts c w k high h =
    ⊎_elim
    (λ (o : T (eqb w 0 || without_reference c w)).
    ⊎_elim (λ (e : T (eqb w 0)). small (omega (arith, eqb→eq w 0 e)))
    (λ (b : T (without_reference c w)). small (leb→le w c.n b))
    (or_cases (eqb w 0) (without_reference c w) o))
    (λ (o : T (with_a_reference c w)).
    let l = left_in w in
    let inside = ltb 0 l && leb l (c.n - c.min) in
    let fits = ltb (reference_in w) (2 ^ width c.p) in
    let both = and_left (holds w && inside) fits o in
    let held = leb→le (2 ^ 48) w (and_left (holds w) inside both) in
    let some = and_left (ltb 0 l) (leb l (c.n - c.min)) (and_right (holds w) inside both) in
    let low = leb→le l (c.n - c.min) (and_right (ltb 0 l) (leb l (c.n - c.min)) (and_right (holds w) inside both)) in
    record { some_left = λ _. ltb→lt 0 l some; left-low = omega arith; plain-low = λ h. absurd (omega arith); compared-low = λ _. low })
    (or_cases (eqb w 0 || without_reference c w) (with_a_reference c w) (subst T (sym (possible-are c w stability k)) h))
  where
    small : w ≤ c.n → WordParts c w
    small l = record { some_left = λ z. omega arith; left-low = omega arith; plain-low = λ _. l; compared-low = λ h. absurd (omega arith) }

-- ---- a trace for each possible word

-- a trigger in cycle 0 only, and P with the value x and the unknown wires u; each cycle is enabled
once : Config → ℕ → ℕ → Trace
once c x u t = frame_with 3 (wires_for c.p x) (wires_for c.q (to_bit (eqb t 0))) 0 u

once-proper : (c : Config) (x u : ℕ) → u < 2 ^ 32 → (t : ℕ) → Proper (once c x u t)
unfolding once
once-proper c x u h t =
    with-proper 3 (wires_for c.p x) (wires_for c.q (to_bit (eqb t 0))) 0 u (lit< tt) (wires-small c.p x) (wires-small c.q (to_bit (eqb t 0))) (lit< tt) h

module _ (c : Config) (x u : ℕ) where
  abbrev tr : Trace
  tr = once c x u

  running : (t : ℕ) → up (tr t) ≡ true
  unfolding up bit once
  running t = refl

  on : (t : ℕ) → enabled (tr t) ≡ true
  unfolding enabled up bit once
  on t = refl

  module _ (g : T (within c.q)) (v : width c.q ≡ 1) (wrong : ℕ → ℕ → Bool) where
    first-pending : (t : ℕ) → 0 < t → t ≤ c.n → T (trigger_pending c tr 0 t)
    unfolding trigger_pending between
    first-pending t z h =
        and_intro (ltb 0 t && leb t (0 + c.n)) (between 0 t (λ u. up (tr u)))
        (and_intro (ltb 0 t) (leb t (0 + c.n)) (lt→ltb 0 t z) (le→leb t (0 + c.n) (omega arith)))
        (every-intro t (λ u. leb u 0 || up (tr u)) (λ u l. or_right (leb u 0) (up (tr u)) (of-true (running u))))

    first-in : (t : ℕ) → t ≤ c.n → T (in_window c tr 0 t)
    unfolding in_window
    first-in zero h = tt
    first-in (suc t) h = or_right (eqb 0 (suc t)) (trigger_pending c tr 0 (suc t)) (first-pending (suc t) (omega arith) h)

    first-accepted : T (accepted (trigger_checks c tr wrong) 0)
    unfolding trigger_seen busy some once
    first-accepted =
        rw (trigger-accepted c tr wrong 0, on 0, known-value c.q (wires_for c.q 1) 1 (value-wires c.q 1 g (rw v (lit< tt)))) tt

    first-alive : (t : ℕ) → t < c.n → T (alive c tr wrong (suc t) 0)
    unfolding trigger_checks
    first-alive t l =
        and_intro (accepted (trigger_checks c tr wrong) 0) (trigger_pending c tr 0 (suc t)) first-accepted (first-pending (suc t) (omega arith) l)

    left-first : (t : ℕ) → t < c.n → left-before c tr wrong (suc t) ≡ c.n - t
    left-first t l = omega (arith, live-count (trigger_checks c tr wrong) tr c.n (windowed c tr wrong) (suc t) 0 (first-alive t l))

-- the word 0 is left, and any other for which there is a trace
or-zero : (c : Config) (w : ℕ) → (0 < w → LeftPassing c w) → LeftPassing c w
or-zero c zero h = zero_left c
or-zero c (suc w) h = h (omega arith)

-- ---- nothing fails where P has one value, or is unknown

stability-passes : (c : Config) (tr : Trace) → family c.kind ≡ stability
    → ((s t : ℕ) → (compared c tr s t && (has_reference c tr s t && not (eqb (P c (tr t)) (reference c tr s t)))) ≡ false)
    → (t : ℕ) → failing (going_row c tr t) ≡ false
unfolding marks_of fails stability_checks trigger_checks
stability-passes c tr k h t =
    row-passes c tr t stability k
    (some-none (suc t) (λ s. accepted (stability_checks c tr) s && (stability_checks c tr).violated s t)
    (λ s l. rw (h s t) (and-false (accepted (stability_checks c tr) s))))
    refl

module _ (c : Config) (x : ℕ) (w : T (within c.p)) (f : x < 2 ^ width c.p) where
  abbrev steady : Trace
  steady = once c x 0

  same : (t : ℕ) → P c (steady t) ≡ x
  unfolding once
  same t = known-value c.p (wires_for c.p x) x (value-wires c.p x w f)

  known : (t : ℕ) → known_p c (steady t) ≡ true
  unfolding once
  known t = rw (value-zero c.p) refl

  value_passes : family c.kind ≡ value → x ≡ c.value → (t : ℕ) → failing (going_row c steady t) ≡ false
  unfolding step_marks_of tracked_marks
  value_passes k e t =
      let marks = value-marks c steady k t in
      let before = going_word_before c steady t in
      row-passes c steady t value k
      (ap (λ (m : Marks). m.failure) marks ∙ rw (same t, eq-eqb x c.value e) (and-false (compares c before (steady t) before)))
      (ap (λ (m : Marks). m.illegal) marks)

  -- a reference is that value
  stable : (s t : ℕ) → (compared c steady s t && (has_reference c steady s t && not (eqb (P c (steady t)) (reference c steady s t)))) ≡ false
  unfolding has_reference reference
  stable s t =
      ⊎_elim
      (λ (h : some t (compared c steady s) ≡ true).
      rw (h, same t, first-same t (compared c steady s) (λ u. P c (steady u)) x same (of-true h), eq-eqb x x refl) (and-false (compared c steady s t)))
      (λ (h : some t (compared c steady s) ≡ false). rw h (and-false (compared c steady s t))) (either (some t (compared c steady s)))

module _ (c : Config) (g : T (within c.q)) (v : width c.q ≡ 1) (high : c.n ≤ max_window) (f : T (within c.p)) where
  module _ (k : family c.kind ≡ value) (fits : c.value < 2 ^ width c.p) where
    pub value-left : (w : ℕ) → T (possible_of value c w) → LeftPassing c w
    unfolding possible_of going_word_before
    value-left w h =
        or-zero c w
        (λ z.
        let tr = once c c.value 0 in
        let l = leb→le w c.n h in
        record {
          trace = tr;
          cycle = c.n - w;
          short = omega arith;
          early = λ _. omega arith;
          proper = once-proper c c.value 0 (lit< tt);
          leaves = value-word c tr k (suc (c.n - w)) ∙ left-first c c.value 0 g v (forbidden c tr k) (c.n - w) (omega arith) ∙ omega arith;
          passes = λ t l. value_passes c c.value f fits k refl t;
        })

    -- the tracked value is another in s+max
    pub value-fails : c.min ≤ c.n → FailsNext c
    unfolding possible_of zero_left step_marks_of tracked_marks compares tests opens after triggered pends enabled up bit
    value-fails low = ⊎_elim at_once later (eq-zero-or-pos c.n)
      where
        other : ℕ
        other = cond (eqb c.value 0) 1 0

        other_fits : other < 2 ^ width c.p
        other_fits =
            ⊎_elim (λ (e : eqb c.value 0 ≡ true). rw e (one-fits c.p)) (λ (e : eqb c.value 0 ≡ false). rw e (pow_pos (width c.p)))
            (either (eqb c.value 0))

        differs : eqb other c.value ≡ false
        differs =
            ⊎_elim (λ (e : eqb c.value 0 ≡ true). rw (e, eqb-true c.value 0 e) refl)
            (λ (e : eqb c.value 0 ≡ false). rw e (ne_eqb 0 c.value (λ z. eqb-false c.value 0 e (sym z))))
            (either (eqb c.value 0))

        frame : Frame
        frame = frame_of 3 (wires_for c.p other) (wires_for c.q 1) 0

        frame_is : Proper frame
        frame_is = frame-proper 3 (wires_for c.p other) (wires_for c.q 1) 0 (lit< tt) (wires-small c.p other) (wires-small c.q 1) (lit< tt)

        trigger : Q c frame ≡ 1
        trigger = known-value c.q (wires_for c.q 1) 1 (value-wires c.q 1 g (rw v (lit< tt)))

        tracked : P c frame ≡ other
        tracked = known-value c.p (wires_for c.p other) other (value-wires c.p other f other_fits)

        at_once : c.n ≡ 0 → FailsNext c
        at_once z = record {
          word = 0;
          left = zero_left c;
          room = lit< tt;
          frame = frame;
          proper = frame_is;
          fails = step-fails c 0 frame value k refl (rw (trigger, tracked, differs, le-leb (c.n + c.min) c.n (omega arith), value-zero c.p) refl);
        }

        later : 0 < c.n → FailsNext c
        later p = record {
          word = 1;
          left = value-left 1 (le→leb 1 c.n p);
          room = (value-left 1 (le→leb 1 c.n p)).early (lit< tt);
          frame = frame;
          proper = frame_is;
          fails = step-fails c 1 frame value k refl (rw (trigger, tracked, differs, le-leb (0 + c.min) c.n (omega arith), value-zero c.p) refl);
        }

  module _ (k : family c.kind ≡ stability) where
    abbrev few : c.n < 2 ^ 16
    few = omega arith

    -- P is never known
    without-left : (w : ℕ) → w ≤ c.n → 0 < w → LeftPassing c w
    unfolding going_word_before once compared has_reference
    without-left w l z = record {
      trace = tr₁;
      cycle = c.n - w;
      short = omega arith;
      early = λ _. omega arith;
      proper = once-proper c 0 (wires_for c.p 1) (wires-small c.p 1);
      passes = λ t _. stability-passes c tr₁ k (λ s t. rw (never s t) refl) t;
      leaves = word-pending c tr₁ k few (suc (c.n - w)) 0 (first-alive c 0 (wires_for c.p 1) g v wrong₁ (c.n - w) (omega arith))
          ∙ rw (no-reference (suc (c.n - w)), left-first c 0 (wires_for c.p 1) g v wrong₁ (c.n - w) (omega arith)) (omega arith);
    }
      where
        tr₁ : Trace
        tr₁ = once c 0 (wires_for c.p 1)

        wrong₁ : ℕ → ℕ → Bool
        wrong₁ = unstable c tr₁ k few

        never : (s t : ℕ) → compared c tr₁ s t ≡ false
        never s t = rw (value-wires c.p 1 f (one-fits c.p)) (and-false (tested c tr₁ s t))

        no-reference : (t : ℕ) → has_reference c tr₁ 0 t ≡ false
        no-reference t = some-none t (compared c tr₁ 0) (λ u l. never 0 u)

    with-left : (l r : ℕ) → 0 < l → l ≤ c.n - c.min → r < 2 ^ width c.p → LeftPassing c (l + with_reference r)
    unfolding going_word_before tested compared has_reference reference
    with-left l r z m fits = record {
      trace = tr₁;
      cycle = c.n - l;
      short = omega arith;
      early = λ _. omega arith;
      proper = once-proper c r 0 (lit< tt);
      passes = λ t _. stability-passes c tr₁ k (stable c r f fits) t;
      leaves = word-pending c tr₁ k few (suc (c.n - l)) 0 (first-alive c r 0 g v wrong₁ (c.n - l) (omega arith))
          ∙ rw (is_true (has_reference c tr₁ 0 (suc (c.n - l))) taken, held, left-first c r 0 g v wrong₁ (c.n - l) (omega arith)) (omega arith);
    }
      where
        tr₁ : Trace
        tr₁ = once c r 0

        wrong₁ : ℕ → ℕ → Bool
        wrong₁ = unstable c tr₁ k few

        taken : T (has_reference c tr₁ 0 (suc (c.n - l)))
        taken =
            some-intro (suc (c.n - l)) (compared c tr₁ 0) c.min (omega arith)
            (rw (on c r 0 c.min, known c r f fits c.min, is_true (in_window c tr₁ 0 c.min) (first-in c r 0 g v wrong₁ c.min (omega arith)), le-leb (0 + c.min) c.min (omega arith)) tt)

        held : reference c tr₁ 0 (suc (c.n - l)) ≡ r
        held = first-same (suc (c.n - l)) (compared c tr₁ 0) (λ u. P c (tr₁ u)) r (same c r f fits) taken

    pub stability-left : (w : ℕ) → T (possible_of stability c w) → LeftPassing c w
    unfolding possible_of without_reference with_a_reference
    stability-left w h =
        ⊎_elim
        (λ (o : T (eqb w 0 || without_reference c w)).
        ⊎_elim (λ (e : T (eqb w 0)). subst⁻¹ (LeftPassing c) (eqb→eq w 0 e) (zero_left c))
        (λ (b : T (without_reference c w)). or-zero c w (without-left w (leb→le w c.n b)))
        (or_cases (eqb w 0) (without_reference c w) o))
        (λ (o : T (with_a_reference c w)).
        let l = left_in w in
        let inside = ltb 0 l && leb l (c.n - c.min) in
        let fits = ltb (reference_in w) (2 ^ width c.p) in
        let a = and_left (holds w && inside) fits o in
        let i = and_right (holds w) inside a in
        let whole : l + with_reference (reference_in w) ≡ w = omega (arith, leb→le (2 ^ 48) w (and_left (holds w) inside a)) in
        subst (LeftPassing c) whole
        (with-left l (reference_in w) (ltb→lt 0 l (and_left (ltb 0 l) (leb l (c.n - c.min)) i)) (leb→le l (c.n - c.min) (and_right (ltb 0 l) (leb l (c.n - c.min)) i))
        (ltb→lt (reference_in w) (2 ^ width c.p) (and_right (holds w && inside) fits o))))
        (or_cases (eqb w 0 || without_reference c w) (with_a_reference c w) h)

    -- the reference is 0, and the tracked value 1 in s+max
    pub stability-fails : c.min < c.n → FailsNext c
    unfolding step_marks_of tracked_marks compares tests opens after triggered pends enabled up bit
    stability-fails low = record {
      word = 1 + with_reference 0;
      left = with-left 1 0 (lit< tt) (omega arith) (pow_pos (width c.p));
      room = (with-left 1 0 (lit< tt) (omega arith) (pow_pos (width c.p))).early (lit< tt);
      frame = frame_of 3 (wires_for c.p 1) 0 0;
      proper = frame-proper 3 (wires_for c.p 1) 0 0 (lit< tt) (wires-small c.p 1) (lit< tt) (lit< tt);
      fails = step-fails c (1 + with_reference 0) (frame_of 3 (wires_for c.p 1) 0 0) stability k refl
          (rw (value-zero c.q, value-zero c.p, known-value c.p (wires_for c.p 1) 1 (value-wires c.p 1 f (one-fits c.p)), le-leb (0 + c.min) c.n (omega arith)) refl);
    }

-- kind 8 with min equal to max: there is no reference before s+max, so nothing fails
pub stability-never : (c : Config) (w : ℕ) (f : Frame) → family c.kind ≡ stability → c.n ≤ max_window → c.min ≡ c.n → T (going_possible c w)
    → failing (going_step_row c w f) ≡ false
unfolding step_marks_of tracked_marks
stability-never c w f k high e h = step-passes c w f stability k (rw none (and-false (compares c w f (left_in w)))) refl
  where
    none : holds w ≡ false
    none =
        let parts = word-parts c w k high h in
        is_false (holds w)
        (λ o. let m = leb→le (2 ^ 48) w o in omega (arith, parts.compared-low m, parts.some_left (omega arith)))
