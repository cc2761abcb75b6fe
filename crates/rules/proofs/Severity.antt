-- What the severity decides of a step and of a word: of a checker that goes on both are as its kind has them, and a fatal one has the same until it has stopped. Assumes
-- nothing.
use Prim.Native.Nat.{ℕ, ◌≤◌, zero-le}
use mathlib.Core.Path.{◌≡◌, refl, sym, ap, subst, subst₂, subst⁻¹, ◌∙◌}
use mathlib.Core.Bool.{Bool, true, false, ◌&&◌, cond, and-true, or-false, and-false}
use native.Mathlib.Omega.{arith}
use borrow.Author.Tests.{le-leb, ne_eqb}
use lib.Dec.{T, eqb, leb}
use Rattle.bus.specs.Range.{within}
use Rattle.bits.proofs.Tests.{is_true, is_false}
use Rattle.rules.specs.declared.config.Config.{Config}
use Rattle.rules.specs.declared.frame.Frame.{Frame}
use Rattle.rules.specs.Config.{Family, family, limits, n_fits, min_fits, severity_fits, fatal, widths_of, widths, value_fits, ports, max_kind, Good, with_severity, going_on_config, fatally}
use Rattle.rules.specs.Config.Family.{sequence, time, transition, value, stability, none}
use Rattle.rules.specs.Frame.{up}
use Rattle.rules.specs.Sequence.{event_missed, event_unknown}
use Rattle.rules.specs.Time.{test_missed, test_unknown}
use Rattle.rules.specs.Transition.{in_start_state}
use Rattle.rules.specs.Rules.{row_of, failing, stopped_word}
use Rattle.rules.specs.Step.{starts_attempt, attempt, attempt_on, start, pends, restart, left, triggered, opens, after, tests, compares, tracked_marks, held, step_marks_of, step_open_of, going_step_row, going_step_word, step_row, step_word, Steps}
use Rattle.rules.specs.Possible.{without_reference, with_a_reference, possible_of, going_possible, can_fail, possible}
use Rattle.rules.proofs.Good.{three, numbers, refusal_is}
use Rattle.rules.proofs.Going.{going-low}

-- ---- a checker that goes on

module _ (c : Config) (on : c.severity ≡ 0) (w : ℕ) where
  not-fatal : fatal c ≡ false
  unfolding fatal
  not-fatal = ap (λ (x : ℕ). eqb x 1) on

  pub goes-possible : T (possible c w) → T (going_possible c w)
  unfolding possible
  goes-possible h = rw (not-fatal, or-false) at h

  pub goes-word : (f : Frame) → step_word c w f ≡ going_step_word c w f
  unfolding step_word
  goes-word f = rw not-fatal refl

  pub goes-steps : (f : Frame) (row next : ℕ) → row ≡ going_step_row c w f → next ≡ going_step_word c w f → Steps c w f row next
  unfolding step_row step_word
  goes-steps f row next p q = record { row_is = rw not-fatal p; word_is = rw not-fatal q }

-- ---- 2^63

pub possible-stopped : (c : Config) → Good c → possible c stopped_word ≡ (fatal c && can_fail c)
unfolding possible
possible-stopped c good =
    let none : going_possible c stopped_word ≡ false = is_false (going_possible c stopped_word) (λ h. omega (arith, going-low c good stopped_word h)) in
    rw (none, and-true) refl

module _ (c : Config) (w : ℕ) (other : w ≡ stopped_word → ⊥) where
  pub possible-open : possible c w ≡ going_possible c w
  unfolding possible
  possible-open = rw (ne_eqb w stopped_word other, and-false, or-false) refl

-- ---- the same checker with another severity

module _ (x : ℕ) (c : Config) where
  with-ports : ports (with_severity x c) ≡ ports c
  unfolding ports widths widths_of value_fits
  with-ports = ap (λ (b : Bool). (within c.p && (within c.q && within c.r)) && (b && value_fits c)) (by (family c.kind))
    where
      by : (k : Family) → widths_of k (with_severity x c) ≡ widths_of k c
      by sequence = refl
      by time = refl
      by transition = refl
      by value = refl
      by stability = refl
      by none = refl

  pub with-good : x ≤ 1 → Good c → Good (with_severity x c)
  unfolding limits severity_fits n_fits min_fits
  with-good l good =
      let t = three c good in
      refusal_is (with_severity x c) true true true (is_true (leb c.kind max_kind) t.0)
      (rw (is_true (n_fits c && min_fits c) (numbers c good)) (le-leb x 1 l)) (with-ports ∙ is_true (ports c) t.2)

  with-possible : (w : ℕ) → going_possible (with_severity x c) w ≡ going_possible c w
  unfolding going_possible possible_of without_reference with_a_reference
  with-possible w = by (family c.kind)
    where
      by : (k : Family) → possible_of k (with_severity x c) w ≡ possible_of k c w
      by sequence = refl
      by time = refl
      by transition = refl
      by value = refl
      by stability = refl
      by none = refl

  module _ (w : ℕ) (f : Frame) where
    with_row : going_step_row (with_severity x c) w f ≡ going_step_row c w f
    unfolding going_step_row step_marks_of starts_attempt attempt attempt_on event_missed event_unknown test_missed test_unknown in_start_state start pends restart triggered opens after tests compares tracked_marks
    with_row = by (family c.kind)
      where
        by : (k : Family) → cond (up f) (row_of (step_marks_of (with_severity x c) w f k)) 0 ≡ cond (up f) (row_of (step_marks_of c w f k)) 0
        by sequence = refl
        by time = refl
        by transition = refl
        by value = refl
        by stability = refl
        by none = refl

    with-word : going_step_word (with_severity x c) w f ≡ going_step_word c w f
    unfolding going_step_word step_open_of starts_attempt attempt in_start_state start pends left triggered opens after tests compares held
    with-word = by (family c.kind)
      where
        by : (k : Family) → cond (up f) (step_open_of (with_severity x c) w f k) 0 ≡ cond (up f) (step_open_of c w f k) 0
        by sequence = refl
        by time = refl
        by transition = refl
        by value = refl
        by stability = refl
        by none = refl

-- made what it is
pub with-own : (x : ℕ) (c : Config) → c.severity ≡ x → with_severity x c ≡ c
with-own x c e = ap (λ (y : ℕ). with_severity y c) (sym e)

pub severity-fatal : (c : Config) → c.severity ≡ 1 → fatal c ≡ true
unfolding fatal
severity-fatal c e = ap (λ (x : ℕ). eqb x 1) e

-- ---- a checker that goes on, made fatal: until it has stopped it goes by the same words, and a failure stops it

module _ (c : Config) (on : c.severity ≡ 0) where
  pub going-good : Good (fatally c) → Good c
  going-good good = subst Good (with-own 0 c on) (with-good 0 (fatally c) zero-le good)

  module _ (w : ℕ) (other : w ≡ stopped_word → ⊥) where
    pub open-possible : T (possible (fatally c) w) → T (possible c w)
    open-possible h = rw (possible-open c w other) (rw (possible-open (fatally c) w other, with-possible 1 c w) at h)

    pub steps-fatal : (f : Frame) (row next : ℕ) → Steps c w f row next → Steps (fatally c) w f row (cond (failing row) stopped_word next)
    unfolding step_row step_word fatal
    steps-fatal f row next s =
        let none : eqb c.severity 1 ≡ false = ap (λ (y : ℕ). eqb y 1) on in
        let row_is : row ≡ going_step_row c w f = rw none at s.row_is in
        let next_is : next ≡ going_step_word c w f = rw none at s.word_is in
        record {
          row_is = rw (ne_eqb w stopped_word other, with_row 1 c w f) row_is;
          word_is = rw (ne_eqb w stopped_word other, with_row 1 c w f, with-word 1 c w f, ← row_is) (ap (λ (y : ℕ). cond (failing row) stopped_word y) next_is);
        }

-- ---- a fatal checker c, and g, the same made to go on

pub fatally-going : (c g : Config) → c.severity ≡ 1 → g ≡ going_on_config c → fatally g ≡ c
fatally-going c g e is = ap fatally is ∙ with-own 1 c e

module _ (c g : Config) (e : c.severity ≡ 1) (is : g ≡ going_on_config c) where
  pub made-on : g.severity ≡ 0
  made-on = ap (λ (x : Config). x.severity) is

  pub made-good : Good c → Good g
  made-good good = going-good g made-on (subst⁻¹ Good (fatally-going c g e is) good)

  module _ (w : ℕ) (other : w ≡ stopped_word → ⊥) where
    pub made-possible : T (possible c w) → T (possible g w)
    made-possible h = open-possible g made-on w other (subst⁻¹ (λ (x : Config). T (possible x w)) (fatally-going c g e is) h)

    pub made-steps : (f : Frame) (row next row' next' : ℕ) → Steps g w f row next → (row' ≡ row) × (next' ≡ cond (failing row) stopped_word next)
        → Steps c w f row' next'
    made-steps f row next row' next' s h =
        subst (λ (x : Config). Steps x w f row' next') (fatally-going c g e is)
        (subst₂ (Steps (fatally g) w f) (sym h.0) (sym h.1) (steps-fatal g made-on w other f row next s))
