-- A checker that goes on after a failure: what the rules give is what one step gives, and the words that traces leave are the possible ones. Each is proved
-- family by family in the files beside this one. Assumes nothing.
use Prim.Native.Nat.{ℕ, zero, suc, ◌-◌, ◌^◌, ◌<◌, ◌≤◌}
use mathlib.Core.Path.{◌≡◌, refl, sym, ap, ap₂, ◌∙◌}
use mathlib.Core.Bool.{Bool, true, false, not, ◌&&◌, ◌||◌, cond}
use mathlib.Core.List.{[]}
use mathlib.Core.Logic.{⊎_elim}
use native.Mathlib.Nat.{le_refl, le_step}
use native.Mathlib.Omega.{arith}
use borrow.Author.Tests.{lt-ltb, le-ltb, eq-eqb, not-false}
use lib.Dec.{T, leb, eqb, ltb, leb→le, ltb→lt, eqb→eq}
use lib.Pow.{pow-lt, pow_mono}
use Rattle.bits.specs.Bits.{bit}
use Rattle.bits.proofs.Tests.{either, is_true, of-true, and_left, and_right, or_cases, differ-true}
use Rattle.bus.specs.Range.{width}
use Rattle.bus.proofs.Ranges.{width-le}
use Rattle.rules.specs.declared.config.Config.{Config}
use Rattle.rules.specs.declared.frame.Frame.{Frame}
use Rattle.rules.specs.Config.{Family, family, Good}
use Rattle.rules.specs.Config.Family.{sequence, time, transition, value, stability, none}
use Rattle.rules.specs.Frame.{Trace, Proper, up}
use Rattle.rules.specs.Rules.{row_of, marks_of, open_of, going_row, going_word, going_word_before, failing, stopped_word}
use Rattle.rules.specs.Step.{left_in, holds, reference_in, step_marks_of, step_open_of, going_step_row, going_step_word}
use Rattle.rules.specs.Possible.{without_reference, with_a_reference, possible_of, going_possible, can_fail, LeftPassing}
use Rattle.rules.proofs.Good.{sequence-config, time-config, transition-widths, value-config, stability-config, not_none, p-within, q-within, r-within, value_low, possible-are, family-stability, stability-kind}
use Rattle.rules.proofs.Frames.{FailsNext}
use Rattle.rules.proofs.SequenceRules.{sequence-open, sequence-marks}
use Rattle.rules.proofs.SequenceWords.{possible-lt, sequence-possible, sequence-left, sequence-fails}
use Rattle.rules.proofs.TimeRules.{time-open, time-marks}
use Rattle.rules.proofs.TimeWords.{time-possible, time-left, time-fails}
use Rattle.rules.proofs.TransitionRules.{transition-open, transition-marks}
use Rattle.rules.proofs.TransitionWords.{transition-possible, transition-left, transition-fails}
use Rattle.rules.proofs.TriggerRules.{value-open, value-marks, stability-open, stability-marks}
use Rattle.rules.proofs.TriggerWords.{value-possible, value-left, value-fails, stability-possible, stability-left, stability-fails, stability-never}

-- the cycles left of a window fit below the reference
few : (c : Config) → Good c → family c.kind ≡ stability → c.n < 2 ^ 16
few c good e = omega (arith, (stability-config c good e).high)

marks-step : (c : Config) → Good c → (tr : Trace) (t : ℕ) → up (tr t) ≡ true → (k : Family) → family c.kind ≡ k
    → marks_of k c tr t ≡ step_marks_of c (going_word_before c tr t) (tr t) k
marks-step c good tr t here sequence e = sequence-marks c tr (sequence-config c good e).low e t here
marks-step c good tr t here time e = time-marks c tr e t here
marks-step c good tr t here transition e = transition-marks c tr e t here
marks-step c good tr t here value e = value-marks c tr e t
marks-step c good tr t here stability e = stability-marks c tr e (few c good e) t
marks-step c good tr t here none e = absurd (not_none c good e)

open_step : (c : Config) → Good c → (tr : Trace) (t : ℕ) → up (tr t) ≡ true → (k : Family) → family c.kind ≡ k
    → open_of k c tr t ≡ step_open_of c (going_word_before c tr t) (tr t) k
open_step c good tr t here sequence e = sequence-open c tr (sequence-config c good e).low e t here
open_step c good tr t here time e = time-open c tr e t here
open_step c good tr t here transition e = transition-open c tr e t here
open_step c good tr t here value e = value-open c tr e t here
open_step c good tr t here stability e = stability-open c tr e (few c good e) t here
open_step c good tr t here none e = absurd (not_none c good e)

module _ (c : Config) (good : Good c) (tr : Trace) (t : ℕ) where
  pub going-row : going_row c tr t ≡ going_step_row c (going_word_before c tr t) (tr t)
  unfolding going_row going_step_row
  going-row =
      ⊎_elim (λ (e : up (tr t) ≡ true). rw e (ap row_of (marks-step c good tr t e (family c.kind) refl))) (λ (e : up (tr t) ≡ false). rw e)
      (either (up (tr t)))

  pub going-word : going_word c tr t ≡ going_step_word c (going_word_before c tr t) (tr t)
  unfolding going_word going_step_word
  going-word =
      ⊎_elim (λ (e : up (tr t) ≡ true). rw e (open_step c good tr t e (family c.kind) refl)) (λ (e : up (tr t) ≡ false). rw e) (either (up (tr t)))

-- Every word that the rules give is possible.
pub going-possible : (c : Config) → Good c → (tr : Trace) (t : ℕ) → T (going_possible c (going_word c tr t))
going-possible c good tr t = by (family c.kind) refl
  where
    by : (k : Family) → family c.kind ≡ k → T (going_possible c (going_word c tr t))
    by sequence e = rw (← possible-are c (going_word c tr t) sequence e) (sequence-possible c tr (sequence-config c good e).low e t)
    by time e = rw (← possible-are c (going_word c tr t) time e) (time-possible c tr e t)
    by transition e = rw (← possible-are c (going_word c tr t) transition e) (transition-possible c tr e (transition-widths c good e) t)
    by value e = rw (← possible-are c (going_word c tr t) value e) (value-possible c tr e t)
    by stability e = rw (← possible-are c (going_word c tr t) stability e) (stability-possible c tr e (few c good e) t)
    by none e = absurd (not_none c good e)

pub going_before : (c : Config) → Good c → (tr : Trace) (t : ℕ) → T (going_possible c (going_word_before c tr t))
unfolding going_word_before going_word up bit
going_before c good tr zero = going-possible c good (λ _. record { samples = [] }) 0
going_before c good tr (suc t) = going-possible c good tr t

-- Every possible word is left by some trace in which nothing fails.
pub going-left : (c : Config) → Good c → (w : ℕ) → T (going_possible c w) → LeftPassing c w
going-left c good w h = by (family c.kind) refl
  where
    asked : (k : Family) → family c.kind ≡ k → T (possible_of k c w)
    asked k e = rw (possible-are c w k e) h

    by : (k : Family) → family c.kind ≡ k → LeftPassing c w
    by sequence e =
        let s = sequence-config c good e in sequence-left c s.low s.high e s.p-width (p-within c good) w (asked sequence e)
    by time e =
        let s = time-config c good e in time-left c e s.p-width (p-within c good) s.q-width (q-within c good) s.high w (asked time e)
    by transition e = transition-left c e (transition-widths c good e) (r-within c good) w (asked transition e)
    by value e =
        let s = value-config c good e in value-left c (q-within c good) s.q-width s.high (p-within c good) e (value_low c good) w (asked value e)
    by stability e =
        let s = stability-config c good e in stability-left c (q-within c good) s.q-width s.high (p-within c good) e w (asked stability e)
    by none e = absurd (not_none c good e)

-- 2^63 is above every word of a checker that goes on
module _ (c : Config) (w : ℕ) (fits : 2 ^ width c.p ≤ 2 ^ 32) where
  stored_low : T (possible_of transition c w) → w < stopped_word
  unfolding possible_of
  stored_low h =
      ⊎_elim (λ (z : T (eqb w 0)). omega (arith, eqb→eq w 0 z))
      (λ (o : T (leb (2 ^ 32) w && ltb (w - 2 ^ 32) (2 ^ width c.p))).
      omega (arith, fits, ltb→lt (w - 2 ^ 32) (2 ^ width c.p) (and_right (leb (2 ^ 32) w) (ltb (w - 2 ^ 32) (2 ^ width c.p)) o)))
      (or_cases (eqb w 0) (leb (2 ^ 32) w && ltb (w - 2 ^ 32) (2 ^ width c.p)) h)

  compared-low : c.n < 2 ^ 16 → T (possible_of stability c w) → w < stopped_word
  unfolding possible_of without_reference with_a_reference
  compared-low n h =
      ⊎_elim
      (λ (o : T (eqb w 0 || without_reference c w)).
      ⊎_elim (λ (z : T (eqb w 0)). omega (arith, eqb→eq w 0 z))
      (λ (o' : T (without_reference c w)). omega (arith, n, leb→le w c.n o'))
      (or_cases (eqb w 0) (without_reference c w) o))
      (λ (o : T (with_a_reference c w)).
      let inside = holds w && (ltb 0 (left_in w) && leb (left_in w) (c.n - c.min)) in
      let below = ltb→lt (reference_in w) (2 ^ width c.p) (and_right inside (ltb (reference_in w) (2 ^ width c.p)) o) in
      omega (arith, fits, below))
      (or_cases (eqb w 0 || without_reference c w) (with_a_reference c w) h)

pub going-low : (c : Config) → Good c → (w : ℕ) → T (going_possible c w) → w < stopped_word
unfolding possible_of
going-low c good w h = by (family c.kind) refl
  where
    asked : (k : Family) → family c.kind ≡ k → T (possible_of k c w)
    asked k e = rw (possible-are c w k e) h

    fits : 2 ^ width c.p ≤ 2 ^ 32
    fits = pow_mono (width-le c.p (p-within c good))

    by : (k : Family) → family c.kind ≡ k → w < stopped_word
    by sequence e =
        let top : 2 ^ (c.n - 1) < 2 ^ 63 = pow-lt {i = c.n - 1} {j = 63} (omega (arith, (sequence-config c good e).high)) in omega (arith, possible-lt c w (asked sequence e))
    by time e = omega (arith, leb→le w c.n (asked time e), (time-config c good e).high)
    by transition e = stored_low c w fits (asked transition e)
    by value e = omega (arith, leb→le w c.n (asked value e), (value-config c good e).high)
    by stability e = compared-low c w fits (few c good e) (asked stability e)
    by none e = absurd (not_none c good e)

-- ---- which checkers can fail

-- a step fails from some word that is left
pub fails-next : (c : Config) → Good c → T (can_fail c) → FailsNext c
unfolding can_fail
fails-next c good can = by (family c.kind) refl
  where
    by : (k : Family) → family c.kind ≡ k → FailsNext c
    by sequence e = let s = sequence-config c good e in sequence-fails c s.low s.high e s.p-width (p-within c good)
    by time e = let s = time-config c good e in time-fails c e s.p-width (p-within c good) s.q-width (q-within c good) s.high s.low
    by transition e = transition-fails c e (p-within c good) (r-within c good)
    by value e =
        let s = value-config c good e in value-fails c (q-within c good) s.q-width s.high (p-within c good) e (value_low c good) s.low
    by stability e =
        let s = stability-config c good e in stability-fails c (q-within c good) s.q-width s.high (p-within c good) e
        (let differ = differ-true c.min c.n (is_true (not (eqb c.min c.n)) (rw (eq-eqb c.kind 8 (stability-kind c good e)) at can)) in omega (arith, s.low, differ))
    by none e = absurd (not_none c good e)

-- the others never do
pub never-fails : (c : Config) → Good c → can_fail c ≡ false → (w : ℕ) (f : Frame) → T (going_possible c w) → failing (going_step_row c w f) ≡ false
unfolding can_fail
never-fails c good never w f h =
    let both = of-true (not-false (eqb c.kind 8 && eqb c.min c.n) never) in
    let e = family-stability c.kind (eqb→eq c.kind 8 (and_left (eqb c.kind 8) (eqb c.min c.n) both)) in
    stability-never c w f e (stability-config c good e).high (eqb→eq c.min c.n (and_right (eqb c.kind 8) (eqb c.min c.n) both)) h

-- ---- the frames before a cycle decide the word before it

pub same-before : (c : Config) → Good c → (tr tr' : Trace) (t : ℕ) → ((s : ℕ) → s < t → tr s ≡ tr' s) → going_word_before c tr t ≡ going_word_before c tr' t
unfolding going_word_before
same-before c good tr tr' zero h = refl
same-before c good tr tr' (suc t) h =
    going-word c good tr t ∙ ap₂ (going_step_word c) (same-before c good tr tr' t (λ s l. h s (le_step l))) (h t (le_refl (suc t)))
    ∙ sym (going-word c good tr' t)

-- the frames of tr before cycle t, and f from then on
unfoldable pub followed : Trace → ℕ → Frame → Trace
followed tr t f s = cond (ltb s t) (tr s) f

module _ (tr : Trace) (t : ℕ) (f : Frame) where
  pub followed-before : (s : ℕ) → s < t → followed tr t f s ≡ tr s
  unfolding followed
  followed-before s l = rw (lt-ltb s t l)

  pub followed-at : followed tr t f t ≡ f
  unfolding followed
  followed-at = rw (le-ltb t t (le_refl t))

  pub followed-proper : ((s : ℕ) → Proper (tr s)) → Proper f → (s : ℕ) → Proper (followed tr t f s)
  unfolding followed
  followed-proper h p s = by (ltb s t)
    where
      by : (b : Bool) → Proper (cond b (tr s) f)
      by true = h s
      by false = p
