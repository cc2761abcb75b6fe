-- Kinds 3 to 5: the words that traces leave are those up to n. The count of the cycles left is at most n, so no trace leaves more. With a start in
-- cycle 0 only, no reset, and the test 1 in every cycle, the word after cycle t is n − t and nothing fails, so each word up to n is left. Assumes nothing.
use Prim.Native.Nat.{ℕ, zero, suc, ◌-◌, ◌≤◌}
use mathlib.Core.Path.{◌≡◌, refl, ap, ◌∙◌}
use mathlib.Core.Bool.{true, false, ◌&&◌, and-false}
use native.Mathlib.Omega.{arith}
use lib.Dec.{T, eqb, leb→le, le→leb, lit<, eqb-suc-zero}
use Rattle.bits.specs.Bits.{bit, to_bit}
use Rattle.bus.specs.Range.{width, within}
use Rattle.bits.proofs.Bits.{to_bit-lt, eqb-to_bit}
use Rattle.bus.proofs.Wires.{wires_for, wires-small, value-wires, value-zero}
use Rattle.rules.specs.declared.config.Config.{Config}
use Rattle.rules.specs.Config.{family, max_window}
use Rattle.rules.specs.Config.Family.{time}
use Rattle.rules.specs.Frame.{Trace, up, Q, known_q}
use Rattle.rules.specs.Time.{test_missed}
use Rattle.rules.specs.Rules.{Marks, going_word, going_word_before, failing, going_row}
use Rattle.rules.specs.Step.{start, pends, restart, left, step_marks_of, step_open_of}
use Rattle.rules.specs.Possible.{possible_of, LeftPassing}
use Rattle.rules.proofs.Frames.{frame_of, frame-proper, known-value, FailsNext}
use Rattle.rules.proofs.Rows.{row-passes, step-fails}
use Rattle.rules.proofs.TimeRules.{count_low, time-open, time-marks}

module _ (c : Config) (tr : Trace) (k : family c.kind ≡ time) where
  word-left : (t : ℕ) → up (tr t) ≡ true → going_word c tr t ≡ left c (going_word_before c tr t) (tr t)
  unfolding going_word step_open_of
  word-left t u = rw (u, k) (time-open c tr k t u)

  pub time-possible : (t : ℕ) → T (possible_of time c (going_word c tr t))
  unfolding possible_of going_word_before
  time-possible t = le→leb (going_word c tr t) c.n (count_low c tr k (suc t))

-- a start in cycle 0 only, and the test 1
once : Config → Trace
once c t = frame_of 1 (wires_for c.p (to_bit (eqb t 0))) (wires_for c.q 1) 0

module _ (c : Config) (k : family c.kind ≡ time) (v : width c.p ≡ 1) (g : T (within c.p)) where
  starts : (w t : ℕ) → start c w (once c t) ≡ eqb t 0
  unfolding start once
  starts w t =
      ap (λ (x : ℕ). eqb x 1)
      (known-value c.p (wires_for c.p (to_bit (eqb t 0))) (to_bit (eqb t 0)) (value-wires c.p (to_bit (eqb t 0)) g (rw v (to_bit-lt (eqb t 0)))))
      ∙ eqb-to_bit (eqb t 0)

  counted : (t : ℕ) → going_word c (once c) t ≡ c.n - t
  unfolding up bit once going_word_before left pends
  counted zero = word-left c (once c) k 0 refl ∙ rw (starts 0 0) (omega arith)
  counted (suc t) = word-left c (once c) k (suc t) refl ∙ rw (starts (going_word c (once c) t) (suc t), eqb-suc-zero t, counted t) (omega arith)

  module _ (v' : width c.q ≡ 1) (g' : T (within c.q)) (high : c.n ≤ max_window) where
    tested : (t : ℕ) → Q c (once c t) ≡ 1
    unfolding once
    tested t = known-value c.q (wires_for c.q 1) 1 (value-wires c.q 1 g' (rw v' (lit< tt)))

    -- the start of cycle 0 is in no window
    legal : (t : ℕ) → (step_marks_of c (going_word_before c (once c) t) (once c t) time).illegal ≡ false
    unfolding step_marks_of going_word_before pends
    legal zero = and-false (eqb c.kind 5 && start c 0 (once c 0))
    legal (suc t) = rw (starts (going_word c (once c) t) (suc t), eqb-suc-zero t, and-false) refl

    passing : (t : ℕ) → failing (going_row c (once c) t) ≡ false
    unfolding step_marks_of test_missed up bit once
    passing t =
        let marks = time-marks c (once c) k t refl in
        row-passes c (once c) t time k (ap (λ (m : Marks). m.failure) marks ∙ rw (tested t, and-false (known_q c (once c t)), and-false) refl) (ap (λ (m : Marks). m.illegal) marks ∙ legal t)

    pub time-left : (w : ℕ) → T (possible_of time c w) → LeftPassing c w
    unfolding possible_of once
    time-left w h = record {
      trace = once c;
      cycle = c.n - w;
      short = omega arith;
      early = λ l. omega arith;
      proper = λ t.
          frame-proper 1 (wires_for c.p (to_bit (eqb t 0))) (wires_for c.q 1) 0 (lit< tt) (wires-small c.p (to_bit (eqb t 0))) (wires-small c.q 1)
          (lit< tt);
      leaves = counted (c.n - w) ∙ omega (arith, leb→le w c.n h);
      passes = λ t l. passing t;
    }

    -- the last cycle of a window is tested, without a new start
    pub time-fails : 1 ≤ c.n → FailsNext c
    unfolding possible_of step_marks_of test_missed pends restart start up bit
    time-fails low = record {
      word = 1;
      left = time-left 1 (le→leb 1 c.n low);
      room = (time-left 1 (le→leb 1 c.n low)).early (lit< tt);
      frame = frame_of 1 0 0 0;
      proper = frame-proper 1 0 0 0 (lit< tt) (lit< tt) (lit< tt) (lit< tt);
      fails = step-fails c 1 (frame_of 1 0 0 0) time k refl (rw (value-zero c.p, value-zero c.q, and-false) refl);
    }
