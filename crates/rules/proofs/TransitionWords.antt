-- Kind 6: the words that traces leave are 0 and 2^32 plus a value that fits the width. What is stored is the value of R, which has that width. A
-- cycle in reset leaves 0, and a cycle where test and start state are both 0 leaves 2^32 plus whatever value R has; in cycle 0 nothing fails. Assumes nothing.
use Prim.Native.Nat.{ℕ, ◌+◌, ◌-◌, ◌^◌, ◌<◌}
use mathlib.Core.Path.{◌≡◌, refl, ap, subst, subst⁻¹, ◌∙◌}
use mathlib.Core.Bool.{Bool, true, false, ◌&&◌, cond}
use mathlib.Core.Logic.{⊎_elim}
use native.Mathlib.Omega.{arith}
use lib.Dec.{T, leb, ltb, eqb, leb→le, le→leb, lt→ltb, ltb→lt, eqb→eq, lit<}
use lib.Pow.{pow_pos}
use Rattle.bits.specs.Bits.{bit}
use Rattle.bus.specs.Range.{width, within}
use Rattle.bits.proofs.Tests.{and_intro, and_left, and_right, or_right, or_cases}
use Rattle.bus.proofs.Wires.{wires_for, wires-small, value-wires, value-lt, value-zero, one-fits}
use Rattle.rules.specs.declared.config.Config.{Config}
use Rattle.rules.specs.Config.{family}
use Rattle.rules.specs.Config.Family.{transition}
use Rattle.rules.specs.Frame.{Trace, sample, up, R, known_r}
use Rattle.rules.specs.Checks.{accepted}
use Rattle.rules.specs.Transition.{in_start_state, transition_checks, stored}
use Rattle.rules.specs.Rules.{Marks, going_word, going_word_before}
use Rattle.rules.specs.Step.{pends, step_marks_of, step_open_of}
use Rattle.rules.specs.Possible.{possible_of, LeftPassing}
use Rattle.rules.proofs.Frames.{frame_of, frame-proper, known-value, zero_left, FailsNext}
use Rattle.rules.proofs.Rows.{row-passes, step-fails}
use Rattle.rules.proofs.TransitionRules.{word-stored, transition-open, transition-marks}

-- whether the word w holds a value that fits the width of P
abbrev value : Config → ℕ → Bool
value c w = leb (2 ^ 32) w && ltb (w - 2 ^ 32) (2 ^ width c.p)

pub transition-possible : (c : Config) (tr : Trace) → family c.kind ≡ transition → width c.r ≡ width c.p → (t : ℕ) →
    T (possible_of transition c (going_word c tr t))
unfolding stored possible_of
transition-possible c tr k e t = rw (word-stored c tr k t) (fits (accepted (transition_checks c tr) t && known_r c (tr t)))
  where
    fits : (a : Bool) → T (possible_of transition c (cond a (2 ^ 32 + R c (tr t)) 0))
    fits true =
        let w = 2 ^ 32 + R c (tr t) in
        or_right (eqb w 0) (value c w)
        (and_intro (leb (2 ^ 32) w) (ltb (w - 2 ^ 32) (2 ^ width c.p)) (le→leb (2 ^ 32) w (omega arith))
        (lt→ltb (w - 2 ^ 32) (2 ^ width c.p) (omega (arith, rw e at (value-lt c.r (sample (tr t) 3))))))
    fits false = tt

held : Config → ℕ → Trace
held c v t = frame_of 1 0 0 (wires_for c.r v)

value-left : (c : Config) → family c.kind ≡ transition → T (within c.r) → (v : ℕ) → v < 2 ^ width c.r → LeftPassing c (2 ^ 32 + v)
unfolding going_word going_word_before up bit step_marks_of step_open_of in_start_state pends held
value-left c k g v l = record {
  trace = held c v;
  cycle = 0;
  short = lit< tt;
  early = λ z. lit< tt;
  proper = λ t. frame-proper 1 0 0 (wires_for c.r v) (lit< tt) (lit< tt) (lit< tt) (wires-small c.r v);
  leaves = rw k (transition-open c (held c v) k 0 refl ∙ rw (value-zero c.p, value-zero c.q, value-zero c.r, known-value c.r (wires_for c.r v) v (value-wires c.r v g l)) refl);
  passes = λ t z.
      let first : t ≡ 0 = omega arith in
      let marks = transition-marks c (held c v) k 0 refl in
      rw first (row-passes c (held c v) 0 transition k (ap (λ (m : Marks). m.failure) marks) (ap (λ (m : Marks). m.illegal) marks));
}

pub transition-left : (c : Config) → family c.kind ≡ transition → width c.r ≡ width c.p → T (within c.r) → (w : ℕ) →
    T (possible_of transition c w) → LeftPassing c w
unfolding possible_of
transition-left c k e g w h =
    ⊎_elim (λ (o : T (eqb w 0)). subst⁻¹ (LeftPassing c) (eqb→eq w 0 o) (zero_left c))
    (λ (o : T (value c w)).
    let a = leb→le (2 ^ 32) w (and_left (leb (2 ^ 32) w) (ltb (w - 2 ^ 32) (2 ^ width c.p)) o) in
    let l = ltb→lt (w - 2 ^ 32) (2 ^ width c.p) (and_right (leb (2 ^ 32) w) (ltb (w - 2 ^ 32) (2 ^ width c.p)) o) in
    let q : 2 ^ 32 + (w - 2 ^ 32) ≡ w = omega arith in
    subst (LeftPassing c) q (value-left c k g (w - 2 ^ 32) (rw e l)))
    (or_cases (eqb w 0) (value c w) h)

-- the stored value is 0, and the test 1
pub transition-fails : (c : Config) → family c.kind ≡ transition → T (within c.p) → T (within c.r) → FailsNext c
unfolding step_marks_of pends up bit
transition-fails c k gp gr = record {
  word = 2 ^ 32 + 0;
  left = value-left c k gr 0 (pow_pos (width c.r));
  room = (value-left c k gr 0 (pow_pos (width c.r))).early (lit< tt);
  frame = frame_of 1 (wires_for c.p 1) 0 0;
  proper = frame-proper 1 (wires_for c.p 1) 0 0 (lit< tt) (wires-small c.p 1) (lit< tt) (lit< tt);
  fails = step-fails c (2 ^ 32 + 0) (frame_of 1 (wires_for c.p 1) 0 0) transition k refl
      (rw (value-zero c.p, known-value c.p (wires_for c.p 1) 1 (value-wires c.p 1 gp (one-fits c.p))) refl);
}
