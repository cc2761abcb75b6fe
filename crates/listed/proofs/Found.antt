-- The starts that the rules give for a cycle are those found from the open word before it, and no check in such a word is older than the trace.
--
-- The rules take an accepted check from s that is pending in t, and then look at the frame of t alone. So it is enough to know what the word before t
-- says of such a check: an attempt is tested when the bit of its age is set (`pending-bit`), a time check is pending when the count gives its start
-- (`pending-count`), and a transition check is from the cycle before, whose value the word has stored (`word-stored`). The rest is the order of the
-- tests: the rules ask for an accepted start and then for reset, and what is found from the word asks for reset first. An illegal start is of kind 5,
-- which is a time kind. Assumes nothing.
use Prim.Native.Nat.{ℕ, zero, suc, ◌+◌, ◌-◌, ◌^◌, ◌<◌}
use mathlib.Core.Path.{◌≡◌, refl, sym, ap, ◌∙◌}
use mathlib.Core.Bool.{Bool, true, false, not, ◌&&◌, ◌||◌, and-true, and-false}
use mathlib.Core.Logic.{⊎_elim}
use native.Mathlib.Nat.{eq-or-lt_of_le, le_of_suc-le-suc, le_refl}
use native.Mathlib.Omega.{arith}
use lib.Dec.{eqb}
use borrow.Author.Tests.{lt-ltb, le-ltb, eq-eqb, ne_eqb, eqb-true, eqb-false}
use Rattle.bits.proofs.Tests.{either}
use Rattle.rules.specs.declared.config.Config.{Config}
use Rattle.rules.specs.Config.{Family, family, Good}
use Rattle.rules.specs.Config.Family.{sequence, time, transition, value, stability, none}
use Rattle.rules.specs.Frame.{Trace, up, enabled, P, R, known_p, known_r}
use Rattle.rules.specs.Checks.{accepted}
use Rattle.rules.specs.Sequence.{event_missed, attempt_finds, sequence_checks}
use Rattle.rules.specs.Time.{test_missed, start_seen, restarts, window_finds, time_checks}
use Rattle.rules.specs.Transition.{stored_check, transition_checks, stored}
use Rattle.rules.specs.Rules.{going_word_before}
use Rattle.rules.specs.Step.{left_in, holds, reference_in, start, pends, restart, tests, compares, tracked_marks, step_marks_of}
use Rattle.rules.proofs.Good.{family-time, stability-config, not_none}
use Rattle.rules.proofs.SequenceRules.{not-at-start, pending-bit, bit-young}
use Rattle.rules.proofs.TimeRules.{pending-count, count-young}
use Rattle.rules.proofs.TransitionRules.{value-fails, word-stored}
use Rattle.rules.proofs.TriggerRules.{value-violated, value-young, stability-violated, stability-young}
use Rattle.listed.specs.Lists.{checks_of, going_failed, going_illegal}
use Rattle.listed.specs.Starts.{triggered_at, failed_of, illegal_of, fails, starts_illegally, Placed}

-- ---- tests: a for accepted, u for out of reset, p for pending

reset-first : (a u p x y : Bool) → (a && (u && p && x && y)) ≡ (u && (a && p && x && y))
reset-first true true p x y = refl
reset-first true false p x y = refl
reset-first false u p x y = sym (and-false u)

-- e for the start that the count gives, x for test 0, k for kind 4, b for start 1
restart-tests : (u e p x k b : Bool) → (u && (e && p && x && not (k && (u && b)))) ≡ (u && (e && (p && x && not (k && b && p))))
restart-tests true true true x k b = ap (λ (z : Bool). x && not z) (sym (and-true (k && b)))
restart-tests true true false x k b = refl
restart-tests true false p x k b = refl
restart-tests false e p x k b = refl

-- k for kind 5
illegal-tests : (u e p k b : Bool) → (k && (u && b) && (e && p)) ≡ (u && (e && (k && b && p)))
illegal-tests true true p k b = refl
illegal-tests true false p k b = and-false (k && b)
illegal-tests false e p k b = ap (λ (z : Bool). z && (e && p)) (and-false k)

-- m for a mark that no cycle in reset has
only-running : (u a m : Bool) → (u ≡ false → m ≡ false) → (a && m) ≡ (u && (a && m))
only-running true a m h = refl
only-running false a m h = ap (λ (b : Bool). a && b) (h refl) ∙ and-false a

-- kind 5 is a time kind
not_five : (c : Config) → (family c.kind ≡ time → ⊥) → eqb c.kind 5 ≡ false
not_five c h = ne_eqb c.kind 5 (λ e. h (family-time c.kind (omega arith) (omega arith)))

module _ (c : Config) (tr : Trace) where
  -- the check from s fails in t by the rules of a family where it is found to, and so for an illegal start
  abbrev Failing : Family → ℕ → ℕ → Type 0
  Failing k t s =
      (accepted (checks_of k c tr) s && (checks_of k c tr).violated s t) ≡ (up (tr t) && failed_of c (going_word_before c tr t) (tr t) t k s)

  abbrev Illegal : Family → ℕ → ℕ → Type 0
  Illegal k t s =
      (eqb c.kind 5 && (checks_of k c tr).starts t && (accepted (checks_of k c tr) s && (checks_of k c tr).pending s t))
      ≡ (up (tr t) && illegal_of c (going_word_before c tr t) (tr t) t k s)

  earlier-failed : family c.kind ≡ sequence → (t s : ℕ) → s < t → Failing sequence t s
  unfolding checks_of sequence_checks attempt_finds failed_of
  earlier-failed f t s l =
      reset-first (accepted (sequence_checks c tr) s) (up (tr t)) ((sequence_checks c tr).pending s t) (event_missed c (tr t) (c.n - 1 - (t - s)))
      (not (eqb c.kind 0) || eqb (t - s) (c.n - 1))
      ∙ rw (pending-bit c tr f t s l, lt-ltb s t l)

  sequence-failed : family c.kind ≡ sequence → (t s : ℕ) → s < suc t → Failing sequence t s
  unfolding checks_of failed_of
  sequence-failed f t s l =
      ⊎_elim (λ (e : s ≡ t). rw e (not-at-start c tr t ∙ rw (le-ltb t t (le_refl t)) (sym (and-false (up (tr t)))))) (earlier-failed f t s)
      (eq-or-lt_of_le (le_of_suc-le-suc l))

  module _ (f : family c.kind ≡ time) (t s : ℕ) where
    time-failed : Failing time t s
    unfolding checks_of time_checks start_seen restarts window_finds failed_of step_marks_of start pends restart
    time-failed =
        let w = going_word_before c tr t in
        let test = test_missed c (tr t) in
        reset-first (accepted (time_checks c tr) s) (up (tr t)) ((time_checks c tr).pending s t) test (not (restarts c tr t))
        ∙ rw (pending-count c tr f t s)
        (restart-tests (up (tr t)) (eqb (suc (s + c.n)) (w + t)) (pends c w (tr t)) test (eqb c.kind 4) (start c w (tr t)))

    time-illegal : Illegal time t s
    unfolding checks_of time_checks start_seen illegal_of step_marks_of start pends
    time-illegal =
        let w = going_word_before c tr t in
        rw (pending-count c tr f t s)
        (illegal-tests (up (tr t)) (eqb (suc (s + c.n)) (w + t)) (pends c w (tr t)) (eqb c.kind 5) (start c w (tr t)))

  -- a transition check in the next cycle, and in any
  next-failed : family c.kind ≡ transition → (s : ℕ) → Failing transition (suc s) s
  unfolding checks_of transition_checks stored_check failed_of step_marks_of pends going_word_before stored
  next-failed f s =
      let differs = known_p c (tr (suc s)) && not (eqb (P c (tr (suc s))) (R c (tr s))) in
      let here = reset-first (accepted (transition_checks c tr) s) (up (tr (suc s))) (known_r c (tr s)) differs true in
      rw (eq-eqb (suc s) (suc s) refl, word-stored c tr f s, ← value-fails) (simp and-true at here)

  transition-failed : family c.kind ≡ transition → (t s : ℕ) → Failing transition t s
  unfolding checks_of transition_checks stored_check failed_of
  transition-failed f t s =
      ⊎_elim (λ (e : eqb (suc s) t ≡ true). rw (← eqb-true (suc s) t e) (next-failed f s))
      (λ (e : eqb (suc s) t ≡ false). rw (ne_eqb t (suc s) (λ q. eqb-false (suc s) t e (sym q)), e) (simp and-false)) (either (eqb (suc s) t))

  -- no check after a trigger fails in reset
  quiet : (t before : ℕ) (wrong : Bool) → up (tr t) ≡ false → (tracked_marks c (going_word_before c tr t) (tr t) before wrong).failure ≡ false
  unfolding tracked_marks compares tests enabled
  quiet t before wrong u = rw u refl

  value-failed : family c.kind ≡ value → (t s : ℕ) → Failing value t s
  unfolding checks_of failed_of triggered_at step_marks_of
  value-failed f t s =
      let w = going_word_before c tr t in
      let wrong = not (eqb (P c (tr t)) c.value) in
      value-violated c tr f t s ∙ only-running (up (tr t)) (triggered_at c w (tr t) t w s) (tracked_marks c w (tr t) w wrong).failure (quiet t w wrong)

  stability-failed : c.n < 2 ^ 16 → family c.kind ≡ stability → (t s : ℕ) → Failing stability t s
  unfolding checks_of failed_of triggered_at step_marks_of
  stability-failed h f t s =
      let w = going_word_before c tr t in
      let wrong = holds w && not (eqb (P c (tr t)) (reference_in w)) in
      stability-violated c tr f h t s
      ∙ only-running (up (tr t)) (triggered_at c w (tr t) t (left_in w) s) (tracked_marks c w (tr t) (left_in w) wrong).failure (quiet t (left_in w) wrong)

-- ---- all kinds

pub failed-starts : (c : Config) → Good c → (tr : Trace) (t s : ℕ) → s < suc t → going_failed c tr t s ≡ fails c (going_word_before c tr t) (tr t) t s
unfolding going_failed fails
failed-starts c good tr t s l = by (family c.kind) refl
  where
    by : (k : Family) → family c.kind ≡ k → Failing c tr k t s
    by sequence f = sequence-failed c tr f t s l
    by time f = time-failed c tr f t s
    by transition f = transition-failed c tr f t s
    by value f = value-failed c tr f t s
    by stability f = stability-failed c tr (omega (arith, (stability-config c good f).high)) f t s
    by none f = absurd (not_none c good f)

pub illegal-starts : (c : Config) → Good c → (tr : Trace) (t s : ℕ) → s < suc t
    → going_illegal c tr t s ≡ starts_illegally c (going_word_before c tr t) (tr t) t s
unfolding going_illegal starts_illegally illegal_of
illegal-starts c good tr t s l = by (family c.kind) refl
  where
    by : (k : Family) → family c.kind ≡ k → Illegal c tr k t s
    by sequence f = rw (not_five c (λ e. let z : ◌≡◌ {A = ℕ} 0 1 = cc in omega arith)) (sym (and-false (up (tr t))))
    by time f = time-illegal c tr f t s
    by transition f = rw (not_five c (λ e. let z : ◌≡◌ {A = ℕ} 0 1 = cc in omega arith)) (sym (and-false (up (tr t))))
    by value f = rw (not_five c (λ e. let z : ◌≡◌ {A = ℕ} 0 1 = cc in omega arith)) (sym (and-false (up (tr t))))
    by stability f = rw (not_five c (λ e. let z : ◌≡◌ {A = ℕ} 0 1 = cc in omega arith)) (sym (and-false (up (tr t))))
    by none f = absurd (not_none c good f)

pub before-placed : (c : Config) → Good c → (tr : Trace) (t : ℕ) → Placed c (going_word_before c tr t) t
unfolding going_word_before
before-placed c good tr t = record {
  attempts = λ f. bit-young c tr f t;
  window = λ f. count-young c tr f t;
  stored = λ f. later t;
  tracked = λ f. value-young c tr f t;
  compared = λ f. stability-young c tr f (omega (arith, (stability-config c good f).high)) t;
}
  where
    later : (u : ℕ) → 0 < going_word_before c tr u → 0 < u
    later zero l = l
    later (suc u) l = omega arith
