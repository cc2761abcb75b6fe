-- Kinds 3 to 5: the rules give the marks and the open word that one step gives. The word before cycle t is the count of the cycles left (`Windows`), and each
-- mark is read off it. An accepted start ends a check that was pending, as a restart. Assumes nothing.
use Prim.Native.Nat.{ℕ, zero, suc, ◌+◌, ◌-◌, ◌<◌, ◌≤◌}
use mathlib.Core.Path.{◌≡◌, refl, sym, ap, ◌∙◌}
use mathlib.Core.Bool.{Bool, true, false, not, ◌&&◌, ◌||◌, cond, and-true, and-false, and_comm, and_assoc}
use native.Mathlib.Nat.{le_refl}
use native.Mathlib.Omega.{arith}
use lib.Dec.{T, ltb, eqb, lt→ltb, eqb→eq}
use borrow.Author.Tests.{le-ltb, eq-eqb}
use Rattle.bits.specs.Bits.{some}
use Rattle.bits.proofs.Tests.{is_true, of-true, iff-eq}
use Rattle.rules.specs.declared.config.Config.{Config}
use Rattle.rules.specs.Config.{family}
use Rattle.rules.specs.Config.Family.{time}
use Rattle.rules.specs.declared.frame.Frame.{Frame}
use Rattle.rules.specs.Frame.{Trace, up, P}
use Rattle.rules.specs.Checks.{Checks, accepted, busy, fails, doubts}
use Rattle.rules.specs.Time.{test_missed, test_unknown, window_pending, start_seen, restarts, window_finds, time_checks, window_opened, window_reset, illegal_start, window_closed, cycles_left}
use Rattle.rules.specs.Rules.{marks_of, open_of, going_word, going_word_before}
use Rattle.rules.specs.Step.{start, pends, restart, left, step_marks_of, step_open_of}
use Rattle.rules.proofs.Accepted.{accepted-law, fails-earlier, doubts-earlier}
use Rattle.rules.proofs.Windows.{Windowed, in-reset, some-and, some-under, live, count, live-count, busy-count, live-is, young, low, count-read}

-- ---- tests

-- a start is not ignored where nothing is pending or it is a restart
heard : (k b : Bool) → not (not k && b) ≡ (not b || k)
heard true true = refl
heard true false = refl
heard false true = refl
heard false false = refl

-- such a start, where k is kind 4: one with nothing pending, or a restart
opens : (s b k : Bool) → ((s && not b) || (k && s && b)) ≡ (s && (not b || k))
opens true true true = refl
opens true true false = refl
opens true false k = refl
opens false b true = refl
opens false b false = refl

regroup : (a p x y : Bool) → (a && ((p && x) && y)) ≡ ((a && p) && (x && y))
regroup true p x y = and_assoc p x y
regroup false p x y = refl

-- the marks of failure and closed: p for a pending check, x for test 0, e for the last cycle, y for start 1 in kind 4
failure-tests : (p x y : Bool) → (p && (x && not y)) ≡ ((p && x) && not (y && p))
failure-tests true x y = ap (λ (b : Bool). x && not b) (sym (and-true y))
failure-tests false x y = refl

closed-tests : (p e y : Bool) → (T e → T p) → (not y && (p && e)) ≡ (e && not (y && p))
closed-tests true e y h = and_comm (not y) e ∙ ap (λ (b : Bool). e && not b) (sym (and-true y))
closed-tests false true y h = absurd (h tt)
closed-tests false false y h = and-false (not y)

module _ (c : Config) (tr : Trace) where
  abbrev checks : Checks
  checks = time_checks c tr

  start-accepted : (t : ℕ) → accepted checks t ≡ (start_seen c tr t && (not (busy checks t) || eqb c.kind 4))
  unfolding time_checks window_pending
  start-accepted t = accepted-law checks t ∙ ap (λ (b : Bool). start_seen c tr t && b) (heard (eqb c.kind 4) (busy checks t))

  -- a window is opened exactly where a check is initiated: where its start is accepted
  pub opened-accepted : (t : ℕ) → window_opened c tr t ≡ accepted checks t
  unfolding window_opened window_reset restarts
  opened-accepted t = opens (start_seen c tr t) (busy checks t) (eqb c.kind 4) ∙ sym (start-accepted t)

  -- while a check is pending the accepted starts are the restarts
  while-busy : (t : ℕ) → T (busy checks t) → accepted checks t ≡ restarts c tr t
  unfolding restarts
  while-busy t b = start-accepted t ∙ rw (is_true (busy checks t) b) (and_comm (start_seen c tr t) (eqb c.kind 4))

  windowed : Windowed checks tr c.n
  unfolding time_checks window_pending start_seen
  windowed = record {
    on = λ u. up (tr u) && not (restarts c tr u);
    pending-is = λ s t. refl;
    going_on = λ t b. ap (λ (x : Bool). up (tr t) && not x) (sym (while-busy t b));
    none-in-reset = λ t u. start-accepted t ∙ rw u refl;
  }

  -- an accepted check from s is pending in cycle t
  abbrev alive : ℕ → ℕ → Bool
  alive = live checks tr c.n windowed

  abbrev left-before : ℕ → ℕ
  left-before = count checks tr c.n windowed

  -- ---- the marks of a cycle, from the cycles left

  busy-pends : (t : ℕ) → busy checks t ≡ ltb 0 (left-before t)
  busy-pends = busy-count checks tr c.n windowed

  -- a check is not tested where it starts
  untested : (found : Frame → Bool) (t : ℕ) → (accepted checks t && window_finds c tr found t t) ≡ false
  unfolding window_finds window_pending
  untested found t = simp (le-ltb t t (le_refl t), and-false)

  -- the test of an earlier check is found to be so
  on-earlier : (found : Frame → Bool) (t : ℕ) → up (tr t) ≡ true → some t (λ s. accepted checks s && window_finds c tr found s t)
      ≡ (ltb 0 (left-before t) && found (tr t) && not (restart c (left-before t) (tr t)))
  unfolding busy time_checks window_finds restarts start_seen restart start pends window_pending
  on-earlier found t u =
      let x = found (tr t) in
      let y = eqb c.kind 4 && start c (left-before t) (tr t) in
      some-and t (alive t) (λ s. accepted checks s && window_finds c tr found s t) (x && not y)
      (λ s. rw u (regroup (accepted checks s) (checks.pending s t) x (not y)))
      ∙ rw (busy-pends t) (failure-tests (ltb 0 (left-before t)) x y)

  failure-law : (t : ℕ) → up (tr t) ≡ true → fails checks t ≡ (ltb 0 (left-before t) && test_missed c (tr t) && not (restart c (left-before t) (tr t)))
  unfolding time_checks window_pending
  failure-law t u = fails-earlier checks t (untested (test_missed c) t) ∙ on-earlier (test_missed c) t u

  doubt-law : (t : ℕ) → up (tr t) ≡ true → doubts checks t ≡ (ltb 0 (left-before t) && test_unknown c (tr t) && not (restart c (left-before t) (tr t)))
  unfolding time_checks window_pending
  doubt-law t u = doubts-earlier checks t (untested (test_unknown c) t) ∙ on-earlier (test_unknown c) t u

  closed-law : (t : ℕ) → up (tr t) ≡ true → window_closed c tr t ≡ (eqb (left-before t) 1 && not (restart c (left-before t) (tr t)))
  unfolding busy window_closed restarts start_seen restart start pends
  closed-law t u =
      let w = left-before t in
      rw (u, one_left, busy-pends t)
      (closed-tests (ltb 0 w) (eqb w 1) (eqb c.kind 4 && start c w (tr t)) (λ o. lt→ltb 0 w (omega (arith, eqb→eq w 1 o))))
    where
      last : (s : ℕ) → T (alive t s) → eqb t (s + c.n) ≡ eqb (left-before t) 1
      last s p =
          let w = left-before t in
          let r = live-count checks tr c.n windowed t s p in
          iff-eq (eqb t (s + c.n)) (eqb w 1) (λ o. of-true (eq-eqb w 1 (omega (arith, eqb→eq t (s + c.n) o))))
          (λ o. of-true (eq-eqb t (s + c.n) (omega (arith, eqb→eq w 1 o))))

      one_left : some t (λ s. alive t s && eqb t (s + c.n)) ≡ (busy checks t && eqb (left-before t) 1)
      one_left = some-under t (alive t) (λ s. eqb t (s + c.n)) (eqb (left-before t) 1) last

  -- ---- the word

  module _ (k : family c.kind ≡ time) where
    left-read : (t : ℕ) → cycles_left c tr t ≡ left-before (suc t)
    unfolding cycles_left
    left-read = count-read checks tr c.n windowed

    word-left : (t : ℕ) → going_word_before c tr t ≡ left-before t
    unfolding going_word_before going_word open_of count
    word-left zero = refl
    word-left (suc t) = rw (k, left-read t) (in-reset (up (tr t)) (cond (accepted checks t) c.n (left-before t - 1)))

    -- the accepted check that is pending in t is the one whose start the word gives, and no word is older than the trace
    pub pending-count : (t s : ℕ) → (accepted checks s && checks.pending s t) ≡ (eqb (suc (s + c.n)) (going_word_before c tr t + t) && ltb 0 (going_word_before c tr t))
    pending-count t s = rw (word-left t) (live-is checks tr c.n windowed t s)

    pub count-young : (t : ℕ) → 0 < going_word_before c tr t → c.n < going_word_before c tr t + t
    count-young t = rw (word-left t) (young checks tr c.n windowed t)

    pub count_low : (t : ℕ) → going_word_before c tr t ≤ c.n
    count_low t = rw (word-left t) (low checks tr c.n windowed t)

    pub time-open : (t : ℕ) → up (tr t) ≡ true → open_of time c tr t ≡ step_open_of c (going_word_before c tr t) (tr t) time
    unfolding open_of step_open_of count left start pends start_seen
    time-open t u = left-read t ∙ rw (word-left t, u, start-accepted t, u, busy-pends t) refl

    pub time-marks : (t : ℕ) → up (tr t) ≡ true → marks_of time c tr t ≡ step_marks_of c (going_word_before c tr t) (tr t) time
    unfolding marks_of step_marks_of start_seen start pends restart restarts illegal_start window_opened window_reset
    time-marks t u = rw (word-left t) λ i. record {
      failure = failure-law t u i;
      illegal = eqb c.kind 5 && seen i && pending i;
      opened = (seen i && not (pending i)) || again i;
      closed = closed-law t u i;
      restarted = again i;
      unknown = doubt-law t u i;
    }
      where
        seen : start_seen c tr t ≡ start c (left-before t) (tr t)
        seen = ap (λ (b : Bool). b && eqb (P c (tr t)) 1) u

        pending : busy checks t ≡ pends c (left-before t) (tr t)
        pending = busy-pends t

        again : window_reset c tr t ≡ restart c (left-before t) (tr t)
        again i = eqb c.kind 4 && seen i && pending i
