-- Kinds 7 and 8: the rules give the marks and the open word that one step gives. Assumes nothing.
use Prim.Native.Nat.{ℕ, zero, suc, ◌+◌, ◌-◌, ◌^◌, ◌<◌, ◌≤◌}
use mathlib.Core.Path.{◌≡◌, refl, sym, ap, subst, subst⁻¹, ◌∙◌}
use mathlib.Core.Bool.{Bool, true, false, not, ◌&&◌, ◌||◌, cond, and-true, and-false, and_assoc}
use mathlib.Core.Logic.{◌⊎◌, inl, inr, ⊎_elim}
use native.Mathlib.Nat.{le_refl, not-suc-le-zero, eq-zero-or-pos}
use native.Mathlib.Omega.{arith}
use lib.Dec.{T, leb, ltb, eqb, leb→le, le→leb, lt→ltb, eqb→eq}
use borrow.Author.Tests.{lt-ltb, le-ltb, ltb-false, le-leb, lt-leb, eq-eqb, ne_eqb, eqb-false}
use Rattle.bits.specs.Bits.{some}
use Rattle.bits.proofs.Tests.{is_true, of-true, of-false, iff-eq, and_left, and_right, or_left, or_right, or_cases, some-elim, either, some-ext, some-none, some-intro, and_intro}
use Rattle.rules.specs.declared.config.Config.{Config}
use Rattle.rules.specs.Config.{family}
use Rattle.rules.specs.Config.Family.{value, stability}
use Rattle.rules.specs.Frame.{Trace, up, enabled, P, known_p}
use Rattle.rules.specs.Checks.{Checks, accepted, busy, fails, doubts}
use Rattle.rules.specs.Window.{at_first}
use Rattle.rules.specs.Trigger.{with_reference, trigger_seen, trigger_pending, in_window, tested, compared, trigger_checks, value_checks, has_reference, reference, stability_checks, window_ends, left_with, value_left, stability_left}
use Rattle.rules.specs.Rules.{window_marks, marks_of, open_of, going_word, going_word_before}
use Rattle.rules.specs.Step.{left_in, holds, reference_in, pends, triggered, opens, after, tests, compares, tracked_marks, held, step_marks_of, step_open_of}
use Rattle.rules.proofs.Accepted.{accepted-law}
use Rattle.rules.proofs.Windows.{Windowed, in-reset, under, some-and, some-under, live, count, live-range, live-count, live-before, live-is, young, busy-count, read}

-- ---- tests: a for accepted, e for enabled, i for a cycle in the window, m for one from s+min on, x for what is found there, o for an open window

regroup : (a e i m x : Bool) → (a && (e && i && m && x)) ≡ (a && i && (e && m && x))
regroup true true i m x = and_assoc i m x
regroup true false i m x = sym (and-false i)
regroup false e i m x = refl

enabled-first : (o e m x : Bool) → (o && (e && m && x)) ≡ (e && o && m && x)
enabled-first true true m x = refl
enabled-first true false m x = refl
enabled-first false true m x = refl
enabled-first false false m x = refl

-- ---- the checks of triggers, whatever they require

module _ (c : Config) (tr : Trace) (wrong : ℕ → ℕ → Bool) where
  abbrev pub checks : Checks
  checks = trigger_checks c tr wrong

  pub trigger-accepted : (t : ℕ) → accepted checks t ≡ (trigger_seen c tr t && not (busy checks t))
  unfolding trigger_checks
  trigger-accepted = accepted-law checks

  pub windowed : Windowed checks tr c.n
  unfolding trigger_checks trigger_pending trigger_seen enabled
  windowed = record {
    on = λ u. up (tr u);
    pending-is = λ s t. refl;
    going_on = λ t b. rw (trigger-accepted t, is_true (busy checks t) b, and-false) (sym (and-true (up (tr t))));
    none-in-reset = λ t u. trigger-accepted t ∙ rw u refl;
  }

  abbrev pub alive : ℕ → ℕ → Bool
  alive = live checks tr c.n windowed

  -- the number of cycles left before t, t included
  abbrev pub left-before : ℕ → ℕ
  left-before = count checks tr c.n windowed

  pub busy-left : (t : ℕ) → busy checks t ≡ ltb 0 (left-before t)
  busy-left = busy-count checks tr c.n windowed

  accepted-none : (t : ℕ) → T (accepted checks t) → left-before t ≡ 0
  accepted-none t a =
      ⊎_elim (λ (e : ltb 0 (left-before t) ≡ true). absurd (rw (trigger-accepted t, busy-left t, e, and-false) at a))
      (λ (e : ltb 0 (left-before t) ≡ false). omega (arith, ltb-false 0 (left-before t) e)) (either (ltb 0 (left-before t)))

  -- ---- the window that cycle t is in

  -- the trigger at s was accepted, and t is in its window
  abbrev pub current : ℕ → ℕ → Bool
  current t s = accepted checks s && in_window c tr s t

  -- so many cycles are left after t
  left_after : ℕ → ℕ
  left_after t = cond (accepted checks t) c.n (left-before t - 1)

  left-next : (t : ℕ) → up (tr t) ≡ true → left-before (suc t) ≡ left_after t
  unfolding left_after count
  left-next t u = rw u refl

  current-earlier : (t s : ℕ) → s < t → current t s ≡ alive t s
  unfolding in_window trigger_checks
  current-earlier t s l = rw (ne_eqb s t (omega arith)) refl

  some-current : (t : ℕ) → some (suc t) (current t) ≡ (ltb 0 (left-before t) || accepted checks t)
  unfolding some in_window busy
  some-current t =
      rw (some-ext t (current t) (alive t) (λ s l. current-earlier t s l), eq-eqb t t refl, and-true, ← busy-left t) refl

  -- a check that is current in t was accepted in t, or is pending
  current-cases : (t s : ℕ) → T (current t s) → ((s ≡ t) × T (accepted checks t)) ⊎ T (alive t s)
  unfolding in_window trigger_checks
  current-cases t s h =
      let a = and_left (accepted checks s) (in_window c tr s t) h in
      ⊎_elim (λ (o : T (eqb s t)). let e = eqb→eq s t o in inl (e, subst (λ (i : ℕ). T (accepted checks i)) e a))
      (λ (p : T (trigger_pending c tr s t)). inr (and_intro (accepted checks s) (checks.pending s t) a p))
      (or_cases (eqb s t) (trigger_pending c tr s t) (and_right (accepted checks s) (in_window c tr s t) h))

  after-current : (t s : ℕ) → T (current t s) → s + c.n ≡ left_after t + t
  unfolding left_after busy
  after-current t s h =
      ⊎_elim (λ (q : (s ≡ t) × T (accepted checks t)). rw (is_true (accepted checks t) q.1) (omega (arith, q.0)))
      (λ (a : T (alive t s)).
      let r = live-range checks tr c.n windowed t s a in
      let b : busy checks t ≡ true = is_true (busy checks t) (some-intro t (alive t) s r.0 a) in
      rw (trigger-accepted t, b, and-false) (omega (arith, live-count checks tr c.n windowed t s a)))
      (current-cases t s h)

  open-current : (t s : ℕ) → T (current t s) → (ltb 0 (left-before t) || accepted checks t) ≡ true
  open-current t s h =
      is_true (ltb 0 (left-before t) || accepted checks t)
      (⊎_elim (λ (q : (s ≡ t) × T (accepted checks t)). or_right (ltb 0 (left-before t)) (accepted checks t) q.1)
      (λ (a : T (alive t s)).
      let r = live-range checks tr c.n windowed t s a in
      or_left (ltb 0 (left-before t)) (accepted checks t) (lt→ltb 0 (left-before t) (omega (arith, live-count checks tr c.n windowed t s a))))
      (current-cases t s h))

  -- t is from s+min on exactly when so many cycles are left
  from : (t s : ℕ) → T (current t s) → leb (s + c.min) t ≡ leb (left_after t + c.min) c.n
  from t s h =
      let r = after-current t s h in
      iff-eq (leb (s + c.min) t) (leb (left_after t + c.min) c.n)
      (λ o. le→leb (left_after t + c.min) c.n (omega (arith, leb→le (s + c.min) t o)))
      (λ o. le→leb (s + c.min) t (omega (arith, leb→le (left_after t + c.min) c.n o)))

  -- the checks that are pending after t are current in t
  start-current : (t : ℕ) → T (accepted checks t) → T (current t t)
  unfolding in_window
  start-current t a =
      and_intro (accepted checks t) (in_window c tr t t) a (or_left (eqb t t) (trigger_pending c tr t t) (of-true (eq-eqb t t refl)))

  alive-current : (t s : ℕ) → T (alive t s) → T (current t s)
  unfolding in_window trigger_checks
  alive-current t s p =
      and_intro (accepted checks s) (in_window c tr s t) (and_left (accepted checks s) (checks.pending s t) p)
      (or_right (eqb s t) (trigger_pending c tr s t) (and_right (accepted checks s) (checks.pending s t) p))

  pending-current : (t s : ℕ) → T (alive (suc t) s) → T (current t s)
  pending-current t s p =
      ⊎_elim (λ (q : (s ≡ t) × T (accepted checks t)). subst⁻¹ (λ (i : ℕ). T (current t i)) q.0 (start-current t q.1)) (alive-current t s)
      (live-before checks tr c.n windowed t s p)

  -- ---- the marks of a cycle: of a check that is current in t only what it requires is left to say

  module _ (t : ℕ) (found : ℕ → Bool) (x : Bool) (same : (s : ℕ) → T (current t s) → found s ≡ x) where
    -- of one check
    tested-law : (s : ℕ) → (accepted checks s && (tested c tr s t && found s)) ≡ (current t s && (enabled (tr t) && leb (left_after t + c.min) c.n && x))
    unfolding tested
    tested-law s =
        regroup (accepted checks s) (enabled (tr t)) (in_window c tr s t) (leb (s + c.min) t) (found s)
        ∙ under (current t s) (enabled (tr t) && leb (s + c.min) t && found s) (enabled (tr t) && leb (left_after t + c.min) c.n && x)
        (λ h. rw (from t s h, same s h) refl)

    some-tested : some (suc t) (λ s. accepted checks s && (tested c tr s t && found s))
        ≡ (enabled (tr t) && (ltb 0 (left-before t) || accepted checks t) && leb (left_after t + c.min) c.n && x)
    some-tested =
        some-and (suc t) (current t) (λ s. accepted checks s && (tested c tr s t && found s)) (enabled (tr t) && leb (left_after t + c.min) c.n && x) tested-law
        ∙ rw (some-current t)
        (enabled-first (ltb 0 (left-before t) || accepted checks t) (enabled (tr t)) (leb (left_after t + c.min) c.n) x)

  -- a check is violated, or in doubt, where it is tested and what is found there is known and wrong, or unknown
  violated-is : (t s : ℕ) → checks.violated s t ≡ (tested c tr s t && (known_p c (tr t) && wrong s t))
  unfolding trigger_checks compared
  violated-is t s = and_assoc (tested c tr s t) (known_p c (tr t)) (wrong s t)

  known_same : (t : ℕ) (x : Bool) → ((s : ℕ) → T (current t s) → wrong s t ≡ x) → (s : ℕ) → T (current t s) → (known_p c (tr t) && wrong s t) ≡ (known_p c (tr t) && x)
  known_same t x same s h = rw (same s h) refl

  failure-law : (t : ℕ) (x : Bool) → ((s : ℕ) → T (current t s) → wrong s t ≡ x)
      → fails checks t ≡ (enabled (tr t) && (ltb 0 (left-before t) || accepted checks t) && leb (left_after t + c.min) c.n && known_p c (tr t) && x)
  unfolding fails
  failure-law t x same =
      some-ext (suc t) (λ s. accepted checks s && checks.violated s t) (λ s. accepted checks s && (tested c tr s t && (known_p c (tr t) && wrong s t)))
      (λ s l. rw (violated-is t s) refl)
      ∙ some-tested t (λ s. known_p c (tr t) && wrong s t) (known_p c (tr t) && x) (known_same t x same)
      ∙ sym (and_assoc (enabled (tr t) && (ltb 0 (left-before t) || accepted checks t) && leb (left_after t + c.min) c.n) (known_p c (tr t)) x)

  doubt-law : (t : ℕ)
      → doubts checks t ≡ (enabled (tr t) && (ltb 0 (left-before t) || accepted checks t) && leb (left_after t + c.min) c.n && not (known_p c (tr t)))
  unfolding doubts trigger_checks
  doubt-law t = some-tested t (λ s. not (known_p c (tr t))) (not (known_p c (tr t))) (λ s h. refl)

  -- the start of the window that t is in: the one that the cycles left give, or t itself where none is left
  abbrev pub started : ℕ → ℕ → Bool
  started t s = cond (eqb (left-before t) 0) (eqb s t) (eqb (suc (s + c.n)) (left-before t + t))

  current-is : (t s : ℕ) → current t s ≡ (started t s && (ltb 0 (left-before t) || accepted checks t))
  current-is t s =
      ⊎_elim
      (λ (z : l ≡ 0).
      rw z
      (iff-eq (current t s) (eqb s t && accepted checks t)
      (λ h.
      ⊎_elim (λ (q : (s ≡ t) × T (accepted checks t)). and_intro (eqb s t) (accepted checks t) (of-true (eq-eqb s t q.0)) q.1)
      (λ (a : T (alive t s)). absurd (omega (arith, z, live-count checks tr c.n windowed t s a, (live-range checks tr c.n windowed t s a).1)))
      (current-cases t s h))
      (λ h.
      subst⁻¹ (λ (i : ℕ). T (current t i)) (eqb→eq s t (and_left (eqb s t) (accepted checks t) h)) (start-current t (and_right (eqb s t) (accepted checks t) h)))))
      (λ (m : 0 < l).
      rw (ne_eqb l 0 (omega arith), lt-ltb 0 l m)
      (iff-eq (current t s) (same && true)
      (λ h.
      ⊎_elim (λ (q : (s ≡ t) × T (accepted checks t)). absurd (omega (arith, m, accepted-none t q.1)))
      (λ (a : T (alive t s)). and_intro same true (of-true (eq-eqb (suc (s + c.n)) (l + t) (sym (live-count checks tr c.n windowed t s a)))) tt)
      (current-cases t s h))
      (λ h. alive-current t s (rw (live-is checks tr c.n windowed t s, lt-ltb 0 l m) h))))
      (eq-zero-or-pos l)
    where
      l : ℕ
      l = left-before t

      same : Bool
      same = eqb (suc (s + c.n)) (left-before t + t)

  closed-law : (t : ℕ) → window_ends c tr checks t ≡ ((ltb 0 (left-before t) || accepted checks t) && eqb (left_after t) 0)
  unfolding window_ends
  closed-law t = some-under (suc t) (current t) (λ s. eqb t (s + c.n)) (eqb (left_after t) 0) last ∙ rw (some-current t) refl
    where
      last : (s : ℕ) → T (current t s) → eqb t (s + c.n) ≡ eqb (left_after t) 0
      last s h =
          let r = after-current t s h in
          iff-eq (eqb t (s + c.n)) (eqb (left_after t) 0) (λ o. of-true (eq-eqb (left_after t) 0 (omega (arith, eqb→eq t (s + c.n) o))))
          (λ o. of-true (eq-eqb t (s + c.n) (omega (arith, eqb→eq (left_after t) 0 o))))

  -- ---- the step, from a word that is 0 exactly where no cycle is left

  module _ (t w : ℕ) (none : ltb 0 w ≡ ltb 0 (left-before t)) where
    accepted-step : accepted checks t ≡ triggered c w (tr t)
    unfolding triggered trigger_seen pends
    accepted-step = trigger-accepted t ∙ rw (busy-left t, none) refl

    after-step : left_after t ≡ after c w (tr t) (left-before t)
    unfolding left_after after
    after-step = rw accepted-step refl

    -- the check from s is violated in t
    violated-step : (x : Bool) → ((s : ℕ) → T (current t s) → wrong s t ≡ x) → (s : ℕ)
        → (accepted checks s && checks.violated s t) ≡ (started t s && (tracked_marks c w (tr t) (left-before t) x).failure)
    unfolding tracked_marks compares tests opens pends
    violated-step x same s =
        let fired = ltb 0 (left-before t) || triggered c w (tr t) in
        let late = leb (after c w (tr t) (left-before t) + c.min) c.n in
        let y = known_p c (tr t) && x in
        ap (λ (b : Bool). accepted checks s && b) (violated-is t s) ∙ tested-law t (λ i. known_p c (tr t) && wrong i t) y (known_same t x same) s
        ∙ rw (current-is t s, accepted-step, after-step, none)
        (and_assoc (started t s) fired (enabled (tr t) && late && y)
        ∙ ap (λ (b : Bool). started t s && b) (enabled-first fired (enabled (tr t)) late y ∙ sym (and_assoc (enabled (tr t) && fired && late) (known_p c (tr t)) x)))

    marks-step : (x : Bool) → ((s : ℕ) → T (current t s) → wrong s t ≡ x)
        → window_marks (fails checks t) (accepted checks t) (window_ends c tr checks t) (doubts checks t) ≡ tracked_marks c w (tr t) (left-before t) x
    unfolding tracked_marks compares tests opens pends
    marks-step x same =
        rw (failure-law t x same, doubt-law t, closed-law t, accepted-step, after-step, none) refl

-- ---- kind 7

module _ (c : Config) (tr : Trace) (k : family c.kind ≡ value) where
  abbrev pub forbidden : ℕ → ℕ → Bool
  forbidden s t = not (eqb (P c (tr t)) c.value)

  abbrev value_before : ℕ → ℕ
  value_before = left-before c tr forbidden

  value_read : (t : ℕ) → value_left c tr t ≡ value_before (suc t)
  unfolding value_left left_with value_checks trigger_checks
  value_read t =
      read (trigger_checks c tr forbidden) tr c.n (windowed c tr forbidden) (suc t) (λ s. s + c.n - t + 0) (value_before (suc t))
      (λ s p. omega (arith, live-count (trigger_checks c tr forbidden) tr c.n (windowed c tr forbidden) (suc t) s p)) (λ l. l)

  pub value-word : (t : ℕ) → going_word_before c tr t ≡ value_before t
  unfolding going_word_before going_word open_of count
  value-word zero = refl
  value-word (suc t) =
      rw (k, value_read t) (in-reset (up (tr t)) (cond (accepted (trigger_checks c tr forbidden) t) c.n (value_before t - 1)))

  pub value-open : (t : ℕ) → up (tr t) ≡ true → open_of value c tr t ≡ step_open_of c (going_word_before c tr t) (tr t) value
  unfolding open_of step_open_of
  value-open t u =
      rw (value-word t) (value_read t ∙ left-next c tr forbidden t u ∙ after-step c tr forbidden t (value_before t) refl)

  pub value-marks : (t : ℕ) → marks_of value c tr t ≡ step_marks_of c (going_word_before c tr t) (tr t) value
  unfolding marks_of step_marks_of value_checks
  value-marks t =
      rw (value-word t) (marks-step c tr forbidden t (value_before t) refl (not (eqb (P c (tr t)) c.value)) (λ s h. refl))

  -- for the failure list: the check that is violated in t is the one whose start the word gives, and no word is older than the trace
  pub value-violated : (t s : ℕ) → (accepted (value_checks c tr) s && (value_checks c tr).violated s t)
      ≡ (cond (eqb (going_word_before c tr t) 0) (eqb s t) (eqb (suc (s + c.n)) (going_word_before c tr t + t)) && (step_marks_of c (going_word_before c tr t) (tr t) value).failure)
  unfolding step_marks_of value_checks
  value-violated t s =
      rw (value-word t) (violated-step c tr forbidden t (value_before t) refl (not (eqb (P c (tr t)) c.value)) (λ i h. refl) s)

  pub value-young : (t : ℕ) → 0 < going_word_before c tr t → c.n < going_word_before c tr t + t
  value-young t = rw (value-word t) (young (trigger_checks c tr forbidden) tr c.n (windowed c tr forbidden) t)

-- ---- kind 8

-- the parts of a word of l cycles left, without and with a reference r
left-plain : (l : ℕ) → l < 2 ^ 16 → left_in l ≡ l
left-plain l h = omega arith

holds_plain : (l : ℕ) → l < 2 ^ 16 → holds l ≡ false
holds_plain l h = lt-leb (2 ^ 48) l (omega arith)

pub left-with : (l r : ℕ) → l < 2 ^ 16 → left_in (l + with_reference r) ≡ l
left-with l r h = omega arith

pub holds-with : (l r : ℕ) → holds (l + with_reference r) ≡ true
holds-with l r = le-leb (2 ^ 48) (l + with_reference r) (omega arith)

pub reference-with : (l r : ℕ) → l < 2 ^ 16 → reference_in (l + with_reference r) ≡ r
reference-with l r h = omega arith

module _ (c : Config) (tr : Trace) (k : family c.kind ≡ stability) (high : c.n < 2 ^ 16) where
  abbrev pub unstable : ℕ → ℕ → Bool
  unstable s t = has_reference c tr s t && not (eqb (P c (tr t)) (reference c tr s t))

  abbrev pub stable : Checks
  stable = trigger_checks c tr unstable

  abbrev pub stable-windows : Windowed stable tr c.n
  stable-windows = windowed c tr unstable

  abbrev pub stable-before : ℕ → ℕ
  stable-before = left-before c tr unstable

  -- what the window from s holds before t
  abbrev pub kept : ℕ → ℕ → ℕ
  kept s t = cond (has_reference c tr s t) (with_reference (reference c tr s t)) 0

  -- ---- the word before t

  stability-read : (t v : ℕ) → ((s : ℕ) → T (alive c tr unstable (suc t) s) → s + c.n - t + kept s (suc t) ≡ v) → (0 < v → 0 < stable-before (suc t))
      → stability_left c tr t ≡ v
  unfolding stability_left left_with stability_checks trigger_checks
  stability-read t v = read stable tr c.n stable-windows (suc t) (λ s. s + c.n - t + kept s (suc t)) v

  pub word-pending : (t s : ℕ) → T (alive c tr unstable t s) → going_word_before c tr t ≡ stable-before t + kept s t
  unfolding going_word_before going_word open_of count
  word-pending zero s p = absurd (not-suc-le-zero (live-range stable tr c.n stable-windows 0 s p).0)
  word-pending (suc t) s p = by (up (tr t)) refl
    where
      at : (i : ℕ) → T (alive c tr unstable (suc t) i) → stable-before (suc t) + suc t ≡ suc (i + c.n)
      at = live-count stable tr c.n stable-windows (suc t)

      some_left : 0 < stable-before (suc t)
      some_left = omega (arith, at s p, (live-range stable tr c.n stable-windows (suc t) s p).1)

      by : (b : Bool) → up (tr t) ≡ b → cond b (open_of (family c.kind) c tr t) 0 ≡ stable-before (suc t) + kept s (suc t)
      by true u =
          rw k
          (stability-read t (stable-before (suc t) + kept s (suc t))
          (λ i q. let e : i ≡ s = omega (arith, at s p, at i q) in rw e (ap (λ (n : ℕ). n + kept s (suc t)) (omega (arith, at s p)))) (λ _. some_left))
      by false u = absurd (not-suc-le-zero (rw (count, u) at some_left))

  pub word_none : (t : ℕ) → stable-before t ≡ 0 → going_word_before c tr t ≡ 0
  unfolding going_word_before going_word open_of
  word_none zero e = refl
  word_none (suc t) e = by (up (tr t))
    where
      by : (b : Bool) → cond b (open_of (family c.kind) c tr t) 0 ≡ 0
      by true =
          rw k
          (stability-read t 0
          (λ s p.
          absurd (omega (arith, e, live-count stable tr c.n stable-windows (suc t) s p, (live-range stable tr c.n stable-windows (suc t) s p).1)))
          (λ l. absurd (not-suc-le-zero l)))
      by false = refl

  -- what the word says of a window that t is in
  record Parts (t s : ℕ) : Type 0 where
    left_is : left_in (going_word_before c tr t) ≡ stable-before t
    holds-is : holds (going_word_before c tr t) ≡ has_reference c tr s t
    reference-is : has_reference c tr s t ≡ true → reference_in (going_word_before c tr t) ≡ reference c tr s t
    none_is : ltb 0 (going_word_before c tr t) ≡ ltb 0 (stable-before t)

  pending-parts : (t s : ℕ) → T (alive c tr unstable t s) → Parts t s
  pending-parts t s p = by (has_reference c tr s t) refl
    where
      l : ℕ
      l = stable-before t

      young : (l < 2 ^ 16) × (0 < l)
      young =
          let r = live-range stable tr c.n stable-windows t s p in
          let e = live-count stable tr c.n stable-windows t s p in
          (omega arith, omega arith)

      by : (b : Bool) → has_reference c tr s t ≡ b → Parts t s
      by true h =
          let r : ℕ = reference c tr s t in
          let w : going_word_before c tr t ≡ l + with_reference r = word-pending t s p ∙ rw h refl in
          record {
            left_is = rw w (left-with l r young.0);
            holds-is = rw (w, h) (holds-with l r);
            reference-is = λ _. rw w (reference-with l r young.0);
            none_is = rw w (lt-ltb 0 (l + with_reference r) (omega arith) ∙ sym (lt-ltb 0 l young.1));
          }
      by false h =
          let w : going_word_before c tr t ≡ l + 0 = word-pending t s p ∙ rw h refl in
          let z : going_word_before c tr t ≡ l = omega (arith, w) in
          record {
            left_is = rw z (left-plain l young.0);
            holds-is = rw (z, h) (holds_plain l young.0);
            reference-is = λ e. absurd (of-false h (of-true e));
            none_is = rw z refl;
          }

  -- no reference was taken before the trigger
  none_before : (s t : ℕ) → t ≤ s → has_reference c tr s t ≡ false
  unfolding has_reference compared tested in_window trigger_pending
  none_before s t h =
      some-none t (compared c tr s) (λ u l. rw (ne_eqb s u (omega arith), le-ltb s u (omega arith)) (simp (and-false (enabled (tr u)))))

  start-parts : (t : ℕ) → T (accepted stable t) → Parts t t
  start-parts t a =
      let l : stable-before t ≡ 0 = accepted-none c tr unstable t a in
      let w : going_word_before c tr t ≡ 0 = word_none t l in
      record {
        left_is = rw (w, l) refl;
        holds-is = rw (w, none_before t t (le_refl t)) refl;
        reference-is = λ e. absurd (of-false (none_before t t (le_refl t)) (of-true e));
        none_is = rw (w, l) refl;
      }

  current-parts : (t s : ℕ) → T (current c tr unstable t s) → Parts t s
  current-parts t s h =
      ⊎_elim (λ (q : (s ≡ t) × T (accepted stable t)). subst⁻¹ (Parts t) q.0 (start-parts t q.1)) (pending-parts t s)
      (current-cases c tr unstable t s h)

  -- the cycles left, whether there is a window or not
  record Left-parts (t : ℕ) : Type 0 where
    left_is : left_in (going_word_before c tr t) ≡ stable-before t
    none_is : ltb 0 (going_word_before c tr t) ≡ ltb 0 (stable-before t)

  left-parts : (t : ℕ) → Left-parts t
  unfolding busy
  left-parts t =
      ⊎_elim
      (λ (e : busy stable t ≡ true).
      let r = some-elim t (alive c tr unstable t) (of-true e) in
      let p = pending-parts t r.at r.holds in
      record { left_is = p.left_is; none_is = p.none_is })
      (λ (e : busy stable t ≡ false).
      let l : stable-before t ≡ 0 = omega (arith, ltb-false 0 (stable-before t) (sym (busy-left c tr unstable t) ∙ e)) in
      let w : going_word_before c tr t ≡ 0 = word_none t l in
      record { left_is = rw (w, l) refl; none_is = rw (w, l) refl })
      (either (busy stable t))

  -- ---- the step

  -- what the word says that a window forbids
  differs : ℕ → Bool
  differs t = holds (going_word_before c tr t) && not (eqb (P c (tr t)) (reference_in (going_word_before c tr t)))

  unstable-is : (t s : ℕ) → T (current c tr unstable t s) → unstable s t ≡ differs t
  unfolding differs
  unstable-is t s h = let q = current-parts t s h in by (has_reference c tr s t) q refl
    where
      by : (b : Bool) → Parts t s → has_reference c tr s t ≡ b → unstable s t ≡ (holds (going_word_before c tr t) && not (eqb (P c (tr t)) (reference_in (going_word_before c tr t))))
      by true q e = rw (q.holds-is, e, q.reference-is e) refl
      by false q e = rw (q.holds-is, e) refl

  pub stability-marks : (t : ℕ) → marks_of stability c tr t ≡ step_marks_of c (going_word_before c tr t) (tr t) stability
  unfolding marks_of step_marks_of stability_checks differs
  stability-marks t =
      let p = left-parts t in rw p.left_is (marks-step c tr unstable t (going_word_before c tr t) p.none_is (differs t) (unstable-is t))

  -- for the failure list
  pub stability-violated : (t s : ℕ) → (accepted (stability_checks c tr) s && (stability_checks c tr).violated s t)
      ≡ (cond (eqb (left_in (going_word_before c tr t)) 0) (eqb s t) (eqb (suc (s + c.n)) (left_in (going_word_before c tr t) + t)) && (step_marks_of c (going_word_before c tr t) (tr t) stability).failure)
  unfolding step_marks_of stability_checks differs
  stability-violated t s =
      let p = left-parts t in rw p.left_is (violated-step c tr unstable t (going_word_before c tr t) p.none_is (differs t) (unstable-is t) s)

  pub stability-young : (t : ℕ) → 0 < left_in (going_word_before c tr t) → c.n < left_in (going_word_before c tr t) + t
  stability-young t = rw (left-parts t).left_is (young stable tr c.n stable-windows t)

  tested-step : (t s : ℕ) → T (current c tr unstable t s) → tested c tr s t ≡ tests c (going_word_before c tr t) (tr t) (left_in (going_word_before c tr t))
  unfolding tested tests opens pends
  tested-step t s h =
      let w = going_word_before c tr t in
      let p = left-parts t in
      let i : in_window c tr s t ≡ true = is_true (in_window c tr s t) (and_right (accepted stable s) (in_window c tr s t) h) in
      let o : (ltb 0 w || triggered c w (tr t)) ≡ true =
      rw (p.none_is, ← accepted-step c tr unstable t w p.none_is) (open-current c tr unstable t s h) in
      rw (i, from c tr unstable t s h, o, p.left_is, after-step c tr unstable t w p.none_is) refl

  compared-step : (t s : ℕ) → T (current c tr unstable t s) → compared c tr s t ≡ compares c (going_word_before c tr t) (tr t) (left_in (going_word_before c tr t))
  unfolding compared compares
  compared-step t s h = rw (tested-step t s h) refl

  -- what the window from s holds after t
  kept_step : (t s : ℕ) → T (current c tr unstable t s) → kept s (suc t) ≡ held c (going_word_before c tr t) (tr t)
  unfolding held has_reference reference some at_first
  kept_step t s h =
      let q = current-parts t s h in
      rw (q.holds-is, ← compared-step t s h) (by (has_reference c tr s t) (compared c tr s t) q.reference-is)
    where
      w : ℕ
      w = going_word_before c tr t

      by : (a b : Bool) → (a ≡ true → reference_in w ≡ reference c tr s t)
          → cond (a || b) (with_reference (cond a (reference c tr s t) (cond b (P c (tr t)) 0))) 0
          ≡ cond a (with_reference (reference_in w)) (cond b (with_reference (P c (tr t))) 0)
      by true b e = rw (e refl) refl
      by false true e = refl
      by false false e = refl

  pub stability-open : (t : ℕ) → up (tr t) ≡ true → open_of stability c tr t ≡ step_open_of c (going_word_before c tr t) (tr t) stability
  unfolding open_of step_open_of
  stability-open t u =
      let w = going_word_before c tr t in
      let p = left-parts t in
      rw (p.left_is, ← after-step c tr unstable t w p.none_is) (stability-read t (cond (eqb A 0) 0 (A + held c w (tr t))) holding some_left)
    where
      A : ℕ
      A = left_after c tr unstable t

      counted : stable-before (suc t) ≡ A
      counted = left-next c tr unstable t u

      holding : (s : ℕ) → T (alive c tr unstable (suc t) s) → s + c.n - t + kept s (suc t) ≡ cond (eqb A 0) 0 (A + held c (going_word_before c tr t) (tr t))
      holding s a =
          let e = live-count stable tr c.n stable-windows (suc t) s a in
          let r = (live-range stable tr c.n stable-windows (suc t) s a).1 in
          let n : s + c.n - t ≡ A = omega (arith, counted) in
          rw (n, ne_eqb A 0 (omega (arith, counted)), kept_step t s (pending-current c tr unstable t s a)) refl

      some_left : 0 < cond (eqb A 0) 0 (A + held c (going_word_before c tr t) (tr t)) → 0 < stable-before (suc t)
      some_left l =
          ⊎_elim (λ (e : eqb A 0 ≡ true). absurd (not-suc-le-zero (rw e at l))) (λ (e : eqb A 0 ≡ false). omega (arith, counted, eqb-false A 0 e))
          (either (eqb A 0))
