-- Kinds 0 to 2: the marks and the open word that the rules give for a cycle out of reset are those of one step, from the open word before.
--
-- The attempts that are tested in cycle t are told apart by their age: `running t j` says that the attempt from t−1−j was accepted and was alive
-- through t−1. From one cycle to the next the ages grow by 1 (`running-first`, `running-next`), a reset leaves none, and so the bits of the word before
-- t are the running attempts (`before-running`). What the rules say of some earlier start they then say of some bit of the word (`by-age`): whether
-- one is being tested, whether one fails or is in doubt, whether one has all events but the last. Assumes nothing.
use Prim.Native.Nat.{ℕ, zero, suc, ◌+◌, ◌-◌, ◌<◌, ◌≤◌}
use mathlib.Core.Path.{◌≡◌, refl, sym, ap, subst, subst⁻¹, ◌∙◌, fun_ext}
use mathlib.Core.Bool.{Bool, true, false, not, ◌&&◌, ◌||◌, and-true, and-false, and_assoc}
use mathlib.Core.Logic.{⊎_elim}
use native.Mathlib.Nat.{add-zero, sub-zero, suc-sub-suc}
use native.Mathlib.Omega.{arith}
use lib.Dec.{T, ltb, eqb, ltb→lt, leb-zero, leb-suc-zero, leb-suc-suc}
use borrow.Author.Tests.{lt-ltb, ltb-true, eq-eqb, ne_eqb, eqb-true, eqb-false}
use Rattle.bits.specs.Bits.{bit, some, every, number}
use Rattle.bits.proofs.Tests.{either, iff-eq, and_left, some-elim, some-intro, some-none, some-ext}
use Rattle.bits.proofs.Bits.{number-ext, bit-number, bit-holds, number-some, number-none}
use Rattle.rules.specs.declared.config.Config.{Config}
use Rattle.rules.specs.Config.{family}
use Rattle.rules.specs.Config.Family.{sequence}
use Rattle.rules.specs.declared.frame.Frame.{Frame}
use Rattle.rules.specs.Frame.{Trace, frame_word, unknown, up, P}
use Rattle.rules.specs.Checks.{Checks, accepted, busy, fails, doubts}
use Rattle.rules.specs.Sequence.{event_missed, event_unknown, event, alive, attempt_tested, attempt_finds, sequence_checks, most_seen, attempts}
use Rattle.rules.specs.Rules.{marks_of, open_of, going_word, going_word_before}
use Rattle.rules.specs.Step.{starts_attempt, attempt, attempt_on, step_marks_of, step_open_of}
use Rattle.rules.proofs.Accepted.{accepted-law, fails-earlier, doubts-earlier}
use Rattle.rules.proofs.Unknown.{one_known, one-met}

and_again : (a b : Bool) → (a && b && a) ≡ (a && b)
and_again true b = and-true b
and_again false b = refl

-- u for out of reset, b for the event, g for what is found where there is none
has-event : (u b x y g z : Bool) → (b && g) ≡ false → (u && b && x && (u && y && g && z)) ≡ false
has-event false b x y g z e = refl
has-event true false x y g z e = refl
has-event true true false y g z e = refl
has-event true true true true g z e = rw e refl
has-event true true true false g z e = refl

-- of m = k + 1 tests, the last one alone
some-last : (m k : ℕ) (f : ℕ → Bool) → m ≡ suc k → some m (λ j. f j && eqb (suc j) m) ≡ f k
unfolding some
some-last m k f e =
    let others = some-none k (λ j. f j && eqb (suc j) (suc k)) (λ j l. rw (ne_eqb (suc j) (suc k) (omega arith), and-false)) in
    rw (e, some, others, eq-eqb (suc k) (suc k) refl, and-true)

module _ (c : Config) (tr : Trace) where
  abbrev checks : Checks
  checks = sequence_checks c tr

  -- the attempt from t−1−j is accepted, and alive through t−1
  running : ℕ → ℕ → Bool
  running t j = ltb j t && accepted checks (t - suc j) && alive c tr (t - suc j) (suc j)

  -- the word that they make
  abbrev runs : ℕ → ℕ
  runs t = number (c.n - 1) (running t)

  -- ---- an attempt by its start and by its age

  -- the attempt from s has age j in t = s+1+j
  same : (t s j : ℕ) (g : ℕ → Bool) → s + suc j ≡ t → j < c.n - 1
      → (accepted checks s && checks.pending s t && g (t - s)) ≡ (running t j && g (suc j))
  unfolding running sequence_checks attempt_tested
  same t s j g e l =
      let old : t - s ≡ suc j = omega arith in
      let start : t - suc j ≡ s = omega arith in
      let low : ltb j t ≡ true = lt-ltb j t (omega arith) in
      let small : ltb (suc j) c.n ≡ true = lt-ltb (suc j) c.n (omega arith) in
      rw (old, start, low, small)

  -- an attempt that is tested is younger than n
  tested : (a : Bool) (s t : ℕ) (b : Bool) → T (a && checks.pending s t && b) → t - s < c.n
  unfolding sequence_checks attempt_tested
  tested true s t b h =
      ltb→lt (t - s) c.n (and_left (ltb (t - s) c.n) (alive c tr s (t - s)) (and_left (checks.pending s t) b h))
  tested false s t b h = absurd h

  -- and is not older than the trace
  young : (t j : ℕ) → T (running t j) → j < t
  unfolding running
  young t j h =
      let a = accepted checks (t - suc j) in
      ltb→lt j t (and_left (ltb j t) a (and_left (ltb j t && a) (alive c tr (t - suc j) (suc j)) h))

  -- some accepted attempt that is tested in t has an age that passes g
  by-age : (t : ℕ) (g : ℕ → Bool)
      → some t (λ s. accepted checks s && checks.pending s t && g (t - s)) ≡ some (c.n - 1) (λ j. running t j && g (suc j))
  by-age t g =
      iff-eq (some t start) (some (c.n - 1) age)
      (λ h.
      let r = some-elim t start h in
      let l : t - r.at < c.n = tested (accepted checks r.at) r.at t (g (t - r.at)) r.holds in
      let j : ℕ = t - suc r.at in
      some-intro (c.n - 1) age j (omega arith) (subst T (same t r.at j g (omega arith) (omega arith)) r.holds))
      (λ h.
      let r = some-elim (c.n - 1) age h in
      let l : r.at < t = young t r.at (and_left (running t r.at) (g (suc r.at)) r.holds) in
      let s : ℕ = t - suc r.at in
      some-intro t start s (omega arith) (subst⁻¹ T (same t s r.at g (omega arith) r.low) r.holds))
    where
      start : ℕ → Bool
      start s = accepted checks s && checks.pending s t && g (t - s)

      age : ℕ → Bool
      age j = running t j && g (suc j)

  -- ---- from a cycle to the next

  running-first : (t : ℕ) → running (suc t) 0 ≡ accepted checks t
  unfolding running sequence_checks alive every attempt_tested
  running-first t = rw (leb-suc-suc, leb-zero, suc-sub-suc) (simp (sub-zero, add-zero, accepted-law, and_again))

  running-next : (t j : ℕ) → running (suc t) (suc j) ≡ (running t j && event c tr (c.n - 1 - suc j) t)
  unfolding running alive every
  running-next t j =
      ⊎_elim
      (λ (h : ltb j t ≡ true).
      let e : t - suc j + suc j ≡ t = omega (arith, ltb-true j t h) in
      rw (leb-suc-suc, suc-sub-suc, e, running) (simp and_assoc))
      (λ (h : ltb j t ≡ false). rw (leb-suc-suc, running, h))
      (either (ltb j t))

  running-down : (t : ℕ) → up (tr t) ≡ false → (j : ℕ) → running (suc t) j ≡ false
  unfolding event sequence_checks attempt_tested
  running-down t e zero = rw (running-first, accepted-law, event, e)
  running-down t e (suc j) = rw (running-next, event, e, and-false)

  attempts-running : (t : ℕ) → attempts c tr t ≡ runs (suc t)
  unfolding attempts running
  attempts-running t = ap (number (c.n - 1)) (fun_ext λ j. rw (leb-suc-suc, suc-sub-suc))

  before-running : family c.kind ≡ sequence → (t : ℕ) → going_word_before c tr t ≡ runs t
  unfolding going_word_before going_word open_of running
  before-running f zero = sym (number-none (c.n - 1) (running 0) (λ j l. rw (running, leb-suc-zero)))
  before-running f (suc t) =
      ⊎_elim (λ (e : up (tr t) ≡ true). rw (going_word, e, f) (attempts-running t))
      (λ (e : up (tr t) ≡ false). rw (going_word, e) (sym (number-none (c.n - 1) (running (suc t)) (λ j l. running-down t e j))))
      (either (up (tr t)))

  -- an accepted attempt from s is tested in t when the word before t has the bit of its age, and no bit is older than the trace
  pub pending-bit : family c.kind ≡ sequence → (t s : ℕ) → s < t
      → (accepted checks s && checks.pending s t) ≡ (ltb (t - s) c.n && bit (going_word_before c tr t) (t - suc s))
  unfolding sequence_checks attempt_tested
  pending-bit f t s l =
      ⊎_elim
      (λ (y : ltb (t - s) c.n ≡ true).
      let low : t - suc s < c.n - 1 = omega (arith, ltb-true (t - s) c.n y) in
      rw (before-running f t, bit-number (c.n - 1) (running t) (t - suc s) low, y)
      (simp (y, and-true) at (same t s (t - suc s) (λ d. true) (omega arith) low)))
      (λ (y : ltb (t - s) c.n ≡ false). rw y (and-false (accepted checks s)))
      (either (ltb (t - s) c.n))

  pub bit-young : family c.kind ≡ sequence → (t j : ℕ) → T (bit (going_word_before c tr t) j) → j < t
  bit-young f t j h = young t j (bit-holds (c.n - 1) (running t) j (rw (before-running f t) at h))

  -- an accepted attempt has its first event, so it is neither violated nor in doubt where it starts
  without-event : (found : Frame → ℕ → Bool) (t : ℕ) → (bit (P c (tr t)) (c.n - 1) && found (tr t) (c.n - 1)) ≡ false
      → (accepted checks t && attempt_finds c tr found t t) ≡ false
  unfolding sequence_checks event attempt_finds
  without-event found t e =
      let first : c.n - 1 - (t - t) ≡ c.n - 1 = omega arith in
      rw (accepted-law checks t, first)
      (has-event (up (tr t)) (bit (P c (tr t)) (c.n - 1)) (not (eqb c.kind 2 && busy checks t)) (attempt_tested c tr t t) (found (tr t) (c.n - 1))
      (not (eqb c.kind 0) || eqb (t - t) (c.n - 1)) e)

  pub not-at-start : (t : ℕ) → (accepted checks t && checks.violated t t) ≡ false
  unfolding sequence_checks attempt_tested
  not-at-start t = without-event (event_missed c) t (one-met c (tr t) (c.n - 1))

  known-at-start : (t : ℕ) → (accepted checks t && checks.doubtful t t) ≡ false
  unfolding sequence_checks attempt_tested event_unknown
  known-at-start t = without-event (event_unknown c) t (one_known c.p (frame_word (tr t) 1) (unknown (tr t) 1) (c.n - 1))

  -- ---- the step, over the word of the running attempts

  busy-word : (t : ℕ) → busy checks t ≡ not (eqb (runs t) 0)
  unfolding busy
  busy-word t = simp and-true at (by-age t (λ d. true)) ∙ sym (number-some (c.n - 1) (running t))

  module _ (t : ℕ) (here : up (tr t) ≡ true) where
    accepted-starts : accepted checks t ≡ starts_attempt c (runs t) (tr t)
    unfolding sequence_checks event starts_attempt attempt_tested
    accepted-starts = rw (accepted-law, busy-word, event, here)

    running-attempt : (j : ℕ) → j < c.n - 1 → running (suc t) j ≡ attempt c (runs t) (tr t) j
    unfolding attempt event
    running-attempt zero l = running-first t ∙ accepted-starts
    running-attempt (suc j) l = rw (running-next, event, here, bit-number (c.n - 1) (running t) j (omega arith))

    module _ (two : 2 ≤ c.n) where
      -- the earlier attempts that are tested on an event that is found to be so
      on-earlier : (found : Frame → ℕ → Bool) → some t (λ s. accepted checks s && attempt_finds c tr found s t) ≡ attempt_on c (runs t) (tr t) found
      unfolding sequence_checks attempt_finds attempt_on attempt_tested
      on-earlier found =
          simp (here, and_assoc)
          (simp and_assoc at (by-age t (λ d. found (tr t) (c.n - 1 - d) && (not (eqb c.kind 0) || eqb d (c.n - 1))))
          ∙ ⊎_elim
          (λ (e : eqb c.kind 0 ≡ true).
          let last : c.n - 1 - suc (c.n - 2) ≡ 0 = omega arith in
          rw (attempt_on, e, bit-number (c.n - 1) (running t) (c.n - 2) (omega arith)) (simp (← and_assoc) (rw last at (some-last (c.n - 1) (c.n - 2) on (omega arith)))))
          (λ (e : eqb c.kind 0 ≡ false).
          rw (attempt_on, e)
          (simp and-true (some-ext (c.n - 1) on (λ j. bit (runs t) j && found (tr t) (c.n - 1 - suc j)) (λ j l. rw bit-number))))
          (either (eqb c.kind 0)))
        where
          on : ℕ → Bool
          on j = running t j && found (tr t) (c.n - 1 - suc j)

      failure : fails checks t ≡ attempt_on c (runs t) (tr t) (event_missed c)
      unfolding sequence_checks attempt_tested
      failure = fails-earlier checks t (not-at-start t) ∙ on-earlier (event_missed c)

      doubt : doubts checks t ≡ attempt_on c (runs t) (tr t) (event_unknown c)
      unfolding sequence_checks attempt_tested
      doubt = doubts-earlier checks t (known-at-start t) ∙ on-earlier (event_unknown c)

      opened : most_seen c tr t ≡ attempt c (runs t) (tr t) (c.n - 2)
      unfolding most_seen sequence_checks attempt_tested
      opened =
          ap (some (suc t)) (fun_ext seen) ∙ by-age (suc t) (λ d. eqb d (c.n - 1)) ∙ some-last (c.n - 1) (c.n - 2) (running (suc t)) (omega arith)
          ∙ running-attempt (c.n - 2) (omega arith)
        where
          seen : (s : ℕ)
              → (accepted checks s && alive c tr s (c.n - 1) && eqb (suc t) (s + (c.n - 1)))
              ≡ (accepted checks s && checks.pending s (suc t) && eqb (suc t - s) (c.n - 1))
          seen s =
              ⊎_elim
              (λ (e : eqb (suc t) (s + (c.n - 1)) ≡ true).
              let a : suc t - s ≡ c.n - 1 = omega (arith, eqb-true (suc t) (s + (c.n - 1)) e) in
              rw (e, a, lt-ltb (c.n - 1) c.n (omega arith), eq-eqb (c.n - 1) (c.n - 1) refl))
              (λ (e : eqb (suc t) (s + (c.n - 1)) ≡ false).
              rw (e, ne_eqb (suc t - s) (c.n - 1) (λ a. eqb-false (suc t) (s + (c.n - 1)) e (omega arith))) (simp and-false))
              (either (eqb (suc t) (s + (c.n - 1))))

module _ (c : Config) (tr : Trace) (two : 2 ≤ c.n) (f : family c.kind ≡ sequence) (t : ℕ) (here : up (tr t) ≡ true) where
  pub sequence-open : open_of sequence c tr t ≡ step_open_of c (going_word_before c tr t) (tr t) sequence
  unfolding open_of step_open_of
  sequence-open =
      rw (before-running c tr f)
      (attempts-running c tr t ∙ number-ext (c.n - 1) (running c tr (suc t)) (attempt c (runs c tr t) (tr t)) (running-attempt c tr t here))

  pub sequence-marks : marks_of sequence c tr t ≡ step_marks_of c (going_word_before c tr t) (tr t) sequence
  unfolding marks_of step_marks_of
  sequence-marks = rw (before-running c tr f, failure c tr t here two, doubt c tr t here two, opened c tr t here two, accepted-starts c tr t here)
