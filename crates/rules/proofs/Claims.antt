-- The claims about the rules of document 01, with what document 02 changed: for a checker that goes on they are those of `proofs/Going.antt`. A fatal checker has the
-- same rows and words up to its first row with mark 1 or 2, and from then on the word 2^63, which is none of them. Assumes nothing.
use Prim.Native.Nat.{ℕ, zero, suc, ◌<◌}
use mathlib.Core.Path.{◌≡◌, refl, sym, ◌∙◌}
use mathlib.Core.Bool.{Bool, true, false, ◌&&◌, ◌||◌, cond, and-false}
use mathlib.Core.Logic.{⊎_elim}
use native.Mathlib.Nat.{le_refl, le_of_suc-le-suc}
use native.Mathlib.Omega.{arith}
use borrow.Author.Tests.{ne_eqb}
use lib.Dec.{T, eqb, eqb→eq}
use Rattle.bits.specs.Bits.{some}
use Rattle.bits.proofs.Tests.{either, is_true, of-true, of-false, and_left, and_right, or_left, or_right, or_cases, some-intro, some-elim, some-none}
use Rattle.rules.specs.declared.config.Config.{Config}
use Rattle.rules.specs.declared.frame.Frame.{Frame}
use Rattle.rules.specs.Config.{fatal, Good}
use Rattle.rules.specs.Frame.{Trace}
use Rattle.rules.specs.Rules.{going_row, going_word, going_word_before, failing, stopped_before, stopped_word, row, word, word_before}
use Rattle.rules.specs.Step.{going_step_row, going_step_word, step_row, step_word, Steps}
use Rattle.rules.specs.Possible.{going_possible, can_fail, possible, Left}
use Rattle.rules.proofs.Going.{going-row, going-word, going-possible, going-left, going-low, going_before, fails-next, never-fails, same-before, followed, followed-before, followed-at, followed-proper}

-- 1. The whiteboard table: `whiteboard` of `proofs/Cases.antt`.

-- ---- a step of a fatal checker, stopped or not

pub steps-stopped : (c : Config) (f : Frame) → fatal c ≡ true → Steps c stopped_word f 0 stopped_word
unfolding step_row step_word
steps-stopped c f e = record { row_is = rw e refl; word_is = rw e refl }

pub steps-going : (c : Config) (w : ℕ) (f : Frame) → w < stopped_word
    → Steps c w f (going_step_row c w f) (cond (fatal c && failing (going_step_row c w f)) stopped_word (going_step_word c w f))
unfolding step_row step_word
steps-going c w f l =
    let e : eqb w stopped_word ≡ false = ne_eqb w stopped_word (λ q. omega arith) in
    record { row_is = rw (e, and-false) refl; word_is = rw e refl }

-- ---- the word before a cycle

module _ (c : Config) (tr : Trace) where
  pub before-going : (t : ℕ) → stopped_before c tr t ≡ false → word_before c tr t ≡ going_word_before c tr t
  unfolding word_before going_word_before word
  before-going zero e = refl
  before-going (suc t) e = rw e refl

  before-stopped : (t : ℕ) → stopped_before c tr t ≡ true → word_before c tr t ≡ stopped_word
  unfolding word_before word stopped_before some
  before-stopped zero e = absurd (of-true (sym (and-false (fatal c)) ∙ e))
  before-stopped (suc t) e = rw e refl

  -- it has stopped before, or stops in cycle t
  stopped_more : (t : ℕ) → stopped_before c tr (suc t) ≡ (stopped_before c tr t || (fatal c && failing (going_row c tr t)))
  unfolding stopped_before some
  stopped_more t = by (fatal c)
    where
      by : (b : Bool)
          → (b && (some t (λ s. failing (going_row c tr s)) || failing (going_row c tr t))) ≡ ((b && some t (λ s. failing (going_row c tr s))) || (b && failing (going_row c tr t)))
      by true = refl
      by false = refl

pub before-low : (c : Config) → Good c → (tr : Trace) (t : ℕ) → going_word_before c tr t < stopped_word
before-low c good tr t = going-low c good (going_word_before c tr t) (going_before c good tr t)

-- 2. For every good configuration, trace and cycle: the row and word that the rules give are those of one step from the rules' word of the cycle before,
-- which is 0 before cycle 0.
pub step-is-rules : (c : Config) → Good c → (tr : Trace) (t : ℕ) → Steps c (word_before c tr t) (tr t) (row c tr t) (word c tr t)
unfolding row word stopped_before
step-is-rules c good tr t = ⊎_elim halted running (either (stopped_before c tr t))
  where
    halted : stopped_before c tr t ≡ true → Steps c (word_before c tr t) (tr t) (row c tr t) (word c tr t)
    halted e =
        rw (before-stopped c tr t e, stopped_more c tr t, e)
        (steps-stopped c (tr t) (is_true (fatal c) (and_left (fatal c) (some t (λ s. failing (going_row c tr s))) (of-true e))))

    running : stopped_before c tr t ≡ false → Steps c (word_before c tr t) (tr t) (row c tr t) (word c tr t)
    running e =
        rw (before-going c tr t e, stopped_more c tr t, e, going-row c good tr t, going-word c good tr t)
        (steps-going c (going_word_before c tr t) (tr t) (before-low c good tr t))

-- 3. Every word that the rules give is possible.
pub words-possible : (c : Config) → Good c → (tr : Trace) (t : ℕ) → T (possible c (word c tr t))
unfolding word possible stopped_before
words-possible c good tr t = ⊎_elim halted running (either (stopped_before c tr (suc t)))
  where
    running : stopped_before c tr (suc t) ≡ false → T (possible c (word c tr t))
    running e =
        rw e (or_left (going_possible c (going_word c tr t)) (fatal c && can_fail c && eqb (going_word c tr t) stopped_word) (going-possible c good tr t))

    halted : stopped_before c tr (suc t) ≡ true → T (possible c (word c tr t))
    halted e =
        let fails : ℕ → Bool = λ s. failing (going_row c tr s) in
        let fatal-is = and_left (fatal c) (some (suc t) fails) (of-true e) in
        let found = some-elim (suc t) fails (and_right (fatal c) (some (suc t) fails) (of-true e)) in
        let can : can_fail c ≡ true =
        ⊎_elim (λ (y : can_fail c ≡ true). y)
        (λ (n : can_fail c ≡ false).
        absurd
        (of-false (never-fails c good n (going_word_before c tr found.at) (tr found.at) (going_before c good tr found.at))
        (rw (going-row c good tr found.at) at found.holds)))
        (either (can_fail c)) in
        rw (e, is_true (fatal c) fatal-is, can) (or_right (going_possible c stopped_word) true tt)

-- Every possible word is left by some trace.
pub possible-left : (c : Config) → Good c → (w : ℕ) → T (possible c w) → Left c w
unfolding possible word stopped_before going_word_before
possible-left c good w h =
    ⊎_elim passing
    (λ (o : T (fatal c && can_fail c && eqb w stopped_word)).
    let both = and_left (fatal c && can_fail c) (eqb w stopped_word) o in
    let is = eqb→eq w stopped_word (and_right (fatal c && can_fail c) (eqb w stopped_word) o) in
    rw is (failed (is_true (fatal c) (and_left (fatal c) (can_fail c) both)) (and_right (fatal c) (can_fail c) both)))
    (or_cases (going_possible c w) (fatal c && can_fail c && eqb w stopped_word) h)
  where
    -- one of a checker that goes on, by a trace in which nothing fails
    passing : T (going_possible c w) → Left c w
    passing g =
        let l = going-left c good w g in
        let none = some-none (suc l.cycle) (λ s. failing (going_row c l.trace s)) (λ s b. l.passes s (le_of_suc-le-suc b)) in
        record { trace = l.trace; cycle = l.cycle; short = l.short; proper = l.proper; leaves = rw (none, and-false) l.leaves }

    -- 2^63, by one more frame, on which it fails
    failed : fatal c ≡ true → T (can_fail c) → Left c stopped_word
    failed e can =
        let n = fails-next c good can in
        let d : ℕ = suc n.left.cycle in
        let tr : Trace = followed n.left.trace d n.frame in
        let before : going_word_before c tr d ≡ n.word = same-before c good tr n.left.trace d (followed-before n.left.trace d n.frame) ∙ n.left.leaves in
        let fails : failing (going_row c tr d) ≡ true = rw (going-row c good tr d, before, followed-at n.left.trace d n.frame) n.fails in
        let stops = is_true (some (suc d) (λ s. failing (going_row c tr s))) (some-intro (suc d) (λ s. failing (going_row c tr s)) d (le_refl (suc d)) (of-true fails)) in
        record {
          trace = tr;
          cycle = d;
          short = n.room;
          proper = followed-proper n.left.trace d n.frame n.left.proper n.proper;
          leaves = rw (e, stops) refl;
        }

-- A step from a word answers as the rules do after every trace that leaves it.
pub step_after : (c : Config) → Good c → (w : ℕ) (tr : Trace) (t : ℕ) → word c tr t ≡ w
    → Steps c w (tr (suc t)) (row c tr (suc t)) (word c tr (suc t))
unfolding word_before
step_after c good w tr t e = rw (← e) (step-is-rules c good tr (suc t))

-- 4. A window is opened exactly where a time check is initiated, that is where its start is accepted: `opened-accepted` of `proofs/TimeRules.antt`.
