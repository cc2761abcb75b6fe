-- The rules as they were before unknown bits, from document 01 and document 02, §2, §4 and §7: the definition of the known case. No code uses it: the code is proved to
-- follow the crate `rules`, whose files quote the documents. That a trace without unknown bits has the same rows and words by both is `known-as-before` of
-- `proofs/Known.antt`. What §8 did not change is taken from `rules`: configurations, families and windows. Assumes nothing.
use Rattle.std.specs.Prelude.{ℕ, zero, suc, ◌+◌, ◌-◌, ◌*◌, ◌^◌, Bool, true, false, not, ◌&&◌, ◌||◌, cond, List, [], ◌∷◌, ◌++◌, leb, ltb, eqb, get_or}
use Rattle.bits.specs.Bits.{to_bit, bit, some, every, number}
use Rattle.bus.specs.Range.{value_of}
use Rattle.rules.specs.declared.config.Config.{Config}
use Rattle.rules.specs.declared.frame.Frame.{Frame}
use Rattle.rules.specs.Config.{Family, family, fatal}
use Rattle.rules.specs.Config.Family.{sequence, time, transition, value, stability, none}
use Rattle.rules.specs.Frame.{Trace}
use Rattle.rules.specs.Window.{window_after, at_last, at_first}
use Rattle.rules.specs.Trigger.{with_reference}

-- a word of a frame, of which only the first four are read: reset, P, Q and R
abbrev pub sample : Frame → ℕ → ℕ
sample f i = get_or f.samples i 0

-- the frame is out of reset, and enabled
unfoldable pub up : Frame → Bool
up f = bit (sample f 0) 0

unfoldable pub enabled : Frame → Bool
enabled f = up f && bit (sample f 0) 1

-- the values of the ports
abbrev pub P : Config → Frame → ℕ
P c f = value_of c.p (sample f 1)

abbrev pub Q : Config → Frame → ℕ
Q c f = value_of c.q (sample f 2)

abbrev pub R : Config → Frame → ℕ
R c f = value_of c.r (sample f 3)

-- which cycle starts a check, where the check is pending and where it is violated, and whether a start is ignored while an accepted check is pending
pub record Checks : Type 0 where
  pub starts : ℕ → Bool
  pub pending : ℕ → ℕ → Bool
  pub violated : ℕ → ℕ → Bool
  pub ignores : Bool

module _ (k : Checks) where
  -- the start of cycle t is accepted, where `before` says it of each cycle before t
  unfoldable pub accept : List Bool → ℕ → Bool
  accept before t = k.starts t && not (k.ignores && some t (λ s. get_or before s false && k.pending s t))

  unfoldable pub accepted_before : ℕ → List Bool
  accepted_before zero = []
  accepted_before (suc t) = accepted_before t ++ (accept (accepted_before t) t ∷ [])

  unfoldable pub accepted : ℕ → Bool
  accepted t = accept (accepted_before t) t

  -- an accepted check is pending in cycle t, and is violated there
  unfoldable pub busy : ℕ → Bool
  busy t = some t (λ s. accepted s && k.pending s t)

  unfoldable pub fails : ℕ → Bool
  fails t = some (suc t) (λ s. accepted s && k.violated s t)

module _ (c : Config) (tr : Trace) where
  -- kinds 0 to 2: an event bit is 1, the attempt from s has seen k events, and it is tested in cycle t
  unfoldable pub event : ℕ → ℕ → Bool
  event i t = up (tr t) && bit (P c (tr t)) i

  unfoldable pub alive : ℕ → ℕ → Bool
  alive s k = every k (λ i. event (c.n - 1 - i) (s + i))

  unfoldable pub attempt_tested : ℕ → ℕ → Bool
  attempt_tested s t = ltb (t - s) c.n && alive s (t - s)

  unfoldable pub sequence_checks : Checks
  sequence_checks = record {
    starts = λ s. event (c.n - 1) s;
    pending = attempt_tested;
    violated = λ s t.
        up (tr t) && attempt_tested s t && not (bit (P c (tr t)) (c.n - 1 - (t - s))) && (not (eqb c.kind 0) || eqb (t - s) (c.n - 1));
    ignores = eqb c.kind 2;
  }

  -- kinds 3 to 5: a start, and one that begins the n cycles afresh
  unfoldable pub start_seen : ℕ → Bool
  start_seen t = up (tr t) && eqb (P c (tr t)) 1

  unfoldable pub restarts : ℕ → Bool
  restarts t = eqb c.kind 4 && start_seen t

  unfoldable pub window_pending : ℕ → ℕ → Bool
  window_pending = window_after c.n (λ u. up (tr u) && not (restarts u))

  unfoldable pub time_checks : Checks
  time_checks = record {
    starts = start_seen;
    pending = window_pending;
    violated = λ s t. up (tr t) && window_pending s t && not (eqb (Q c (tr t)) 1) && not (restarts t);
    ignores = not (eqb c.kind 4);
  }

  -- kind 6
  unfoldable pub transition_checks : Checks
  transition_checks = record {
    starts = λ s. up (tr s) && eqb (P c (tr s)) (Q c (tr s));
    pending = λ s t. eqb t (suc s);
    violated = λ s t. up (tr t) && eqb t (suc s) && not (eqb (P c (tr t)) (R c (tr s)));
    ignores = false;
  }

  -- kinds 7 and 8: the trigger of s is pending in cycle t, has t in its window, and is tested there
  unfoldable pub trigger_pending : ℕ → ℕ → Bool
  trigger_pending = window_after c.n (λ u. up (tr u))

  unfoldable pub in_window : ℕ → ℕ → Bool
  in_window s t = eqb s t || trigger_pending s t

  unfoldable pub tested : ℕ → ℕ → Bool
  tested s t = enabled (tr t) && in_window s t && leb (s + c.min) t

  unfoldable pub trigger_checks : (ℕ → ℕ → Bool) → Checks
  trigger_checks wrong = record {
    starts = λ s. enabled (tr s) && eqb (Q c (tr s)) 1;
    pending = trigger_pending;
    violated = λ s t. tested s t && wrong s t;
    ignores = true;
  }

  unfoldable pub value_checks : Checks
  value_checks = trigger_checks (λ s t. not (eqb (P c (tr t)) c.value))

  -- kind 8: the first tested cycle has the reference
  unfoldable pub has_reference : ℕ → ℕ → Bool
  has_reference s t = some t (tested s)

  unfoldable pub reference : ℕ → ℕ → ℕ
  reference s t = at_first t (tested s) (λ u. P c (tr u))

  unfoldable pub stability_checks : Checks
  stability_checks = trigger_checks (λ s t. has_reference s t && not (eqb (P c (tr t)) (reference s t)))

  -- the cycles left of the window that is open after t, with what it holds
  unfoldable pub left_with : Checks → (ℕ → ℕ) → ℕ → ℕ
  left_with k holds t = at_last (suc t) (λ s. accepted k s && trigger_pending s (suc t)) (λ s. s + c.n - t + holds s)

-- the marks of a cycle, in the order of their numbers
pub record Marks : Type 0 where
  pub failure : Bool
  pub illegal : Bool
  pub opened : Bool
  pub closed : Bool
  pub restarted : Bool

unfoldable pub row_of : Marks → ℕ
row_of m = 1 * to_bit m.failure + 2 * to_bit m.illegal + 4 * to_bit m.opened + 8 * to_bit m.closed + 16 * to_bit m.restarted

abbrev pub check_marks : Bool → Bool → Bool → Marks
check_marks failure opened closed = record { failure = failure; illegal = false; opened = opened; closed = closed; restarted = false }

abbrev pub trigger_marks : Checks → Config → Trace → ℕ → Marks
trigger_marks k c tr t = check_marks (fails k t) (accepted k t) (some (suc t) (λ s. accepted k s && in_window c tr s t && eqb t (s + c.n)))

-- the marks of a cycle out of reset
unfoldable pub marks_of : Family → Config → Trace → ℕ → Marks
marks_of sequence c tr t =
    let k = sequence_checks c tr in
    let most_seen = some (suc t) (λ s. accepted k s && alive c tr s (c.n - 1) && eqb (suc t) (s + (c.n - 1))) in
    check_marks (fails k t) (cond (eqb c.kind 0) most_seen (accepted k t)) false
marks_of time c tr t =
    let k = time_checks c tr in
    let window_reset = restarts c tr t && busy k t in
    record {
      failure = fails k t;
      illegal = eqb c.kind 5 && start_seen c tr t && busy k t;
      opened = (start_seen c tr t && not (busy k t)) || window_reset;
      closed = not (restarts c tr t) && some t (λ s. accepted k s && k.pending s t && eqb t (s + c.n));
      restarted = window_reset;
    }
marks_of transition c tr t = let k = transition_checks c tr in check_marks (fails k t) (accepted k t) false
marks_of value c tr t = trigger_marks (value_checks c tr) c tr t
marks_of stability c tr t = trigger_marks (stability_checks c tr) c tr t
marks_of none c tr t = check_marks false false false

-- the open word after a cycle out of reset
unfoldable pub open_of : Family → Config → Trace → ℕ → ℕ
open_of sequence c tr t = number (c.n - 1) (λ j. leb j t && accepted (sequence_checks c tr) (t - j) && alive c tr (t - j) (suc j))
open_of time c tr t = let k = time_checks c tr in at_last (suc t) (λ s. accepted k s && k.pending s (suc t)) (λ s. s + c.n - t)
open_of transition c tr t = cond (accepted (transition_checks c tr) t) (2 ^ 32 + R c (tr t)) 0
open_of value c tr t = left_with c tr (value_checks c tr) (λ s. 0) t
open_of stability c tr t =
    left_with c tr (stability_checks c tr) (λ s. cond (has_reference c tr s (suc t)) (with_reference (reference c tr s (suc t))) 0) t
open_of none c tr t = 0

-- the row and the word of a checker that goes on after a failure
unfoldable pub going_row : Config → Trace → ℕ → ℕ
going_row c tr t = cond (up (tr t)) (row_of (marks_of (family c.kind) c tr t)) 0

unfoldable pub going_word : Config → Trace → ℕ → ℕ
going_word c tr t = cond (up (tr t)) (open_of (family c.kind) c tr t) 0

-- a row with mark 1 or 2, and that it stopped a fatal checker before cycle t
unfoldable pub failing : ℕ → Bool
failing row = bit row 0 || bit row 1

unfoldable pub stopped_before : Config → Trace → ℕ → Bool
stopped_before c tr t = fatal c && some t (λ s. failing (going_row c tr s))

-- the row and the word of any checker
unfoldable pub row : Config → Trace → ℕ → ℕ
row c tr t = cond (stopped_before c tr t) 0 (going_row c tr t)

unfoldable pub word : Config → Trace → ℕ → ℕ
word c tr t = cond (stopped_before c tr (suc t)) (2 ^ 63) (going_word c tr t)
