-- Kinds 3 to 5, from document 01, "Time", and document 02, §2 and §8. Assumes nothing.
use Rattle.std.specs.Prelude.{ℕ, suc, ◌+◌, ◌-◌, Bool, not, ◌&&◌, ◌||◌, eqb}
use Rattle.bits.specs.Bits.{some}
use Rattle.rules.specs.declared.config.Config.{Config}
use Rattle.rules.specs.declared.frame.Frame.{Frame}
use Rattle.rules.specs.Frame.{Trace, up, P, Q, known_q}
use Rattle.rules.specs.Checks.{Checks, accepted, busy}
use Rattle.rules.specs.Window.{window_after, at_last}

-- test is known to be 0, and is unknown
unfoldable pub test_missed : Config → Frame → Bool
test_missed c f = known_q c f && not (eqb (Q c f) 1)

unfoldable pub test_unknown : Config → Frame → Bool
test_unknown c f = not (known_q c f)

module _ (c : Config) (tr : Trace) where
  -- start is 1 in cycle t, which is out of reset
  unfoldable pub start_seen : ℕ → Bool
  start_seen t = up (tr t) && eqb (P c (tr t)) 1

  -- kind 4, where a start while a check is pending begins the n cycles afresh
  unfoldable pub restarts : ℕ → Bool
  restarts t = eqb c.kind 4 && start_seen t

  -- "It is pending in s+1 to s+n", unless a reset or a restart in between has ended it. A failure does not end it.
  unfoldable pub window_pending : ℕ → ℕ → Bool
  window_pending = window_after c.n (λ u. up (tr u) && not (restarts u))

  -- in cycle t the check from s takes a test that is found to be so: kind 4 at a new start "takes no test"
  unfoldable pub window_finds : (Frame → Bool) → ℕ → ℕ → Bool
  window_finds found s t = up (tr t) && window_pending s t && found (tr t) && not (restarts t)

  -- "test 0 in such a cycle is a failure"; an unknown one is none, "and lets a time check […] carry on". "Start 1 while pending: kind 3 ignores it; kind 4 […] counts
  -- n cycles afresh from there; kind 5 […] carries on." "An unknown start or trigger bit, or one in a start comparison, is no start."
  unfoldable pub time_checks : Checks
  time_checks = record {
    starts = start_seen;
    pending = window_pending;
    violated = window_finds (test_missed c);
    doubtful = window_finds (test_unknown c);
    ignores = not (eqb c.kind 4);
  }

  -- "Start 1 while pending: […] kind 4 sets mark 16"
  unfoldable pub window_reset : ℕ → Bool
  window_reset t = restarts t && busy time_checks t

  -- "With nothing pending, start 1 at s opens a check (mark 4)"; and "a restart sets 16 and 4" (§2), since "a new check is initiated there, which is
  -- what window_open means"
  unfoldable pub window_opened : ℕ → Bool
  window_opened t = (start_seen t && not (busy time_checks t)) || window_reset t

  -- "kind 5 sets mark 2"
  unfoldable pub illegal_start : ℕ → Bool
  illegal_start t = eqb c.kind 5 && start_seen t && busy time_checks t

  -- "At s+n mark 8 is set, failed or not, and the check is over."
  unfoldable pub window_closed : ℕ → Bool
  window_closed t = not (restarts t) && some t (λ s. accepted time_checks s && time_checks.pending s t && eqb t (s + c.n))

  -- "The open word is the number of pending cycles left." Of a check from s that is pending after t these are t+1 to s+n.
  unfoldable pub cycles_left : ℕ → ℕ
  cycles_left t = at_last (suc t) (λ s. accepted time_checks s && time_checks.pending s (suc t)) (λ s. s + c.n - t)
