-- The failure list, from document 01, "Failure list" and demand 2, and document 02, §4 and §7: every failure and every illegal start, with the start of its check, by the rules.
-- Assumes nothing.
use Rattle.std.specs.Prelude.{ℕ, zero, suc, Bool, false, not, ◌&&◌, cond, List, [], ◌∷◌, ◌++◌, map, eqb}
use Rattle.rules.specs.declared.config.Config.{Config}
use Rattle.rules.specs.Config.{Family, family}
use Rattle.rules.specs.Config.Family.{sequence, time, transition, value, stability, none}
use Rattle.rules.specs.Frame.{Trace}
use Rattle.rules.specs.Checks.{Checks, accepted}
use Rattle.rules.specs.Rules.{stopped_before}
use Rattle.rules.specs.Sequence.{sequence_checks}
use Rattle.rules.specs.Time.{time_checks}
use Rattle.rules.specs.Transition.{transition_checks}
use Rattle.rules.specs.Trigger.{value_checks, stability_checks}

-- "three 32-bit words each (cycle, mark 1 or 2, start cycle)"
pub record Entry : Type 0 where
  pub cycle : ℕ
  pub mark : ℕ
  pub start : ℕ

abbrev pub entry : ℕ → ℕ → ℕ → Entry
entry t m s = record { cycle = t; mark = m; start = s }

-- the numbers below k at which f holds, in ascending order
unfoldable pub chosen : ℕ → (ℕ → Bool) → List ℕ
chosen zero f = []
chosen (suc k) f = chosen k f ++ cond (f k) (k ∷ []) []

-- the checks that a family's rules give for a trace
unfoldable pub checks_of : Family → Config → Trace → Checks
checks_of sequence c tr = sequence_checks c tr
checks_of time c tr = time_checks c tr
checks_of transition c tr = transition_checks c tr
checks_of value c tr = value_checks c tr
checks_of stability c tr = stability_checks c tr
checks_of none c tr = record { starts = λ s. false; pending = λ s t. false; violated = λ s t. false; doubtful = λ s t. false; ignores = false }

module _ (c : Config) (tr : Trace) (t : ℕ) where
  -- the accepted check from s is violated in cycle t: "A time check's start is where it was opened or last window reset, a transition's the cycle before",
  -- a sequence's the attempt's start; after a trigger "the listed start is the trigger cycle"
  unfoldable pub going_failed : ℕ → Bool
  going_failed s = accepted (checks_of (family c.kind) c tr) s && (checks_of (family c.kind) c tr).violated s t

  -- an illegal start in cycle t, while the accepted check from s is pending
  unfoldable pub going_illegal : ℕ → Bool
  going_illegal s =
      eqb c.kind 5 && (checks_of (family c.kind) c tr).starts t
      && (accepted (checks_of (family c.kind) c tr) s && (checks_of (family c.kind) c tr).pending s t)

  -- "For fatal checkers demand 2 speaks of starts and checks through the first cycle with mark 1 or 2": there are none behind it
  unfoldable pub failed : ℕ → Bool
  failed s = not (stopped_before c tr t) && going_failed s

  unfoldable pub illegal : ℕ → Bool
  illegal s = not (stopped_before c tr t) && going_illegal s

  -- the entries of cycle t, "ordered by cycle, mark, start". A check can fail in the cycle where it starts.
  unfoldable pub failures_at : List Entry
  failures_at = map (entry t 1) (chosen (suc t) failed) ++ map (entry t 2) (chosen (suc t) illegal)

-- the entries of the cycles before t
unfoldable pub failures_to : Config → Trace → ℕ → List Entry
failures_to c tr zero = []
failures_to c tr (suc t) = failures_to c tr t ++ failures_at c tr t

-- the words of entries
unfoldable pub words_of : List Entry → List ℕ
words_of [] = []
words_of (e ∷ es) = e.cycle ∷ e.mark ∷ e.start ∷ words_of es
