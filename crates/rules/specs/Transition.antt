-- Kind 6, from document 01, "Transition", and document 02, §8. Assumes nothing.
use Rattle.std.specs.Prelude.{ℕ, suc, ◌+◌, ◌^◌, Bool, false, not, ◌&&◌, ◌||◌, cond, eqb}
use Rattle.rules.specs.declared.config.Config.{Config}
use Rattle.rules.specs.declared.frame.Frame.{Frame}
use Rattle.rules.specs.Frame.{Trace, up, P, Q, R, known_p, known_q, known_r}
use Rattle.rules.specs.Checks.{Checks, accepted}

-- test equals start state: "An unknown start or trigger bit, or one in a start comparison, is no start."
unfoldable pub in_start_state : Config → Frame → Bool
in_start_state c f = known_p c f && known_q c f && eqb (P c f) (Q c f)

module _ (c : Config) (tr : Trace) where
  -- the check from s is tested in t, where a next state was stored: "An unknown next state at a start […] stores nothing."
  unfoldable pub stored_check : ℕ → ℕ → Bool
  stored_check s t = eqb t (suc s) && known_r c (tr s)

  -- "When test equals start state, mark 4 is set and next state is stored. At the next cycle, test different from the stored value is a failure;
  -- the same cycle may start again." So next state is read at s, where it is stored. "An unknown bit in a tested value is neither pass nor failure",
  -- and an unknown next state at a start is in doubt at once: it "sets 4 and 32".
  unfoldable pub transition_checks : Checks
  transition_checks = record {
    starts = λ s. up (tr s) && in_start_state c (tr s);
    pending = stored_check;
    violated = λ s t. up (tr t) && stored_check s t && (known_p c (tr t) && not (eqb (P c (tr t)) (R c (tr s))));
    doubtful = λ s t. up (tr t) && ((stored_check s t && not (known_p c (tr t))) || (eqb t s && not (known_r c (tr s))));
    ignores = false;
  }

  -- "The open word is 0, or 2^32 plus the stored value."
  unfoldable pub stored : ℕ → ℕ
  stored t = cond (accepted transition_checks t && known_r c (tr t)) (2 ^ 32 + R c (tr t)) 0
