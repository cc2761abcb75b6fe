-- Kinds 7 and 8, from document 02, §4 and §8: what follows a trigger at s is checked from s+min to s+max, and n is max. Assumes nothing.
use Rattle.std.specs.Prelude.{ℕ, suc, ◌+◌, ◌-◌, ◌*◌, ◌^◌, Bool, true, not, ◌&&◌, ◌||◌, cond, leb, eqb}
use Rattle.bits.specs.Bits.{some}
use Rattle.rules.specs.declared.config.Config.{Config}
use Rattle.rules.specs.Frame.{Trace, up, enabled, P, Q, known_p}
use Rattle.rules.specs.Checks.{Checks, accepted}
use Rattle.rules.specs.Window.{window_after, at_last, at_first}

-- "an open kind 8 window that holds a reference r adds 2^48 plus r times 2^16"
abbrev pub with_reference : ℕ → ℕ
with_reference r = 2 ^ 48 + r * 2 ^ 16

module _ (c : Config) (tr : Trace) where
  -- trigger is 1 in cycle t, which is enabled: in a cycle with enable 0 "no trigger [is] seen", and an unknown one "is no start"
  unfoldable pub trigger_seen : ℕ → Bool
  trigger_seen t = enabled (tr t) && eqb (Q c (tr t)) 1

  -- "after an accepted trigger at s every trigger in s+1 to s+max, the cycles before s+min included, is ignored", unless a reset in between has ended the window. "A
  -- failure does not end the window", and "a cycle with enable 0 counts".
  unfoldable pub trigger_pending : ℕ → ℕ → Bool
  trigger_pending = window_after c.n (λ u. up (tr u))

  -- cycle t is in the window of the trigger at s: s itself, or one where it is pending
  unfoldable pub in_window : ℕ → ℕ → Bool
  in_window s t = eqb s t || trigger_pending s t

  -- cycle t is tested for the trigger at s: "from min to max cycles after trigger", where "both limits are inclusive"; with enable 0 "nothing is tested"
  unfoldable pub tested : ℕ → ℕ → Bool
  tested s t = enabled (tr t) && in_window s t && leb (s + c.min) t

  -- the tracked value of such a cycle is compared where it is known: "An unknown bit in a tested value is neither pass nor failure […] and lets […] a §4 window carry on"
  unfoldable pub compared : ℕ → ℕ → Bool
  compared s t = tested s t && known_p c (tr t)

  -- the check of each trigger, with what it requires
  unfoldable pub trigger_checks : (ℕ → ℕ → Bool) → Checks
  trigger_checks wrong = record {
    starts = trigger_seen;
    pending = trigger_pending;
    violated = λ s t. compared s t && wrong s t;
    doubtful = λ s t. tested s t && not (known_p c (tr t));
    ignores = true;
  }

  -- kind 7: the tracked value is not the expected one
  unfoldable pub value_checks : Checks
  value_checks = trigger_checks (λ s t. not (eqb (P c (tr t)) c.value))

  -- "Stability compares with the first enabled cycle from s+min on": whether there is one before t, and the tracked value in it. An unknown one "never becomes" the
  -- reference.
  unfoldable pub has_reference : ℕ → ℕ → Bool
  has_reference s t = some t (compared s)

  unfoldable pub reference : ℕ → ℕ → ℕ
  reference s t = at_first t (compared s) (λ u. P c (tr u))

  -- kind 8: the tracked value is not that of the reference
  unfoldable pub stability_checks : Checks
  stability_checks = trigger_checks (λ s t. has_reference s t && not (eqb (P c (tr t)) (reference s t)))

  -- "8 at s+max", whatever enable is there
  unfoldable pub window_ends : Checks → ℕ → Bool
  window_ends k t = some (suc t) (λ s. accepted k s && in_window s t && eqb t (s + c.n))

  -- "The open word is the cycles left to s+max", of a window from s that is open after t, with what it holds
  unfoldable pub left_with : Checks → (ℕ → ℕ) → ℕ → ℕ
  left_with k holds t = at_last (suc t) (λ s. accepted k s && trigger_pending s (suc t)) (λ s. s + c.n - t + holds s)

  unfoldable pub value_left : ℕ → ℕ
  value_left = left_with value_checks (λ s. 0)

  unfoldable pub stability_left : ℕ → ℕ
  stability_left t = left_with stability_checks (λ s. cond (has_reference s (suc t)) (with_reference (reference s (suc t))) 0) t
