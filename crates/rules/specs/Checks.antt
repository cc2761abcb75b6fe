-- Starts and the checks that they begin, for every kind at once. A kind says of a trace which cycles start a check, in which cycles a check is
-- pending, where it is violated, where that cannot be told, and whether a start is ignored while a check is pending (`Sequence`, `Time`, `Transition`, `Trigger`). Which starts are
-- accepted follows from that. Assumes nothing.
use Rattle.std.specs.Prelude.{ℕ, zero, suc, Bool, false, not, ◌&&◌, List, [], ◌∷◌, ◌++◌, get_or}
use Rattle.bits.specs.Bits.{some}

pub record Checks : Type 0 where
  -- cycle s starts a check
  pub starts : ℕ → Bool
  -- the check from s is pending in cycle t, for s < t: it was begun, is not finished after the cycle before t, and is tested in t
  pub pending : ℕ → ℕ → Bool
  -- what the check from s requires is violated in cycle t, for s ≤ t: a check can be violated in the cycle where it starts
  pub violated : ℕ → ℕ → Bool
  -- what the check from s requires in cycle t, for s ≤ t, cannot be told, since a bit of it is unknown: "neither pass nor failure"
  pub doubtful : ℕ → ℕ → Bool
  -- a start is ignored in a cycle where an accepted check is pending
  pub ignores : Bool

module _ (k : Checks) where
  -- whether the start of cycle t is accepted, where `before` says it of each cycle before t
  unfoldable pub accept : List Bool → ℕ → Bool
  accept before t = k.starts t && not (k.ignores && some t (λ s. get_or before s false && k.pending s t))

  -- for each cycle before t, whether its start is accepted
  unfoldable pub accepted_before : ℕ → List Bool
  accepted_before zero = []
  accepted_before (suc t) = accepted_before t ++ (accept (accepted_before t) t ∷ [])

  -- the start of cycle t is accepted
  unfoldable pub accepted : ℕ → Bool
  accepted t = accept (accepted_before t) t

  -- an accepted check is pending in cycle t. `accepted-law` of `proofs/Accepted.antt`: accepted t is `starts t && not (ignores && busy t)`
  unfoldable pub busy : ℕ → Bool
  busy t = some t (λ s. accepted s && k.pending s t)

  -- an accepted check is violated in cycle t
  unfoldable pub fails : ℕ → Bool
  fails t = some (suc t) (λ s. accepted s && k.violated s t)

  -- an accepted check is in doubt in cycle t
  unfoldable pub doubts : ℕ → Bool
  doubts t = some (suc t) (λ s. accepted s && k.doubtful s t)
