-- What a step of kinds 0 to 2 reads of a frame. Assumes nothing.
use Rattle.std.specs.Prelude.{ℕ, ◌-◌, ◌<◌, ◌≡◌}
use Rattle.bits.specs.Bits.{bit}
use Rattle.rules.specs.declared.config.Config.{Config}
use Rattle.rules.specs.declared.frame.Frame.{Frame}
use Rattle.rules.specs.Frame.{up, P, unknown_p}
use Rattle.sequence.specs.declared.step.Events.{Events}

-- whether it is out of reset, and the n events in the order in which an attempt meets them: those that are 1, and those that are unknown
pub record Sees (c : Config) (f : Frame) (e : Events) : Type 0 where
  pub up_is : e.up ≡ up f
  pub seen_are : (i : ℕ) → i < c.n → bit e.seen i ≡ bit (P c f) (c.n - 1 - i)
  pub unknown_are : (i : ℕ) → i < c.n → bit e.unknown i ≡ bit (unknown_p c f) (c.n - 1 - i)
