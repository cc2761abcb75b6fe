-- What a step of kind 8 reads of a frame. Assumes nothing.
use Rattle.std.specs.Prelude.{ℕ, ◌≡◌, Bool, true, not, ◌&&◌, ◌||◌, eqb}
use Rattle.rules.specs.declared.config.Config.{Config}
use Rattle.rules.specs.declared.frame.Frame.{Frame}
use Rattle.rules.specs.Frame.{up, enabled, P, Q, known_p}
use Rattle.stability.specs.declared.step.Seen.{Seen}
use Rattle.stability.specs.declared.step.Tracked.{Tracked}

-- whether it is out of reset, and then enable and the trigger
pub record Sees (c : Config) (f : Frame) (s : Seen) : Type 0 where
  pub up_is : s.up ≡ up f
  pub enabled_is : up f ≡ true → s.enabled ≡ enabled f
  pub trigger_is : up f ≡ true → s.trigger ≡ (enabled f && eqb (Q c f) 1)

-- a window is open in the cycle, from before it or by its trigger
unfoldable pub is_open_at : ℕ → Seen → Bool
is_open_at w s = s.up && (not (eqb w 0) || s.trigger)

-- whether the tracked value is known, and then what it is
pub record Tracks (c : Config) (f : Frame) (t : Tracked) : Type 0 where
  pub known_is : t.known ≡ known_p c f
  pub value_is : known_p c f ≡ true → t.value ≡ P c f
