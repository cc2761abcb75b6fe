-- The ports of kind 6 in one frame. Assumes nothing.
use Rattle.std.specs.Prelude.{◌≤◌, ◌≡◌, true}
use Rattle.rules.specs.declared.config.Config.{Config}
use Rattle.rules.specs.declared.frame.Frame.{Frame}
use Rattle.rules.specs.Frame.{up, P, Q, R, known_p, known_q, known_r}
use Rattle.transition.specs.declared.step.Known.{Known}
use Rattle.transition.specs.declared.step.Values.{Values}

-- "P test, Q start state, R next state", each where it is known
pub record Holds (c : Config) (f : Frame) (v : Values) : Type 0 where
  pub up_is : v.up ≡ up f
  pub test_is : known_p c f ≡ true → v.test ≡ P c f
  pub start_is : known_q c f ≡ true → v.start_state ≡ Q c f
  pub next_is : known_r c f ≡ true → v.next_state ≡ R c f

-- whether each is
pub record Tells (c : Config) (f : Frame) (k : Known) : Type 0 where
  pub test_known : k.test ≡ known_p c f
  pub start_known : k.start_state ≡ known_q c f
  pub next_known : k.next_state ≡ known_r c f

-- each port is declared from a higher wire down to a lower one, or has one wire
pub record Descends (c : Config) : Type 0 where
  pub p_descends : c.p.right ≤ c.p.left
  pub q_descends : c.q.right ≤ c.q.left
  pub r_descends : c.r.right ≤ c.r.left
