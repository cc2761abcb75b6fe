-- `config_limits::limits::n_fits` meets its contract: each arm's limits are those of its family. Assumes nothing.
use mathlib.Core.Path.{refl}
use mathlib.Core.Logic.{⊎_elim}
use Rattle.rules.specs.Config.{family_limits}
use Rattle.config_limits.proofs.limits.n_fits.Goals as goal

pub returns-in-Sequence : goal.returns-in-Sequence
unfolding family_limits
returns-in-Sequence c = rw c.in-Sequence.is refl

pub returns-in-Time : goal.returns-in-Time
unfolding family_limits
returns-in-Time c = rw c.in-Time.is refl

pub returns-in-Transition : goal.returns-in-Transition
unfolding family_limits
returns-in-Transition c = rw c.in-Transition.is refl

pub returns-in-Value : goal.returns-in-Value
unfolding family_limits
returns-in-Value c = ⊎_elim (λ v. rw v refl) (λ s. rw s refl) c.in-Value.is
