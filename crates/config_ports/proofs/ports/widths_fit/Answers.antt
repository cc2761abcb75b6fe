-- `config_ports::ports::widths_fit` meets its contract: each arm asks what its family asks. Assumes nothing.
use mathlib.Core.Path.{refl}
use mathlib.Core.Logic.{⊎_elim}
use Rattle.rules.specs.Config.{widths_of}
use Rattle.config_ports.proofs.ports.widths_fit.Goals as goal

pub returns-in-Sequence : goal.returns-in-Sequence
unfolding widths_of
returns-in-Sequence c = rw (c.in-Sequence.is, c.is_unused-in-Sequence.ensures, c.is_unused.ensures, c.width-width.ensures) refl

pub returns-in-Time : goal.returns-in-Time
unfolding widths_of
returns-in-Time c = rw (c.in-Time.is, c.is_unused-in-Time.ensures, c.width.ensures, c.width-width.ensures) refl

pub returns-in-Transition : goal.returns-in-Transition
unfolding widths_of
returns-in-Transition c = rw (c.in-Transition.is, c.width-in-Transition-2.ensures, c.width-in-Transition.ensures, c.width-width.ensures) refl

pub returns-in-Value : goal.returns-in-Value
unfolding widths_of
returns-in-Value c =
    rw (c.is_unused-in-Value.ensures, c.width-in-Value.ensures)
    (⊎_elim (λ v. rw v refl) (λ s. rw s refl) c.in-Value.is)
