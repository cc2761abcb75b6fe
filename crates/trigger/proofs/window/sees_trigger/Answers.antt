-- `trigger::window::sees_trigger` meets its contract: bit 0 of the two wires, one above the other. Assumes nothing.
use native.Mathlib.Omega.{arith}
use Rattle.bus.proofs.Ranges.{left-low}
use Rattle.trigger.proofs.TriggerCode.{trigger-wire}
use Rattle.trigger.proofs.window.sees_trigger.Goals as goal

pub overflow_shr-result-2 : goal.overflow_shr-result-2
overflow_shr-result-2 c = let s = c.before in omega (arith, left-low s.args.c.q s.requires.0)

pub returns : goal.returns
returns c =
    let s = c.before in
    rw (c.sample.ensures, c.sample-2.ensures) (trigger-wire s.args.c s.args.frame s.requires.1 s.requires.2)
