-- `stability::step::first_word` meets its contract. Assumes nothing.
use Rattle.rules.specs.Trigger.{with_reference}
use Rattle.trigger.proofs.TriggerCode.{first_taken, first-none}
use Rattle.stability.proofs.step.first_word.Goals as goal

pub returns-then-compared-left : goal.returns-then-compared-left
returns-then-compared-left c = let a = c.args in first_taken a.left (with_reference a.tracked) a.compared c.if-compared-left.true

pub returns-else-compared-left : goal.returns-else-compared-left
returns-else-compared-left c = let a = c.args in first-none a.left (with_reference a.tracked) a.compared c.if-compared-left.false
