-- `signed_changes::changes::signed` meets its contract: the count is below 2^31, so it is read as it is. Assumes nothing.
use mathlib.Core.Path.{subst⁻¹}
use mir.Syntax.{w32}
use mir.Val.{SFits}
use Rattle.signed_changes.proofs.Signed.{less, less-fits, less-kept}
use Rattle.signed_changes.proofs.changes.signed.Goals as goal

pub overflow_sub-result : goal.overflow_sub-result
overflow_sub-result c = subst⁻¹ (SFits w32) (less c.args.count c.requires) (less-fits c.args.count c.requires)

pub returns : goal.returns
returns c = less-kept _ c.args.count c.requires (less c.args.count c.requires)
