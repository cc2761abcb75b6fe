-- `edit_samples::refusal::samples_fit` meets its contract: a number of words is 8k exactly where it is a multiple of 8 and k eights. Assumes nothing.
use Prim.Native.Nat.{◌-◌}
use mathlib.Core.Path.{◌≡◌}
use native.Mathlib.Omega.{arith}
use Rattle.edit_samples.proofs.Refusals.{multiple}
use Rattle.edit_samples.proofs.refusal.samples_fit.Goals as goal
use Rattle.edit_samples.proofs.refusal.samples_fit.Goals.{then-a-b, else-a-b}

pub returns : goal.returns
returns c =
    let a = c.args in
    let due : c.if-a-b.due ≡ a.b - a.a = elim c.if-a-b.branch [ then-a-b w ↦ omega (arith, w.due-is) | else-a-b w ↦ omega (arith, w.due-is) ] in
    rw due (multiple a.words (a.b - a.a))
