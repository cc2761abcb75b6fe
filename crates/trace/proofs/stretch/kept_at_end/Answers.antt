-- `trace::stretch::kept_at_end` meets its contract: an empty stretch ends where it starts, and another behind its last entry. Assumes nothing.
use Prim.Native.Nat.{suc, ◌-◌}
use mathlib.Core.Path.{◌≡◌, sym, ap, ◌∙◌}
use native.Mathlib.Omega.{arith}
use Rattle.trace.specs.Stretches.{kept_from}
use Rattle.trace.proofs.Running.{kept-enters, kept-steps}
use Rattle.trace.proofs.stretch.kept_at_end.Goals as goal

pub returns-then-at-to : goal.returns-then-at-to
returns-then-at-to c =
    let a = c.args in
    let e : a.to ≡ suc (a.to - 1) = omega arith in
    sym (ap (kept_from a.words.now a.at a.kept) e ∙ kept-steps a.words.now a.at a.kept (a.to - 1) (omega arith))

pub returns-else-at-to : goal.returns-else-at-to
returns-else-at-to c = let a = c.args in sym (kept-enters a.words.now a.at a.kept a.to (omega arith))
