-- `recheck::edit::kept_before` meets its contract: entry a - 1, and 0 before cycle 0. Assumes nothing.
use Prim.Native.Nat.{suc, ◌-◌}
use mathlib.Core.Path.{◌≡◌, sym, ap}
use native.Mathlib.Omega.{arith}
use Rattle.trace.specs.Runs.{kept_at}
use Rattle.recheck.proofs.edit.kept_before.Goals as goal

pub returns-then-a-eq0 : goal.returns-then-a-eq0
unfolding kept_at
returns-then-a-eq0 c = sym (ap (kept_at c.args.words.now) c.if-a-eq0.true)

pub returns-else-a-eq0 : goal.returns-else-a-eq0
unfolding kept_at
returns-else-a-eq0 c =
    let l = c.args.words.now in
    let a = c.args.a in
    let e : a ≡ suc (a - 1) = omega arith in
    sym (ap (kept_at l) e)
