-- `bus::range::Range::width` meets its contract: in each direction the distance is one of the two differences. Assumes nothing.
use Prim.Native.Nat.{ℕ, suc, ◌+◌, ◌-◌}
use mathlib.Core.Path.{◌≡◌, refl, ◌∙◌}
use mathlib.Core.Bool.{Bool, true, false, cond}
use native.Mathlib.Omega.{arith}
use lib.Dec.{leb}
use borrow.Author.Tests.{leb-true, leb-false}
use Rattle.bus.specs.Range.{width}
use Rattle.bus.specs.declared.range.Range.{Range}
use Rattle.bus.proofs.range.Range.width.Goals as goal

distance : (r : Range) (d : ℕ) → d ≡ (r.left - r.right) + (r.right - r.left) → d + 1 ≡ width r
unfolding width
distance r d e = by (leb r.right r.left) refl
  where
    by : (b : Bool) → leb r.right r.left ≡ b → d + 1 ≡ suc (cond b (r.left - r.right) (r.right - r.left))
    by true f = omega (arith, leb-true r.right r.left f)
    by false f = omega (arith, leb-false r.right r.left f)

pub returns : goal.returns
returns c = distance c.args.self _ (c.from.ensures ∙ c.abs_diff.ensures)
