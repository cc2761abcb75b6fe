-- `config_limits::limits::min_fits` meets its contract: the kinds up to 6 are those of the families that do not use min. Assumes nothing.
use Prim.Native.Nat.{ℕ, ◌≤◌, ◌<◌}
use mathlib.Core.Path.{◌≡◌, refl}
use mathlib.Core.Logic.{◌⊎◌, inl, inr}
use native.Mathlib.Omega.{arith}
use borrow.Author.Tests.{le-leb, lt-leb}
use Rattle.rules.specs.declared.family.Family as code
use Rattle.rules.specs.declared.family.Family.TheVariants.{Sequence, Time, Transition, Value, Stability}
use Rattle.rules.specs.Config.{family, min_fits}
use Rattle.rules.specs.Config.Family.{sequence, time, transition, value, stability}
use Rattle.rules.specs.Families.{named}
use Rattle.rules.proofs.Families.{kinds}
use Rattle.config_limits.proofs.limits.min_fits.Goals as goal

low : (f : code.Family) (k : ℕ) → (f ≡ Sequence) ⊎ ((f ≡ Time) ⊎ (f ≡ Transition)) → named f ≡ family k → k ≤ 6
low f k (inl i) e = omega (arith, kinds k sequence (rw i at e))
low f k (inr (inl i)) e = omega (arith, kinds k time (rw i at e))
low f k (inr (inr i)) e = omega (arith, kinds k transition (rw i at e))

high : (f : code.Family) (k : ℕ) → (f ≡ Value) ⊎ (f ≡ Stability) → named f ≡ family k → 6 < k
high f k (inl i) e = omega (arith, kinds k value (rw i at e))
high f k (inr i) e = omega (arith, kinds k stability (rw i at e))

pub returns-in-Sequence : goal.returns-in-Sequence
unfolding min_fits
returns-in-Sequence c e =
    let k = c.args.c.kind in rw (le-leb k 6 (low c.args.f k c.in-Sequence.is e)) refl

pub returns-in-Value : goal.returns-in-Value
unfolding min_fits
returns-in-Value c e =
    let k = c.args.c.kind in rw (lt-leb k 6 (high c.args.f k c.in-Value.is e)) refl
