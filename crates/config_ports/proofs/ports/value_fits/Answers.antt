-- `config_ports::ports::value_fits` meets its contract: kind 7 alone is of the family that has a value, and at most 2^width − 1 is below 2^width. Assumes nothing.
use Prim.Native.Nat.{ℕ}
use mathlib.Core.Path.{◌≡◌, refl}
use mathlib.Core.Logic.{◌⊎◌, inl, inr}
use native.Mathlib.Omega.{arith}
use borrow.Author.Tests.{eq-eqb, ne_eqb}
use Rattle.bits.proofs.Bits.{le-ones-lt}
use Rattle.bus.specs.Range.{width}
use Rattle.bus.proofs.Ranges.{width-le}
use Rattle.rules.specs.declared.family.Family as code
use Rattle.rules.specs.declared.family.Family.TheVariants.{Sequence, Time, Transition, Stability}
use Rattle.rules.specs.Config.{family, value_fits}
use Rattle.rules.specs.Config.Family.{sequence, time, transition, value, stability}
use Rattle.rules.specs.Families.{named}
use Rattle.rules.proofs.Families.{kinds}
use Rattle.config_ports.proofs.ports.value_fits.Goals as goal

other : (f : code.Family) (k : ℕ) → (f ≡ Sequence) ⊎ ((f ≡ Time) ⊎ ((f ≡ Transition) ⊎ (f ≡ Stability))) → named f ≡ family k → k ≡ 7 → ⊥
other f k (inl i) e s = omega (arith, kinds k sequence (rw i at e))
other f k (inr (inl i)) e s = omega (arith, kinds k time (rw i at e))
other f k (inr (inr (inl i))) e s = omega (arith, kinds k transition (rw i at e))
other f k (inr (inr (inr i))) e s = omega (arith, kinds k stability (rw i at e))

pub low_ones-requires : goal.low_ones-requires
low_ones-requires c = omega (arith, c.width.ensures, width-le c.args.c.p c.requires)

pub returns-in-Value : goal.returns-in-Value
unfolding value_fits
returns-in-Value c e =
    let a = c.args.c in
    rw (c.low_ones.ensures, c.width.ensures, eq-eqb a.kind 7 (kinds a.kind value (rw c.in-Value.is at e))) (le-ones-lt (width a.p) a.value)

pub returns-in-Sequence : goal.returns-in-Sequence
unfolding value_fits
returns-in-Sequence c e =
    let k = c.args.c.kind in rw (ne_eqb k 7 (other c.args.f k c.in-Sequence.is e)) refl
