-- The first failure's answer packed into one number. Assumes nothing.
use Prim.Native.Nat.{ℕ, ◌+◌, ◌*◌, ◌/◌, ◌%◌, ◌<◌}
use mathlib.Core.Path.{◌≡◌, refl, sym}
use mathlib.Core.Bool.{Bool, true, false}
use mathlib.Core.List.{List}
use native.Mathlib.Omega.{arith}
use lib.Dec.{eqb}
use lib.ListN.{length}
use Rattle.first_failure.specs.Search.{SearchAnswer}
use Rattle.first_failure.proofs.Refusals.{fitting}

module _ (checkers cycles : ℕ) (rows : List ℕ) where
  -- the numbers that an answer is read as
  abbrev pub Unpacked : ℕ → Type 0
  Unpacked x = SearchAnswer checkers cycles rows (x / 4294967296) (eqb (x / 2147483648 % 2) 1) (x / 65536 % 32768) (x % 65536)

  from : (x r k t d : ℕ) (f : Bool) → x / 4294967296 ≡ r → x / 2147483648 % 2 ≡ d → eqb d 1 ≡ f → x / 65536 % 32768 ≡ k → x % 65536 ≡ t
      → SearchAnswer checkers cycles rows r f k t → Unpacked x
  from x r k t d f er ed ef ek et a = rw (er, ed, ef, ek, et) a

  -- what is found lies among 64 checkers and 65,536 cycles
  pub record Small (k t : ℕ) : Type 0 where
    pub checker-low : k < 64
    pub cycle-low : t < 65536

  pub small : (k t : ℕ) → SearchAnswer checkers cycles rows 0 true k t → Small k t
  small k t a =
      let fits = fitting checkers cycles (length rows) (sym a.refusal_is) in
      let first = (a.done refl).first refl in
      record { checker-low = omega (arith, fits.few, first.in_checkers); cycle-low = omega (arith, fits.short, first.in_cycles) }

  pub found-packed : (k t : ℕ) → SearchAnswer checkers cycles rows 0 true k t → Unpacked (2147483648 + 65536 * k + t)
  found-packed k t a =
      let s = small k t a in
      from (2147483648 + 65536 * k + t) 0 k t 1 true (omega (arith, s)) (omega (arith, s)) refl (omega (arith, s)) (omega (arith, s)) a
