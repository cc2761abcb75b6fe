-- A count that is 65,536 too high as a signed number. Assumes nothing.
use Prim.Native.Nat.{ℕ, suc, ◌-◌, ◌^◌, ◌≤◌, ◌<◌}
use mathlib.Core.Path.{◌≡◌, refl, ap, ◌∙◌}
use mathlib.Core.Bool.{Bool, true, false, cond}
use native.Mathlib.Omega.{arith}
use borrow.Author.Tests.{ltb-true, ltb-false}
use lib.Dec.{ltb}
use lib.IntN.{ℤ, pos, negsuc, sub_ℕ, ◌-ℤ◌}
use lib.Signed.{mag}
use mir.Syntax.{w32}
use mir.Val.{SFits, to_z, of_z}
use mir.Facts.{to_z_pos, to_z-of_z}

-- what the subtraction computes
pub less : (n : ℕ) → n ≤ 131072 → to_z w32 n -ℤ pos 65536 ≡ sub_ℕ n 65536
less n h = let l : n < 2 ^ 31 = omega arith in ap (λ (z : ℤ). z -ℤ pos 65536) (to_z_pos w32 l)

-- and that it fits
pub less-fits : (n : ℕ) → n ≤ 131072 → SFits w32 (sub_ℕ n 65536)
less-fits n h = record { sfits = by (ltb n 65536) refl }
  where
    by : (b : Bool) → ltb n 65536 ≡ b → mag (cond b (negsuc (65536 - suc n)) (pos (n - 65536))) < 2 ^ 31
    by true e = omega (arith, ltb-true n 65536 e)
    by false e = omega (arith, ltb-false n 65536 e)

-- a signed number read back from its bits
abbrev back : ℤ → ℤ
back z = to_z w32 (of_z w32 z)

pub less-kept : (z : ℤ) (n : ℕ) → n ≤ 131072 → z ≡ sub_ℕ n 65536 → back z ≡ sub_ℕ n 65536
less-kept z n h e = ap back e ∙ to_z-of_z (less-fits n h)
