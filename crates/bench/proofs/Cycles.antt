-- No refusal of the lengths names a cycle. Assumes nothing.
use Prim.Native.Nat.{ℕ}
use mathlib.Core.Path.{◌≡◌, refl, sym, ◌∙◌}
use mathlib.Core.Bool.{Bool, true, false, cond}
use native.Mathlib.Omega.{arith}
use Rattle.rules.specs.declared.refusal.Refusal.{Refusal}
use Rattle.rules.specs.declared.refusal.Refusal.TheVariants.{Kind, Limits, Ports, TraceLength, SliceLength, EditRange, OpenWord, ListRoom, Checkers}
use Rattle.rules.specs.Refusals.{number_of, cycle_named}
use lib.Dec.{leb}
use Rattle.bench_lengths.specs.Lengths.{lengths_fit, lengths_refusal}

-- only number 7 names one
unnamed : (r : Refusal) → (number_of r ≡ 7 → ⊥) → cycle_named r ≡ 0
unnamed Kind h = refl
unnamed Limits h = refl
unnamed Ports h = refl
unnamed TraceLength h = refl
unnamed SliceLength h = refl
unnamed EditRange h = refl
unnamed (OpenWord cycle) h = absurd (h refl)
unnamed ListRoom h = refl
unnamed Checkers h = refl

-- the refusals of the lengths are 9 and 5
not-seven : (b d : Bool) → ◌≡◌ {A = ℕ} (cond b (cond d 0 5) 9) 7 → ⊥
not-seven true true h = omega arith
not-seven true false h = omega arith
not-seven false d h = omega arith

pub lengths-unnamed : (r : Refusal) (checkers frames words rows : ℕ) → number_of r ≡ lengths_refusal checkers frames words rows → cycle_named r ≡ 0
unfolding lengths_refusal
lengths-unnamed r checkers frames words rows e = unnamed r (λ h. not-seven (leb checkers 64) (lengths_fit checkers frames words rows) (sym e ∙ h))
