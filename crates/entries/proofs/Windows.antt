-- The entries of a time check by the marks 1 and 2: one for each. Assumes nothing.
use Prim.Native.Nat.{ℕ, zero, suc, ◌+◌, ◌/◌, ◌%◌, ◌<◌}
use mathlib.Core.Path.{◌≡◌, refl, ap}
use mathlib.Core.List.{[], ◌∷◌}
use native.Mathlib.Omega.{arith}
use lib.ListN.{length}
use Rattle.bits.specs.Bits.{bit}
use Rattle.listed.specs.Lists.{entry}
use Rattle.entries.specs.Entries.{window_entries}

pub one_entry : (m t s : ℕ) → 0 < m → m < 3 → window_entries (bit m 0) (bit m 1) t s ≡ entry t m s ∷ []
unfolding window_entries bit
one_entry zero t s l h = absurd (omega arith)
one_entry (suc zero) t s l h = refl
one_entry (suc (suc zero)) t s l h = refl
one_entry (suc (suc (suc m))) t s l h = absurd (omega arith)

pub two-entries : (m t s : ℕ) → m ≡ 3 → window_entries (bit m 0) (bit m 1) t s ≡ entry t 1 s ∷ entry t 2 s ∷ []
unfolding window_entries bit
two-entries m t s e = ap (λ (x : ℕ). window_entries (bit x 0) (bit x 1) t s) e

pub window-length : (m t s : ℕ) → m < 4 → length (window_entries (bit m 0) (bit m 1) t s) ≡ m % 2 + m / 2
unfolding window_entries bit
window-length zero t s h = refl
window-length (suc zero) t s h = refl
window-length (suc (suc zero)) t s h = refl
window-length (suc (suc (suc zero))) t s h = refl
window-length (suc (suc (suc (suc m)))) t s h = absurd (omega arith)
