-- Windows of n cycles after a start, for the kinds that have them (`Time`, `Trigger`). Assumes nothing.
use Rattle.std.specs.Prelude.{ℕ, zero, suc, ◌+◌, Bool, ◌&&◌, ◌||◌, cond, leb, ltb}
use Rattle.bits.specs.Bits.{some, every}

-- f holds in each cycle after s and before t
unfoldable pub between : ℕ → ℕ → (ℕ → Bool) → Bool
between s t f = every t (λ u. leb u s || f u)

-- t is one of the n cycles after s, and f holds in each cycle between
abbrev pub window_after : ℕ → (ℕ → Bool) → ℕ → ℕ → Bool
window_after n f s t = ltb s t && leb t (s + n) && between s t f

-- g at the last number below k at which f holds, and 0 where there is none
unfoldable pub at_last : ℕ → (ℕ → Bool) → (ℕ → ℕ) → ℕ
at_last zero f g = 0
at_last (suc k) f g = cond (f k) (g k) (at_last k f g)

-- g at the first number below k at which f holds, and 0 where there is none
unfoldable pub at_first : ℕ → (ℕ → Bool) → (ℕ → ℕ) → ℕ
at_first zero f g = 0
at_first (suc k) f g = cond (some k f) (at_first k f g) (cond (f k) (g k) 0)
