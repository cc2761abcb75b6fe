-- Two numbers packed into one, and had again by division. Assumes nothing.
use Prim.Native.Nat.{ℕ, ◌+◌, ◌*◌, ◌/◌, ◌%◌, ◌<◌}
use mathlib.Core.Path.{◌≡◌, ◌∙◌}
use native.Mathlib.Nat.{mul-add-div, mul-add-mod_self_left, mod-eq_of_lt, div-eq_of_lt}
use native.Mathlib.Omega.{arith}

module _ (m high low : ℕ) (small : low < m) where
  pub high-of : (m * high + low) / m ≡ high
  high-of = mul-add-div (omega arith) high low ∙ omega (arith, div-eq_of_lt small)

  pub low_of : (m * high + low) % m ≡ low
  low_of = mul-add-mod_self_left m high low ∙ mod-eq_of_lt small

  -- what holds of the two holds of them as they are had again
  pub unpacked : (P : ℕ → ℕ → Type 0) → P high low → P ((m * high + low) / m) ((m * high + low) % m)
  unpacked P h = rw (high-of, low_of) h
