-- Numbers that are stored one behind the other. Assumes nothing.
use Prim.Native.Nat.{ℕ, suc, ◌+◌}
use mathlib.Core.Path.{◌≡◌, sym, ap, ◌∙◌}
use mathlib.Core.List.{List, [], ◌∷◌, ◌++◌}
use native.Mathlib.Nat.{add-zero}
use native.Mathlib.Omega.{arith}
use lib.ListN.{length, set}
use lib.Seq.{sets}

-- two runs of stores, the second behind the first, are one
pub sets-append : (l : List ℕ) (i : ℕ) (vs ws : List ℕ) → sets l i (vs ++ ws) ≡ sets (sets l i vs) (i + length vs) ws
sets-append l i [] ws = ap (λ (k : ℕ). sets l k ws) (sym (add-zero i))
sets-append l i (v ∷ vs) ws =
    let k : suc i + length vs ≡ i + suc (length vs) = omega arith in
    sets-append (set l i v) (suc i) vs ws ∙ ap (λ (j : ℕ). sets (sets (set l i v) (suc i) vs) j ws) k
