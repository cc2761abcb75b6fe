-- The store at the start: nothing declared, and the table: `fresh_start`. Assumes nothing.
use mathlib.Core.Path.{◌≡◌, refl, ◌∙◌}
use mathlib.Core.List.{List}
use Prim.Native.Nat.{ℕ, zero, suc, ◌+◌, ◌<◌, ◌≤◌}
use native.Mathlib.Omega.{arith}
use lib.ListN.{length, get_or, set, replicate, length-set, length-replicate, get_or-replicate}
use lib.Seq.{get_or-set_same, get_or-set_other}
use Rattle.dump_read.specs.Declaring.{Fresh}
use Rattle.dump_load.specs.Loading.{table_from}

table-length : (m k : ℕ) (store wires : List ℕ) → length (table_from store wires k m) ≡ length store
unfolding table_from
table-length zero k store wires = refl
table-length (suc m) k store wires = table-length m (suc k) (set store (8192 + k) (get_or wires k 0)) wires ∙ length-set store (8192 + k) (get_or wires k 0)

-- a word outside those that are set
table-other : (m k : ℕ) (store wires : List ℕ) (i : ℕ) → ((j : ℕ) → j < m → i ≡ 8192 + (k + j) → ⊥) → get_or (table_from store wires k m) i 0 ≡ get_or store i 0
unfolding table_from
table-other zero k store wires i out = refl
table-other (suc m) k store wires i out =
    table-other m (suc k) (set store (8192 + k) (get_or wires k 0)) wires i (λ j l e. out (suc j) (omega arith) (omega arith))
    ∙ get_or-set_other store (8192 + k) i (get_or wires k 0) 0 (λ e. out 0 (omega arith) (omega arith))

-- and one of them
table_at : (m k : ℕ) (store wires : List ℕ) (j : ℕ) → j < m → 8192 + (k + m) ≤ length store → get_or (table_from store wires k m) (8192 + (k + j)) 0 ≡ get_or wires (k + j) 0
unfolding table_from
table_at zero k store wires j l f = absurd (omega arith)
table_at (suc m) k store wires zero l f =
    let z : k + 0 ≡ k = omega arith in
    rw z (table-other m (suc k) (set store (8192 + k) (get_or wires k 0)) wires (8192 + k) (λ i n e. omega arith) ∙ get_or-set_same store (8192 + k) (get_or wires k 0) 0 (omega arith))
table_at (suc m) k store wires (suc j) l f =
    let z : k + suc j ≡ suc k + j = omega arith in
    rw z (table_at m (suc k) (set store (8192 + k) (get_or wires k 0)) wires j (omega arith) (rw (length-set store (8192 + k) (get_or wires k 0)) (omega arith)))

-- over any store of zeros, so that none is computed
fresh : (zeros wires : List ℕ) → length zeros ≡ 8468 → ((i : ℕ) → i < 8468 → get_or zeros i 0 ≡ 0) → length wires ≡ 258 → Fresh (table_from zeros wires 0 258) wires
fresh zeros wires l z e = record {
  long = table-length 258 0 zeros wires ∙ l;
  size = e;
  below = λ k h. table-other 258 0 zeros wires k (λ j i f. omega arith) ∙ z k (omega arith);
  wire_is = λ k h. let f : 0 + k ≡ k = omega arith in rw f at (table_at 258 0 zeros wires k h (omega arith));
  behind = λ k h. table-other 258 0 zeros wires (8450 + k) (λ j i f. omega arith) ∙ z (8450 + k) (omega arith);
}

pub fresh_start : (wires : List ℕ) → length wires ≡ 258 → Fresh (table_from (replicate 8468 0) wires 0 258) wires
fresh_start wires e = fresh (replicate 8468 0) wires (length-replicate {A = ℕ} 8468 0) (λ i h. get_or-replicate {A = ℕ} 8468 i 0 0 h) e
