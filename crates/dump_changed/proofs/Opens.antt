-- A stamp is opened: the values now are copied to those before it. Assumes nothing.
use mathlib.Core.Path.{◌≡◌, refl, ◌∙◌}
use mathlib.Core.Bool.{Bool, true, false}
use mathlib.Core.List.{List}
use Prim.Native.Nat.{ℕ, zero, suc, ◌+◌, ◌<◌, ◌≤◌}
use native.Mathlib.Omega.{arith}
use lib.Dec.{eqb}
use lib.ListN.{length, get_or, set, length-set}
use lib.Seq.{get_or-set_same, get_or-set_other}
use borrow.Author.Tests.{eqb-true, eqb-false}
use Rattle.dump.specs.State.{Declared}
use Rattle.dump.specs.Connections.{Pair}
use Rattle.dump_valued.specs.Valued.{Holds}
use Rattle.dump_valued.proofs.Survivals.{holds_same, declares-below, connected-below}
use Rattle.dump_change.specs.Change as C
use Rattle.dump_changed.specs.Changed.{Tabled}

open-length : (m j : ℕ) (store : List ℕ) → length (C.open_from store j m) ≡ length store
unfolding C.open_from
open-length zero j store = refl
open-length (suc m) j store = open-length m (suc j) (set store (8458 + j) (get_or store (8450 + j) 0)) ∙ length-set store (8458 + j) (get_or store (8450 + j) 0)

-- a word that is not one of those set
open-other : (m j : ℕ) (store : List ℕ) (k : ℕ) → ((i : ℕ) → i < m → k ≡ 8458 + (j + i) → ⊥) → get_or (C.open_from store j m) k 0 ≡ get_or store k 0
unfolding C.open_from
open-other zero j store k h = refl
open-other (suc m) j store k h =
    open-other m (suc j) (set store (8458 + j) (get_or store (8450 + j) 0)) k (λ i l e. h (suc i) (omega arith) (omega arith))
    ∙ get_or-set_other store (8458 + j) k (get_or store (8450 + j) 0) 0 (λ e. h 0 (omega arith) (omega arith))

-- a word that is set; the words copied lie in front of all that are set
open_at : (m j : ℕ) (store : List ℕ) (k : ℕ) → length store ≡ 8468 → j + m ≤ 8 → j ≤ k → k < j + m → get_or (C.open_from store j m) (8458 + k) 0 ≡ get_or store (8450 + k) 0
unfolding C.open_from
open_at zero j store k long few low high = absurd (omega arith)
open_at (suc m) j store k long few low high =
    let one : List ℕ = set store (8458 + j) (get_or store (8450 + j) 0) in
    go (eqb k j) refl (open_at m (suc j) one k (length-set store (8458 + j) (get_or store (8450 + j) 0) ∙ long) (omega arith))
  where
    go : (t : Bool) → eqb k j ≡ t → (suc j ≤ k → k < suc j + m → get_or (C.open_from (set store (8458 + j) (get_or store (8450 + j) 0)) (suc j) m) (8458 + k) 0 ≡ get_or (set store (8458 + j) (get_or store (8450 + j) 0)) (8450 + k) 0)
        → get_or (C.open_from (set store (8458 + j) (get_or store (8450 + j) 0)) (suc j) m) (8458 + k) 0 ≡ get_or store (8450 + k) 0
    go true e ih =
        let q : k ≡ j = eqb-true k j e in
        open-other m (suc j) (set store (8458 + j) (get_or store (8450 + j) 0)) (8458 + k) (λ i l z. omega arith)
        ∙ rw q (get_or-set_same store (8458 + j) (get_or store (8450 + j) 0) 0 (omega arith))
    go false e ih =
        let q : (k ≡ j → ⊥) = eqb-false k j e in
        ih (omega arith) (omega arith) ∙ get_or-set_other store (8458 + j) (8450 + k) (get_or store (8450 + j) 0) 0 (λ z. omega arith)

module _ (store : List ℕ) (long : length store ≡ 8468) where
  abbrev copied : List ℕ
  copied = C.open_from store 0 8

  pub opened-length : length (C.opened store) ≡ length store
  unfolding C.opened
  opened-length = length-set copied 8467 (get_or copied 8466 0) ∙ open-length 8 0 store

  -- all other words stay
  opened-other : (k : ℕ) → (k < 8458) → get_or (C.opened store) k 0 ≡ get_or store k 0
  unfolding C.opened
  opened-other k l = get_or-set_other copied 8467 k (get_or copied 8466 0) 0 (λ z. omega arith) ∙ open-other 8 0 store k (λ i m z. omega arith)

  clock-now : get_or copied 8466 0 ≡ get_or store 8466 0
  clock-now = open-other 8 0 store 8466 (λ i m z. omega arith)

  pub opened-now : (vs : List ℕ) → Holds 8450 8466 store vs → Holds 8450 8466 (C.opened store) vs
  unfolding C.opened
  opened-now vs = holds_same 8450 8466 8450 8466 store (C.opened store) vs (λ k l. opened-other (8450 + k) (omega arith)) (get_or-set_other copied 8467 8466 (get_or copied 8466 0) 0 (λ z. omega arith) ∙ clock-now)

  pub opened-before : (vs : List ℕ) → Holds 8450 8466 store vs → Holds 8458 8467 (C.opened store) vs
  unfolding C.opened
  opened-before vs =
      holds_same 8450 8466 8458 8467 store (C.opened store) vs
      (λ k l. get_or-set_other copied 8467 (8458 + k) (get_or copied 8466 0) 0 (λ z. omega arith) ∙ open_at 8 0 store k long (omega arith) (omega arith) (omega arith))
      (get_or-set_same copied 8467 (get_or copied 8466 0) 0 (omega (arith, open-length 8 0 store)) ∙ clock-now)

-- the words below 8450 are the same
pub tabled-below : (n : ℕ) (s t : List ℕ) (table : List Pair) (d : Declared) → length t ≡ length s → ((k : ℕ) → k < 8450 → get_or t k 0 ≡ get_or s k 0) → Tabled n s table d → Tabled n t table d
tabled-below n s t table d as_long low h = record {
  long = as_long ∙ h.long;
  declares = declares-below s t low n d as_long h.declares;
  connected = connected-below s t low n d table h.declares.few h.connected;
  narrow = λ i l. let few : n ≤ 1024 = h.declares.few in rw (low (1024 + i) (omega arith)) (h.narrow i l);
}

pub tabled_opened : (n : ℕ) (store : List ℕ) (table : List Pair) (d : Declared) → Tabled n store table d → Tabled n (C.opened store) table d
tabled_opened n store table d h = tabled-below n store (C.opened store) table d (opened-length store h.long) (λ k l. opened-other store h.long k (omega arith)) h
