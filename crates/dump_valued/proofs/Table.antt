-- The table in the store is tested as the definition does it: `table-good`. Assumes nothing.
use mathlib.Core.Path.{◌≡◌, refl, ◌∙◌, sym, ap}
use mathlib.Core.Bool.{Bool, true, false, cond, not, ◌&&◌, ◌||◌, or-true}
use mathlib.Core.List.{List, [], ◌∷◌}
use Prim.Native.Nat.{ℕ, zero, suc, ◌+◌, ◌*◌, ◌<◌, ◌≤◌}
use native.Mathlib.Omega.{arith}
use lib.Dec.{eqb, ltb, leb}
use lib.ListN.{length, get_or, drop, drop_of_length-le}
use lib.Seq.{drop-cons}
use borrow.Author.Tests.{ne_eqb, le-leb, lt-leb, ltb-true, ltb-false, leb-false}
use Rattle.dump.specs.State.{Declared}
use Rattle.dump.specs.Declarations.{index_of, real_at}
use Rattle.dump.specs.Connections.{Pair, pairs, connected, between, left_of, right_of, good, all_good, good_table}
use Rattle.dump_values.specs.Values.{is_between_ends, good_at, good_entry, good_from, table_good}
use Rattle.dump_valued.specs.Valued.{Declares, Wired, entry_at}

-- THE PAIRS of a table
pub pairs-length : (k : ℕ) (ws : List ℕ) → length ws ≡ 2 * k → length (pairs ws) ≡ k
unfolding pairs
pairs-length zero [] e = refl
pairs-length (suc k) [] e = absurd (omega arith)
pairs-length zero (c ∷ ws) e = absurd (omega arith)
pairs-length (suc k) (c ∷ []) e = absurd (omega arith)
pairs-length (suc k) (c ∷ i ∷ ws) e = ap suc (pairs-length k ws (omega arith))

pub pairs-at : (ws : List ℕ) (e : ℕ) → suc (2 * e) < length ws → entry_at (pairs ws) e ≡ record { code = get_or ws (2 * e) 0; index = get_or ws (suc (2 * e)) 0 }
unfolding pairs
pairs-at [] e h = absurd (omega arith)
pairs-at (c ∷ []) e h = absurd (omega arith)
pairs-at (c ∷ i ∷ ws) zero h = refl
pairs-at (c ∷ i ∷ ws) (suc e) h =
    let f : 2 * suc e ≡ suc (suc (2 * e)) = omega arith in
    rw f (pairs-at ws e (omega arith))

-- an index between the ends of a range
pub between_ends : (k l r : ℕ) → is_between_ends k l r ≡ between k l r
unfolding is_between_ends
between_ends k l r = go (ltb l r) refl (ltb k l) refl (ltb k r) refl
  where
    go : (s : Bool) → ltb l r ≡ s → (t : Bool) → ltb k l ≡ t → (u : Bool) → ltb k r ≡ u
        → cond s (cond t false (leb k r)) (cond u false (leb k l)) ≡ (leb l k && leb k r || leb r k && leb k l)
    go true e true f u g =
        let a : l < r = ltb-true l r e in
        let b : k < l = ltb-true k l f in
        rw (lt-leb l k b, lt-leb r k (omega arith))
    go true e false f u g =
        let a : l < r = ltb-true l r e in
        let b : l ≤ k = ltb-false k l f in
        rw (le-leb l k b) (top (leb k r) refl)
      where
        top : (t : Bool) → leb k r ≡ t → t ≡ (t || leb r k && leb k l)
        top true q = refl
        top false q = let a : l < r = ltb-true l r e in rw (lt-leb k l (omega (arith, leb-false k r q))) (none (leb r k))
          where
            none : (t : Bool) → false ≡ (t && false)
            none true = refl
            none false = refl
    go false e t f true g =
        let a : r ≤ l = ltb-false l r e in
        let b : k < r = ltb-true k r g in
        rw (lt-leb l k (omega arith), lt-leb r k b)
    go false e t f false g =
        let a : r ≤ l = ltb-false l r e in
        let b : r ≤ k = ltb-false k r g in
        rw (le-leb r k b) (low (leb k l) refl (leb l k) refl)
      where
        low : (s : Bool) → leb k l ≡ s → (t : Bool) → leb l k ≡ t → s ≡ (t && leb k r || s)
        low s q false p = refl
        low true q true p = sym (or-true (leb k r))
        low false q true p = let a : r ≤ l = ltb-false l r e in rw (lt-leb k r (omega (arith, leb-false k l q)))

module _ (store : List ℕ) (n : ℕ) (d : Declared) (wires : List ℕ) (declares : Declares store n d) (wired : Wired store wires) where
  pub code-word : (e : ℕ) → e < 129 → get_or store (8192 + 2 * e) 0 ≡ (entry_at (pairs wires) e).code
  code-word e l = wired.wire_is (2 * e) (omega arith) ∙ sym (ap (λ (p : Pair). p.code) (pairs-at wires e (omega (arith, wired.size))))

  pub index_word : (e : ℕ) → e < 129 → get_or store (8193 + 2 * e) 0 ≡ (entry_at (pairs wires) e).index
  index_word e l =
      let f : 8193 + 2 * e ≡ 8192 + suc (2 * e) = omega arith in
      rw f (wired.wire_is (suc (2 * e)) (omega arith)) ∙ sym (ap (λ (p : Pair). p.index) (pairs-at wires e (omega (arith, wired.size))))

  pub table-length : length (pairs wires) ≡ 129
  table-length = pairs-length 129 wires wired.size

  -- ONE PAIR, of entry e
  module _ (e : ℕ) (l : e < 129) where
    abbrev pair : Pair
    pair = entry_at (pairs wires) e

    abbrev place : ℕ
    place = index_of d.codes pair.code

    good-at : good_at store n e place ≡ good d pair
    unfolding good_at good
    good-at = rw (declares.count, index_word e l) (go (ltb place n) refl)
      where
        bits : (t : Bool) (a b : Bool) → a ≡ b → cond t false a ≡ (true && not t && b)
        bits true a b q = refl
        bits false a b q = q

        go : (t : Bool) → ltb place n ≡ t
            → cond (ltb place n) (cond (eqb (get_or store (2048 + place) 0) 2) false (is_between_ends pair.index (get_or store (3072 + place) 0) (get_or store (4096 + place) 0))) false
            ≡ (ltb place n && not (real_at d place) && between pair.index (get_or d.lefts place 0) (get_or d.rights place 0))
        go true q =
            let m : place < n = ltb-true place n q in
            rw (q, declares.sort_is place m, declares.left_is place m, declares.right_is place m)
            (bits (real_at d place) _ _ (between_ends pair.index (get_or d.lefts place 0) (get_or d.rights place 0)))
        go false q = rw q

    good-entry : good_entry store n e ≡ (not (connected pair) || good d pair)
    unfolding good_entry
    good-entry = rw (code-word e l, declares.finds pair.code, good-at) (go (eqb pair.code 0))
      where
        go : (t : Bool) → cond t true (good d pair) ≡ (not (not t) || good d pair)
        go true = refl
        go false = refl

  -- ALL PAIRS
  good-from : (k e : ℕ) → e + k ≡ 129 → good_from store n e k ≡ all_good d (drop e (pairs wires))
  unfolding good_from all_good
  good-from zero e q = rw (drop_of_length-le (pairs wires) {i = e} (omega (arith, table-length)))
  good-from (suc k) e q =
      rw (drop-cons (pairs wires) e (record { code = 0; index = 0 }) (omega (arith, table-length)), good-entry e (omega arith), good-from k (suc e) (omega arith))
      (go (not (connected (entry_at (pairs wires) e)) || good d (entry_at (pairs wires) e)) (all_good d (drop (suc e) (pairs wires))))
    where
      go : (s t : Bool) → cond s t false ≡ (s && t)
      go true t = refl
      go false t = refl

  good-table : (ps : List Pair) → 0 < length ps → good_table d ps ≡ (connected (entry_at ps 0) && all_good d ps)
  unfolding good_table
  good-table [] h = absurd (omega arith)
  good-table (p ∷ ps) h = refl

  pub table-good : table_good store n ≡ good_table d (pairs wires)
  unfolding table_good
  table-good =
      rw (code-word 0 (omega arith), good-from 129 0 refl, good-table (pairs wires) (omega (arith, table-length))) (go (eqb (entry_at (pairs wires) 0).code 0))
    where
      go : (t : Bool) → cond t false (all_good d (pairs wires)) ≡ (not t && all_good d (pairs wires))
      go true = refl
      go false = refl

-- A GOOD TABLE: where an entry is connected, its code is declared
both : (s t : Bool) → s && t ≡ true → (s ≡ true) × (t ≡ true)
both true t e = (refl, e)
both false t e = let z : ◌≡◌ {A = ℕ} 0 1 = cc in absurd (omega arith)

good-declared : (d : Declared) (ps : List Pair) → all_good d ps ≡ true → (j : ℕ) → j < length ps → 0 < (entry_at ps j).code → index_of d.codes (entry_at ps j).code < length d.codes
unfolding all_good good
good-declared d [] g j l c = absurd (omega arith)
good-declared d (p ∷ ps) g zero l c =
    let (a, b) = both (not (connected p) || good d p) (all_good d ps) g in
    let e : good d p ≡ true = rw (ne_eqb p.code 0 (λ z. omega arith)) at a in
    let i = index_of d.codes p.code in
    let (k, r) = both (ltb i (length d.codes) && not (real_at d i)) (between p.index (left_of d p.code) (right_of d p.code)) e in
    ltb-true i (length d.codes) (both (ltb i (length d.codes)) (not (real_at d i)) k).0
good-declared d (p ∷ ps) g (suc j) l c = good-declared d ps (both (not (connected p) || good d p) (all_good d ps) g).1 j (omega arith) c

pub table-declared : (d : Declared) (ps : List Pair) → good_table d ps ≡ true → (j : ℕ) → j < length ps → 0 < (entry_at ps j).code → index_of d.codes (entry_at ps j).code < length d.codes
unfolding good_table
table-declared d [] g j l c = absurd (omega arith)
table-declared d (p ∷ ps) g j l c = good-declared d (p ∷ ps) (both (connected p) (all_good d (p ∷ ps)) g).1 j l c
