-- Laws that the proofs of the values cite. Assumes nothing.
use mathlib.Core.Path.{◌≡◌, refl, ◌∙◌, sym}
use mathlib.Core.Bool.{true, false}
use mathlib.Core.List.{List}
use Prim.Native.Nat.{ℕ, suc, ◌+◌, ◌-◌, ◌*◌, ◌%◌, ◌^◌, ◌<◌, ◌≤◌}
use native.Mathlib.Omega.{arith}
use native.Mathlib.Nat.{mod-eq_of_lt, pow-le-pow_right, one-mul, lt_of_le_of_lt}
use lib.Dec.{lit<}
use lib.ListN.{get_or}
use borrow.Author.Tests.{eq-eqb, ne_eqb}
use Rattle.dump_values.specs.Values.{change_entry, change_from, span_start, span_end, bits_changed, good_entry, good_from, table_good, connect_entry, connect_from}

pub one_shifted : (i : ℕ) → i < 32 → 1 * 2 ^ i % 2 ^ 64 ≡ 2 ^ i
one_shifted i h =
    let low : 2 ^ i ≤ 2 ^ 32 = pow-le-pow_right (lit< tt) {i = i} {j = 32} (omega arith) in
    rw (one-mul (2 ^ i)) (mod-eq_of_lt (lt_of_le_of_lt low (lit< tt)))

-- LOOPS over entries: one more entry, and none left
module _ (store digits : List ℕ) (count x e to : ℕ) where
  pub change-more : e < to → change_from store digits count x e (to - e) ≡ change_from (change_entry store digits count x e) digits count x (e + 1) (to - (e + 1))
  unfolding change_from
  change-more h =
      let one : e + 1 ≡ suc e = omega arith in
      let left : to - e ≡ suc (to - (e + 1)) = omega arith in
      rw (left, one) refl

  pub change-end : to ≤ e → change_from store digits count x e (to - e) ≡ store
  unfolding change_from
  change-end h = let none : to - e ≡ 0 = omega arith in rw none refl

module _ (store : List ℕ) (n e : ℕ) where
  pub connect-more : e < 129 → connect_from store n e (129 - e) ≡ connect_from (connect_entry store n e) n (e + 1) (129 - (e + 1))
  unfolding connect_from
  connect-more h =
      let one : e + 1 ≡ suc e = omega arith in
      let left : 129 - e ≡ suc (129 - (e + 1)) = omega arith in
      rw (left, one) refl

  pub connect-end : 129 ≤ e → connect_from store n e (129 - e) ≡ store
  unfolding connect_from
  connect-end h = let none : 129 - e ≡ 0 = omega arith in rw none refl

  pub good_more : e < 129 → good_entry store n e ≡ true → good_from store n e (129 - e) ≡ good_from store n (e + 1) (129 - (e + 1))
  unfolding good_from
  good_more h g =
      let one : e + 1 ≡ suc e = omega arith in
      let left : 129 - e ≡ suc (129 - (e + 1)) = omega arith in
      rw (left, one) (simp g)

  pub good-not : e < 129 → good_entry store n e ≡ false → good_from store n e (129 - e) ≡ false
  unfolding good_from
  good-not h g = let left : 129 - e ≡ suc (129 - (e + 1)) = omega arith in rw left (simp g)

  pub good-end : 129 ≤ e → good_from store n e (129 - e) ≡ true
  unfolding good_from
  good-end h = let none : 129 - e ≡ 0 = omega arith in rw none refl

-- the clock is connected, and the entries from e on decide
module _ (store : List ℕ) (n e : ℕ) (clock : get_or store 8192 0 ≡ 0 → ⊥) (inv : good_from store n 0 129 ≡ good_from store n e (129 - e)) where
  from-there : table_good store n ≡ good_from store n e (129 - e)
  unfolding table_good
  from-there = simp (ne_eqb (get_or store 8192 0) 0 clock) inv

  pub table-not : e < 129 → good_entry store n e ≡ false → false ≡ table_good store n
  table-not h g = sym (from-there ∙ good-not store n e h g)

  pub table-all : 129 ≤ e → true ≡ table_good store n
  table-all h = sym (from-there ∙ good-end store n e h)

pub no-clock : (store : List ℕ) (n : ℕ) → get_or store 8192 0 ≡ 0 → false ≡ table_good store n
unfolding table_good
no-clock store n e = sym (simp (eq-eqb (get_or store 8192 0) 0 e))

pub change-all : (store digits : List ℕ) (count x i e to : ℕ) → e ≡ span_start (get_or store (5120 + i) 0) → to ≡ span_end (get_or store (5120 + i) 0) → change_from store digits count x e (to - e) ≡ bits_changed store digits count x i
unfolding bits_changed
change-all store digits count x i e to p q = rw (p, q) refl
