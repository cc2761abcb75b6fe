-- One value put into the store: `put_holds`, and what it leaves as it is: `put-kept`. Assumes nothing.
use mathlib.Core.Path.{◌≡◌, refl, ◌∙◌, sym}
use mathlib.Core.Bool.{Bool, true, false, cond}
use mathlib.Core.List.{List}
use Prim.Native.Nat.{ℕ, ◌+◌, ◌-◌, ◌*◌, ◌/◌, ◌%◌, ◌<◌}
use native.Mathlib.Omega.{arith}
use lib.Dec.{eqb}
use lib.ListN.{length, get_or, set, length-set}
use lib.Seq.{get_or-set_same, get_or-set_other}
use borrow.Author.Tests.{eqb-true, eqb-false}
use Rattle.dump.specs.Changes.{word_of}
use Rattle.dump_values.specs.Values.{with_bit, put_wire, put_at}
use Rattle.dump_valued.specs.Valued.{Holds, Kept}
use Rattle.dump_valued.proofs.Words.{set-each, word-put, word-other, word_below}

-- the value bit and the unknown bit
pub value-bit : (v : ℕ) → v < 3 → v % 2 < 2
value-bit v h = omega arith

pub unknown-bit : (v : ℕ) → v < 3 → v / 2 < 2
unknown-bit v h = omega arith

-- another word than the two that are set
module _ (store : List ℕ) (i j a b : ℕ) where
  aside : (k : ℕ) → (k ≡ i → ⊥) → (k ≡ j → ⊥) → get_or (set (set store i a) j b) k 0 ≡ get_or store k 0
  aside k m n = get_or-set_other (set store i a) j k b 0 n ∙ get_or-set_other store i k a 0 m

module _ (store vs : List ℕ) (long : length store ≡ 8468) (h : Holds 8450 8466 store vs) (v : ℕ) (small : v < 3) where
  -- wire i of word u
  module _ (u i : ℕ) (few : u < 4) (low : i < 32) where
    abbrev at : ℕ
    at = 1 + 32 * u + i

    abbrev first : ℕ
    first = with_bit (get_or store (8450 + u) 0) i (v % 2)

    abbrev second : ℕ
    second = with_bit (get_or store (8454 + u) 0) i (v / 2 % 2)

    values : (w : ℕ) → w < 4 → (t : Bool) → eqb w u ≡ t → get_or (put_wire store u i v) (8450 + w) 0 ≡ word_of (λ v. v % 2) (set vs at v) w
    unfolding put_wire
    values w l true e =
        rw (eqb-true w u e, get_or-set_other (set store (8450 + u) first) (8454 + u) (8450 + u) second 0 (λ z. omega arith), get_or-set_same store (8450 + u) first 0 (omega arith), h.values_are u few)
        (word-put (λ v. v % 2) value-bit vs h.each u i v h.size few low small)
    values w l false e =
        let n : (w ≡ u → ⊥) = eqb-false w u e in
        aside store (8450 + u) (8454 + u) first second (8450 + w) (λ z. n (omega arith)) (λ z. omega arith)
        ∙ h.values_are w l ∙ sym (word-other (λ v. v % 2) value-bit vs w u i v n low)

    unknown : (w : ℕ) → w < 4 → (t : Bool) → eqb w u ≡ t → get_or (put_wire store u i v) (8454 + w) 0 ≡ word_of (λ v. v / 2) (set vs at v) w
    unfolding put_wire
    unknown w l true e =
        let b : v / 2 % 2 ≡ v / 2 = omega arith in
        rw (eqb-true w u e, get_or-set_same (set store (8450 + u) first) (8454 + u) second 0 (simp length-set (omega arith)), h.unknown_are u few, b)
        (word-put (λ v. v / 2) unknown-bit vs h.each u i v h.size few low small)
    unknown w l false e =
        let n : (w ≡ u → ⊥) = eqb-false w u e in
        aside store (8450 + u) (8454 + u) first second (8454 + w) (λ z. omega arith) (λ z. n (omega arith))
        ∙ h.unknown_are w l ∙ sym (word-other (λ v. v / 2) unknown-bit vs w u i v n low)

    wire-holds : Holds 8450 8466 (put_wire store u i v) (set vs at v)
    unfolding put_wire
    wire-holds = record {
      size = simp length-set h.size;
      each = set-each 3 vs at v h.each small;
      clock_is =
          aside store (8450 + u) (8454 + u) first second 8466 (λ z. omega arith) (λ z. omega arith)
          ∙ h.clock_is ∙ sym (get_or-set_other vs at 0 v 2 (λ z. omega arith));
      values_are = λ w l. values w l (eqb w u) refl;
      unknown_are = λ w l. unknown w l (eqb w u) refl;
    }

  clock-holds : Holds 8450 8466 (set store 8466 v) (set vs 0 v)
  clock-holds = record {
    size = simp length-set h.size;
    each = set-each 3 vs 0 v h.each small;
    clock_is = get_or-set_same store 8466 v 0 (omega arith) ∙ sym (get_or-set_same vs 0 v 2 (omega (arith, h.size)));
    values_are = λ w l. get_or-set_other store 8466 (8450 + w) v 0 (λ z. omega arith) ∙ h.values_are w l ∙ sym (word_below (λ v. v % 2) value-bit vs w 0 v (omega arith));
    unknown_are = λ w l. get_or-set_other store 8466 (8454 + w) v 0 (λ z. omega arith) ∙ h.unknown_are w l ∙ sym (word_below (λ v. v / 2) unknown-bit vs w 0 v (omega arith));
  }

  pub put_holds : (e : ℕ) → e < 129 → Holds 8450 8466 (put_at store e v) (set vs e v)
  unfolding put_at
  put_holds e l = go (eqb e 0) refl
    where
      go : (t : Bool) → eqb e 0 ≡ t → Holds 8450 8466 (cond (eqb e 0) (set store 8466 v) (put_wire store ((e - 1) / 32) ((e - 1) % 32) v)) (set vs e v)
      go true q = rw (q, eqb-true e 0 q) clock-holds
      go false q =
          let n : (e ≡ 0 → ⊥) = eqb-false e 0 q in
          let a : 1 + 32 * ((e - 1) / 32) + (e - 1) % 32 ≡ e = omega arith in
          rw q (rw a at (wire-holds ((e - 1) / 32) ((e - 1) % 32) (omega arith) (omega arith)))

-- WHAT IS KEPT
module _ (store : List ℕ) (long : length store ≡ 8468) (v : ℕ) where
  wire-kept : (u i : ℕ) → u < 4 → Kept store (put_wire store u i v)
  unfolding put_wire
  wire-kept u i l = record {
    as_long = simp length-set;
    below = λ k h. aside store (8450 + u) (8454 + u) _ _ k (λ z. omega arith) (λ z. omega arith);
    before = λ k h. aside store (8450 + u) (8454 + u) _ _ (8458 + k) (λ z. omega arith) (λ z. omega arith);
    clock = aside store (8450 + u) (8454 + u) _ _ 8467 (λ z. omega arith) (λ z. omega arith);
  }

  clock-kept : Kept store (set store 8466 v)
  clock-kept = record {
    as_long = simp length-set;
    below = λ k h. get_or-set_other store 8466 k v 0 (λ z. omega arith);
    before = λ k h. get_or-set_other store 8466 (8458 + k) v 0 (λ z. omega arith);
    clock = get_or-set_other store 8466 8467 v 0 (λ z. omega arith);
  }

  pub put-kept : (e : ℕ) → e < 129 → Kept store (put_at store e v)
  unfolding put_at
  put-kept e l = go (eqb e 0) refl
    where
      go : (t : Bool) → eqb e 0 ≡ t → Kept store (cond (eqb e 0) (set store 8466 v) (put_wire store ((e - 1) / 32) ((e - 1) % 32) v))
      go true q = rw q clock-kept
      go false q = rw q (wire-kept ((e - 1) / 32) ((e - 1) % 32) (omega arith))
