-- The values at first: `first_holds`, none in the store, and `first-puts`, unknown where an entry is connected. Assumes nothing.
use mathlib.Core.Path.{◌≡◌, refl, ◌∙◌, sym, ap}
use mathlib.Core.Bool.{Bool, cond}
use mathlib.Core.List.{List, [], ◌∷◌}
use Prim.Native.Nat.{ℕ, zero, suc, ◌+◌, ◌/◌, ◌%◌, ◌<◌}
use native.Mathlib.Omega.{arith}
use lib.ListN.{length, get_or, replicate}
use lib.Seq.{ext_get_or}
use Rattle.dump.specs.Connections.{Pair, connected, at_first}
use Rattle.dump.specs.Changes.{word_of, packed}
use Rattle.dump_valued.specs.Valued.{Holds, entry_at}
use Rattle.dump_valued.proofs.Puts.{puts_from, puts-length, puts-at}

zeros-at : (n e : ℕ) → ◌≡◌ {A = ℕ} (get_or (replicate n 0) e 0) 0
zeros-at zero e = refl
zeros-at (suc n) zero = refl
zeros-at (suc n) (suc e) = zeros-at n e

pub first_holds : (s : List ℕ) → ((k : ℕ) → k < 18 → get_or s (8450 + k) 0 ≡ 0) → Holds 8450 8466 s (replicate 129 0)
unfolding packed
first_holds s z = record {
  size = refl;
  each = λ e. omega (arith, zeros-at 129 e);
  clock_is = z 16 (omega arith);
  values_are = λ w l. z w (omega arith) ∙ values w l;
  unknown_are = λ w l. let e : 8454 + w ≡ 8450 + (4 + w) = omega arith in rw e (z (4 + w) (omega arith)) ∙ unknown w l;
}
  where
    values : (w : ℕ) → w < 4 → 0 ≡ word_of (λ v. v % 2) (replicate 129 0) w
    values zero l = refl
    values (suc zero) l = refl
    values (suc (suc zero)) l = refl
    values (suc (suc (suc zero))) l = refl
    values (suc (suc (suc (suc w)))) l = absurd (omega arith)

    unknown : (w : ℕ) → w < 4 → 0 ≡ word_of (λ v. v / 2) (replicate 129 0) w
    unknown zero l = refl
    unknown (suc zero) l = refl
    unknown (suc (suc zero)) l = refl
    unknown (suc (suc (suc zero))) l = refl
    unknown (suc (suc (suc (suc w)))) l = absurd (omega arith)

first-length : (ps : List Pair) → length (at_first ps) ≡ length ps
unfolding at_first
first-length [] = refl
first-length (p ∷ ps) = ap suc (first-length ps)

first-at : (ps : List Pair) (j : ℕ) → j < length ps → get_or (at_first ps) j 0 ≡ cond (connected (entry_at ps j)) 2 0
unfolding at_first
first-at [] j h = absurd (omega arith)
first-at (p ∷ ps) zero h = refl
first-at (p ∷ ps) (suc j) h = first-at ps j (omega arith)

module _ (ps : List Pair) (size : length ps ≡ 129) where
  abbrev test : ℕ → Bool
  test e = connected (entry_at ps e)

  abbrev put : List ℕ
  put = puts_from test (λ _. 2) (replicate 129 0) 0 129

  pub first-puts : put ≡ at_first ps
  first-puts =
      let m : length put ≡ 129 = puts-length test (λ _. 2) 129 (replicate 129 0) 0 in
      ext_get_or 0 put (at_first ps) (m ∙ sym size ∙ sym (first-length ps))
      (λ j l. puts-at test (λ _. 2) 129 (replicate 129 0) 0 j (omega arith) (λ _. omega arith) ∙ rw (zeros-at 129 j) (sym (first-at ps j (omega arith))))
