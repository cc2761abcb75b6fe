-- The span of a code's entries, and one entry more. Assumes nothing.
use mathlib.Core.Path.{◌≡◌, refl}
use mathlib.Core.Bool.{Bool, true, false, cond}
use Prim.Native.Nat.{ℕ, suc, ◌+◌, ◌*◌, ◌/◌, ◌%◌, ◌<◌, ◌≤◌}
use native.Mathlib.Omega.{arith}
use lib.Dec.{eqb, ltb}
use borrow.Author.Tests.{eqb-true, ltb-true, ltb-false}
use Rattle.dump_values.specs.Values.{span_end, span_with}

-- the end, at most 129
pub end-le : (span : ℕ) → span_end span ≤ 129
unfolding span_end
end-le span = go (ltb (span / 256) 129) refl
  where
    go : (t : Bool) → ltb (span / 256) 129 ≡ t → cond t (span / 256) 129 ≤ 129
    go true e = omega (arith, ltb-true (span / 256) 129 e)
    go false e = omega arith

end_is : (start end : ℕ) → start < 256 → end ≤ 129 → span_end (start + 256 * end) ≡ end
unfolding span_end
end_is start end h k = let q : (start + 256 * end) / 256 ≡ end = omega arith in rw q (go (ltb end 129) refl)
  where
    go : (t : Bool) → ltb end 129 ≡ t → cond t end 129 ≡ end
    go true e = refl
    go false e = omega (arith, ltb-false end 129 e)

-- ONE ENTRY MORE, e, where all before it are below e
module _ (span e : ℕ) (few : e < 129) (start : span % 256 ≤ e) where
  pub with-start : span_with span e % 256 ≤ suc e
  unfolding span_with
  with-start = go (eqb span 0)
    where
      go : (t : Bool) → cond t (e + 256 * (e + 1)) (span % 256 + 256 * (e + 1)) % 256 ≤ suc e
      go true = omega arith
      go false = omega arith

  -- an entry of the new span: e, or one of the old span
  pub with-entry : (j : ℕ) → j ≤ e → (j < e → (span % 256 ≤ j) × (j < span_end span)) → (span_with span e % 256 ≤ j) × (j < span_end (span_with span e))
  unfolding span_with
  with-entry j l old = go (eqb span 0) refl
    where
      go : (t : Bool) → eqb span 0 ≡ t
          → (cond t (e + 256 * (e + 1)) (span % 256 + 256 * (e + 1)) % 256 ≤ j) × (j < span_end (cond t (e + 256 * (e + 1)) (span % 256 + 256 * (e + 1))))
      go true q =
          let none : (j < e → ⊥) = λ h. let (a, b) = old h in let c : j < span_end 0 = rw (eqb-true span 0 q) at b in omega (arith, end_is 0 0 (omega arith) (omega arith)) in
          rw (end_is e (e + 1) (omega arith) (omega arith)) (omega arith)
      go false q = rw (end_is (span % 256) (e + 1) (omega arith) (omega arith)) (low (ltb j e) refl, omega arith)
        where
          low : (t : Bool) → ltb j e ≡ t → (span % 256 + 256 * (e + 1)) % 256 ≤ j
          low true p = let (a, b) = old (ltb-true j e p) in omega arith
          low false p = omega (arith, ltb-false j e p)
