-- The search finds the place of a code: `lookup-is-index`. No code stands twice, so a hint that is right is the only place. Assumes nothing.
use mathlib.Core.Path.{◌≡◌, refl, ◌∙◌, sym}
use mathlib.Core.Bool.{Bool, true, false, cond}
use mathlib.Core.List.{List, [], ◌∷◌}
use Prim.Native.Nat.{ℕ, zero, suc, ◌+◌, ◌<◌, ◌≤◌}
use native.Mathlib.Omega.{arith}
use lib.Dec.{eqb, ltb}
use lib.ListN.{length, get_or, take}
use lib.Seq.{length-take-le, get_or-take}
use borrow.Author.Tests.{eqb-true, eqb-false, ltb-true, ltb-false}
use Rattle.dump.specs.Declarations.{index_of}
use Rattle.dump_find.specs.Find.{slot, bounded, hinted, lookup}
use Rattle.dump_declare.specs.declared.head.Head.{Head}
use Rattle.dump_declared.specs.Declared.{Sound}

-- where x stands at all, it stands at its index
pub index_is : (l : List ℕ) (x i : ℕ) → i < length l → get_or l i 0 ≡ x → (index_of l x < length l) × (get_or l (index_of l x) 0 ≡ x)
unfolding index_of
index_is [] x i h e = absurd (omega arith)
index_is (a ∷ l) x i h e = go (λ k p q. index_is l x k p q) (eqb a x) refl i h e
  where
    go : ((k : ℕ) → k < length l → get_or l k 0 ≡ x → (index_of l x < length l) × (get_or l (index_of l x) 0 ≡ x)) → (t : Bool) → eqb a x ≡ t → (i : ℕ) → i < length (a ∷ l) → get_or (a ∷ l) i 0 ≡ x → (cond (eqb a x) 0 (suc (index_of l x)) < length (a ∷ l)) × (get_or (a ∷ l) (cond (eqb a x) 0 (suc (index_of l x))) 0 ≡ x)
    go ih true q i h e = rw q (omega arith, eqb-true a x q)
    go ih false q zero h e = absurd (eqb-false a x q e)
    go ih false q (suc i) h e = let r = ih i (omega arith) e in rw q (omega (arith, r.0), r.1)

pub bounded-is : (n : ℕ) → n ≤ 1024 → bounded n ≡ n
unfolding bounded
bounded-is n h = go (ltb n 1024) refl
  where
    go : (t : Bool) → ltb n 1024 ≡ t → cond (ltb n 1024) n 1024 ≡ n
    go true e = rw e
    go false e = rw e (omega (arith, ltb-false n 1024 e))

module _ (h : Head) (store : List ℕ) (sound : Sound h store) where
  pub codes-length : length (take h.codes store) ≡ h.codes
  codes-length = length-take-le h.codes store (omega arith)

  pub codes-bounded : bounded h.codes ≡ h.codes
  codes-bounded = bounded-is h.codes (omega arith)

  -- a code that stands at place i among the first
  pub at-index : (x i : ℕ) → i < h.codes → get_or store i 0 ≡ x → i ≡ index_of (take h.codes store) x
  at-index x i k e =
      let (p, q) = index_is (take h.codes store) x i (rw codes-length k) (get_or-take h.codes store i 0 k ∙ e) in
      let r : index_of (take h.codes store) x < h.codes = rw codes-length at p in
      sound.apart i (index_of (take h.codes store) x) k r (e ∙ sym (sym (get_or-take h.codes store (index_of (take h.codes store) x) 0 r) ∙ q))

  pub lookup-is-index : (x : ℕ) → lookup store (bounded h.codes) x ≡ index_of (take h.codes store) x
  unfolding lookup hinted
  lookup-is-index x = rw codes-bounded (go (get_or store (6144 + slot x) 0) (ltb (get_or store (6144 + slot x) 0) h.codes) refl (eqb (get_or store (get_or store (6144 + slot x) 0) 0) x) refl)
    where
      go : (i : ℕ) (t : Bool) → ltb i h.codes ≡ t → (u : Bool) → eqb (get_or store i 0) x ≡ u → cond (ltb i h.codes) (cond (eqb (get_or store i 0) x) i (index_of (take h.codes store) x)) (index_of (take h.codes store) x) ≡ index_of (take h.codes store) x
      go i false e u f = rw e
      go i true e false f = rw (e, f)
      go i true e true f = rw (e, f) (at-index x i (ltb-true i h.codes e) (eqb-true (get_or store i 0) x f))
