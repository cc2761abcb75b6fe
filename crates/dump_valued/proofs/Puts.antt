-- Values put into a list one after the other, where a test says so. Assumes nothing.
use mathlib.Core.Path.{◌≡◌, refl, ◌∙◌, ap}
use mathlib.Core.Bool.{Bool, true, false, cond}
use mathlib.Core.List.{List}
use Prim.Native.Nat.{ℕ, zero, suc, ◌+◌, ◌<◌, ◌≤◌}
use native.Mathlib.Omega.{arith}
use lib.Dec.{eqb}
use lib.ListN.{length, get_or, set, length-set}
use lib.Seq.{get_or-set_same, get_or-set_other}
use borrow.Author.Tests.{eqb-true, eqb-false}

module _ (test : ℕ → Bool) (new : ℕ → ℕ) where
  abbrev pub put_in : List ℕ → ℕ → List ℕ
  put_in vs e = cond (test e) (set vs e (new e)) vs

  unfoldable pub puts_from : List ℕ → ℕ → ℕ → List ℕ
  puts_from vs e zero = vs
  puts_from vs e (suc k) = puts_from (put_in vs e) (suc e) k

  -- ONE VALUE
  put-length : (vs : List ℕ) (e : ℕ) → length (put_in vs e) ≡ length vs
  put-length vs e = go (test e)
    where
      go : (t : Bool) → length (cond t (set vs e (new e)) vs) ≡ length vs
      go true = length-set vs e (new e)
      go false = refl

  put_other : (vs : List ℕ) (e j : ℕ) → (j ≡ e → ⊥) → get_or (put_in vs e) j 0 ≡ get_or vs j 0
  put_other vs e j n = go (test e)
    where
      go : (t : Bool) → get_or (cond t (set vs e (new e)) vs) j 0 ≡ get_or vs j 0
      go true = get_or-set_other vs e j (new e) 0 n
      go false = refl

  put_same : (vs : List ℕ) (e : ℕ) → e < length vs → get_or (put_in vs e) e 0 ≡ cond (test e) (new e) (get_or vs e 0)
  put_same vs e h = go (test e)
    where
      go : (t : Bool) → get_or (cond t (set vs e (new e)) vs) e 0 ≡ cond t (new e) (get_or vs e 0)
      go true = get_or-set_same vs e (new e) 0 h
      go false = refl

  -- ALL OF THEM
  pub puts-length : (k : ℕ) (vs : List ℕ) (e : ℕ) → length (puts_from vs e k) ≡ length vs
  unfolding puts_from
  puts-length zero vs e = refl
  puts-length (suc k) vs e = puts-length k (put_in vs e) (suc e) ∙ put-length vs e

  puts-before : (k : ℕ) (vs : List ℕ) (e j : ℕ) → j < e → get_or (puts_from vs e k) j 0 ≡ get_or vs j 0
  unfolding puts_from
  puts-before zero vs e j h = refl
  puts-before (suc k) vs e j h = puts-before k (put_in vs e) (suc e) j (omega arith) ∙ put_other vs e j (λ z. omega arith)

  -- where the test holds only among those that are put
  pub puts-at : (k : ℕ) (vs : List ℕ) (e j : ℕ) → j < length vs → (test j ≡ true → (e ≤ j) × (j < e + k)) → get_or (puts_from vs e k) j 0 ≡ cond (test j) (new j) (get_or vs j 0)
  unfolding puts_from
  puts-at zero vs e j l h = go (test j) refl
    where
      go : (t : Bool) → test j ≡ t → get_or vs j 0 ≡ cond (test j) (new j) (get_or vs j 0)
      go true q = absurd (omega (arith, h q))
      go false q = rw q
  puts-at (suc k) vs e j l h = go (eqb j e) refl (puts-at k (put_in vs e) (suc e) j (rw (put-length vs e) l))
    where
      go : (t : Bool) → eqb j e ≡ t → ((test j ≡ true → (suc e ≤ j) × (j < suc e + k)) → get_or (puts_from (put_in vs e) (suc e) k) j 0 ≡ cond (test j) (new j) (get_or (put_in vs e) j 0))
          → get_or (puts_from (put_in vs e) (suc e) k) j 0 ≡ cond (test j) (new j) (get_or vs j 0)
      go true q ih = puts-before k (put_in vs e) (suc e) j (omega (arith, eqb-true j e q)) ∙ rw (eqb-true j e q) (put_same vs e (omega (arith, eqb-true j e q)))
      go false q ih =
          let n : (j ≡ e → ⊥) = eqb-false j e q in
          ih (λ r. let (a, b) = h r in (omega arith, omega arith)) ∙ ap (λ (v : ℕ). cond (test j) (new j) v) (put_other vs e j n)
