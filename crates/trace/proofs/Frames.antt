-- Words cut from a trace, one by one. Assumes nothing.
use Prim.Native.Nat.{ℕ, zero, suc, ◌+◌, ◌≤◌, ◌<◌}
use mathlib.Core.Path.{◌≡◌, refl, sym, ap, ◌∙◌}
use mathlib.Core.List.{List}
use native.Mathlib.Omega.{arith}
use lib.ListN.{length, get_or, take, drop, length-drop}
use lib.Seq.{ext_get_or, get_or-take, get_or-drop, length-take-le}
use Rattle.trace.specs.Traces.{cut}

pub cut-length : (k : ℕ) (l : List ℕ) (at : ℕ) → length (cut k l at) ≡ k
unfolding cut
cut-length zero l at = refl
cut-length (suc k) l at = ap suc (cut-length k l (suc at))

pub cut_at : (k : ℕ) (l : List ℕ) (at i : ℕ) → i < k → get_or (cut k l at) i 0 ≡ get_or l (at + i) 0
unfolding cut
cut_at zero l at i h = absurd (omega arith)
cut_at (suc k) l at zero h = let e : at ≡ at + 0 = omega arith in ap (λ (j : ℕ). get_or l j 0) e
cut_at (suc k) l at (suc i) h =
    let e : suc at + i ≡ at + suc i = omega arith in cut_at k l (suc at) i (omega arith) ∙ ap (λ (j : ℕ). get_or l j 0) e

-- a part of a trace has them all
pub cut-part : (k : ℕ) (l : List ℕ) (at : ℕ) → at + k ≤ length l → take k (drop at l) ≡ cut k l at
cut-part k l at h =
    let long : length (take k (drop at l)) ≡ k = length-take-le k (drop at l) (omega (arith, length-drop at l)) in
    ext_get_or 0 (take k (drop at l)) (cut k l at) (long ∙ sym (cut-length k l at))
    (λ i b.
    let low : i < k = omega arith in
    get_or-take k (drop at l) i 0 low ∙ get_or-drop at l i 0 ∙ sym (cut_at k l at i low))

-- traces with the same words in a cycle have the same frame there
pub cut-same : (k : ℕ) (l l' : List ℕ) (at : ℕ) → ((i : ℕ) → i < k → get_or l (at + i) 0 ≡ get_or l' (at + i) 0) → cut k l at ≡ cut k l' at
unfolding cut
cut-same zero l l' at h = refl
cut-same (suc k) l l' at h =
    let e : at + 0 ≡ at = omega arith in
    cc (rw e at (h 0 (omega arith)), cut-same k l l' (suc at) (λ i b. let q : at + suc i ≡ suc at + i = omega arith in rw q at (h (suc i) (omega arith))))
