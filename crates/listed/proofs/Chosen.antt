-- Laws of `chosen`, the numbers below a bound at which a test holds, and of the words of a list of entries. Each is proved by induction, on the bound or on
-- the list. Assumes nothing.
use Prim.Native.Nat.{ℕ, zero, suc, ◌+◌, ◌*◌, ◌<◌, ◌≤◌}
use mathlib.Core.Path.{◌≡◌, refl, sym, ap, ap₂, ◌∙◌}
use mathlib.Core.Bool.{Bool, true, false, cond}
use mathlib.Core.List.{List, [], ◌∷◌, ◌++◌, append-nil}
use mathlib.Core.Logic.{⊎_elim}
use native.Mathlib.Nat.{le_of_suc-le-suc, not-suc-le-zero, eq-or-lt_of_le, le_refl, le_step}
use native.Mathlib.Omega.{arith}
use lib.Dec.{T}
use lib.ListN.{length}
use lib.Seq.{sets}
use Rattle.bits.proofs.Tests.{is_true, is_false}
use Rattle.bits.proofs.Stores.{sets-append}
use Rattle.listed.specs.Lists.{Entry, chosen, words_of}

-- ---- `chosen`

-- the last number is chosen or it is not
chosen_last : (k : ℕ) (f : ℕ → Bool) (l : List ℕ) (b : Bool) → chosen k f ≡ l → f k ≡ b → chosen (suc k) f ≡ l ++ cond b (k ∷ []) []
unfolding chosen
chosen_last k f l b = ap₂ (λ (r : List ℕ) (a : Bool). r ++ cond a (k ∷ []) [])

pub chosen-before : (k : ℕ) (f : ℕ → Bool) → f k ≡ false → chosen (suc k) f ≡ chosen k f
chosen-before k f e = chosen_last k f (chosen k f) false refl e ∙ append-nil (chosen k f)

pub chosen-ext : (k : ℕ) (f g : ℕ → Bool) → ((s : ℕ) → s < k → f s ≡ g s) → chosen k f ≡ chosen k g
unfolding chosen
chosen-ext zero f g h = refl
chosen-ext (suc k) f g h = chosen_last k f (chosen k g) (g k) (chosen-ext k f g (λ s l. h s (le_step l))) (h k (le_refl (suc k)))

pub chosen_none : (k : ℕ) (f : ℕ → Bool) → ((s : ℕ) → s < k → f s ≡ false) → chosen k f ≡ []
unfolding chosen
chosen_none zero f h = refl
chosen_none (suc k) f h = chosen_last k f [] false (chosen_none k f (λ s l. h s (le_step l))) (h k (le_refl (suc k)))

pub chosen-one : (k s : ℕ) (f : ℕ → Bool) → s < k → T (f s) → ((u : ℕ) → u < k → T (f u) → u ≡ s) → chosen k f ≡ s ∷ []
chosen-one zero s f l h only = absurd (not-suc-le-zero l)
chosen-one (suc k) s f l h only =
    ⊎_elim
    (λ (e : s ≡ k).
    rw e
    (chosen_last k f [] true (chosen_none k f (λ u g. is_false (f u) (λ t. omega (arith, only u (le_step g) t)))) (is_true (f k) (rw e at h))))
    (λ (l' : s < k).
    chosen_last k f (s ∷ []) false (chosen-one k s f l' h (λ u g. only u (le_step g)))
    (is_false (f k) (λ t. omega (arith, only k (le_refl (suc k)) t))))
    (eq-or-lt_of_le (le_of_suc-le-suc l))

-- the least number at which f holds comes first, and g holds at those that are left
pub chosen-first : (k s : ℕ) (f g : ℕ → Bool) → s < k → f s ≡ true → ((u : ℕ) → u < s → f u ≡ false) → ((u : ℕ) → s < u → u < k → f u ≡ g u)
    → ((u : ℕ) → u ≤ s → g u ≡ false) → chosen k f ≡ s ∷ chosen k g
unfolding chosen
chosen-first zero s f g l h below above left = absurd (not-suc-le-zero l)
chosen-first (suc k) s f g l h below above left =
    ⊎_elim
    (λ (e : s ≡ k).
    rw e
    (chosen_last k f [] true (chosen_none k f (λ u i. below u (omega (arith, e)))) (rw e at h)
    ∙ ap (λ (r : List ℕ). k ∷ r) (sym (chosen_none (suc k) g (λ u i. left u (omega (arith, e)))))))
    (λ (l' : s < k). chosen_last k f (s ∷ chosen k g) (g k) (chosen-first k s f g l' h below (λ u i j. above u i (le_step j)) left) (above k l' (le_refl (suc k))))
    (eq-or-lt_of_le (le_of_suc-le-suc l))

-- ---- words

pub words_append : (es fs : List Entry) → words_of (es ++ fs) ≡ words_of es ++ words_of fs
unfolding words_of
words_append [] fs = refl
words_append (e ∷ es) fs = ap (λ (l : List ℕ). e.cycle ∷ e.mark ∷ e.start ∷ l) (words_append es fs)

pub words_length : (es : List Entry) → length (words_of es) ≡ 3 * length es
unfolding words_of
words_length [] = refl
words_length (e ∷ es) = omega (arith, words_length es)

-- the words of entries stored behind those of entries
pub sets-entries : (l : List ℕ) (i j : ℕ) (es fs : List Entry) → j ≡ i + 3 * length es
    → sets (sets l i (words_of es)) j (words_of fs) ≡ sets l i (words_of (es ++ fs))
sets-entries l i j es fs e =
    ap (λ (k : ℕ). sets (sets l i (words_of es)) k (words_of fs)) (e ∙ ap (λ (k : ℕ). i + k) (sym (words_length es)))
    ∙ sym (sets-append l i (words_of es) (words_of fs)) ∙ ap (sets l i) (sym (words_append es fs))
