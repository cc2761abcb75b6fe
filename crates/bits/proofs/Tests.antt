-- Laws of Boolean tests, and of `some` and `every`: what holds of each number below a bound. Assumes nothing.
use Prim.Native.Nat.{ℕ, zero, suc, ◌≤◌, ◌<◌}
use mathlib.Core.Path.{◌≡◌, refl, sym, ap₂, subst}
use mathlib.Core.Bool.{Bool, true, false, not, ◌&&◌, ◌||◌}
use mathlib.Core.Logic.{◌⊎◌, inl, inr, ⊎_elim}
use native.Mathlib.Nat.{le_of_suc-le-suc, not-suc-le-zero, eq-or-lt_of_le, le_refl, le_step}
use lib.Dec.{T, ltb, ltb→lt, eqb}
use borrow.Author.Tests.{ltb-false, eqb-true, eqb-false, not-true, not-false}
use Rattle.bits.specs.Bits.{some, every}

-- ---- tests

pub is_true : (b : Bool) → T b → b ≡ true
is_true true h = refl
is_true false h = absurd h

pub is_false : (b : Bool) → (T b → ⊥) → b ≡ false
is_false true h = absurd (h tt)
is_false false h = refl

pub of-true : {b : Bool} → b ≡ true → T b
of-true e = subst T (sym e) tt

pub of-false : {b : Bool} → b ≡ false → T b → ⊥
of-false e h = subst T e h

-- a test holds or does not
pub either : (b : Bool) → (b ≡ true) ⊎ (b ≡ false)
either true = inl refl
either false = inr refl

-- two tests that imply each other are the same
pub iff-eq : (a b : Bool) → (T a → T b) → (T b → T a) → a ≡ b
iff-eq true true f g = refl
iff-eq true false f g = absurd (f tt)
iff-eq false true f g = absurd (g tt)
iff-eq false false f g = refl

pub and_intro : (a b : Bool) → T a → T b → T (a && b)
and_intro true b h k = k
and_intro false b h k = absurd h

pub and_left : (a b : Bool) → T (a && b) → T a
and_left true b h = tt
and_left false b h = absurd h

pub and_right : (a b : Bool) → T (a && b) → T b
and_right true b h = h
and_right false b h = absurd h

pub or_left : (a b : Bool) → T a → T (a || b)
or_left true b h = tt
or_left false b h = absurd h

pub or_right : (a b : Bool) → T b → T (a || b)
or_right true b h = tt
or_right false b h = h

pub or_cases : (a b : Bool) → T (a || b) → T a ⊎ T b
or_cases true b h = inl tt
or_cases false b h = inr h

-- a loop's test that starts with a bound
pub bound-true : (t n : ℕ) (rest : Bool) → (ltb t n && rest) ≡ true → t < n
bound-true t n rest e = ltb→lt t n (and_left (ltb t n) rest (of-true e))

pub bound-rest : (t n : ℕ) (rest : Bool) → (ltb t n && rest) ≡ true → rest ≡ true
bound-rest t n rest e = is_true rest (and_right (ltb t n) rest (of-true e))

pub bound-false : (t n : ℕ) (rest : Bool) → (ltb t n && rest) ≡ false → (n ≤ t) ⊎ (rest ≡ false)
bound-false t n rest e = go (either (ltb t n))
  where
    go : (ltb t n ≡ true) ⊎ (ltb t n ≡ false) → (n ≤ t) ⊎ (rest ≡ false)
    go (inl h) = inr (subst (λ (x : Bool). (x && rest) ≡ false) h e)
    go (inr h) = inl (ltb-false t n h)

-- the test `!=`
pub differ-true : (a b : ℕ) → not (eqb a b) ≡ true → a ≡ b → ⊥
differ-true a b e = eqb-false a b (not-true (eqb a b) e)

pub differ-false : (a b : ℕ) → not (eqb a b) ≡ false → a ≡ b
differ-false a b e = eqb-true a b (not-false (eqb a b) e)

-- ---- `some`

pub some-intro : (k : ℕ) (f : ℕ → Bool) (i : ℕ) → i < k → T (f i) → T (some k f)
unfolding some
some-intro zero f i l h = absurd (not-suc-le-zero l)
some-intro (suc k) f i l h =
    ⊎_elim (λ e. or_right (some k f) (f k) (subst (λ (j : ℕ). T (f j)) e h))
    (λ (l' : i < k). or_left (some k f) (f k) (some-intro k f i l' h)) (eq-or-lt_of_le (le_of_suc-le-suc l))

pub record Found (k : ℕ) (f : ℕ → Bool) : Type 0 where
  pub at : ℕ
  pub low : at < k
  pub holds : T (f at)

pub some-elim : (k : ℕ) (f : ℕ → Bool) → T (some k f) → Found k f
unfolding some
some-elim zero f h = absurd h
some-elim (suc k) f h =
    ⊎_elim (λ (g : T (some k f)). let r = some-elim k f g in record { at = r.at; low = le_step r.low; holds = r.holds })
    (λ (g : T (f k)). record { at = k; low = le_refl (suc k); holds = g }) (or_cases (some k f) (f k) h)

pub some-none : (k : ℕ) (f : ℕ → Bool) → ((i : ℕ) → i < k → f i ≡ false) → some k f ≡ false
some-none k f h = is_false (some k f) (λ g. let r = some-elim k f g in of-false (h r.at r.low) r.holds)

pub some-ext : (k : ℕ) (f g : ℕ → Bool) → ((i : ℕ) → i < k → f i ≡ g i) → some k f ≡ some k g
unfolding some
some-ext zero f g h = refl
some-ext (suc k) f g h = ap₂ (λ (a b : Bool). a || b) (some-ext k f g (λ i l. h i (le_step l))) (h k (le_refl (suc k)))

-- ---- `every`

pub every-elim : (k : ℕ) (f : ℕ → Bool) → T (every k f) → (i : ℕ) → i < k → T (f i)
unfolding every
every-elim zero f h i l = absurd (not-suc-le-zero l)
every-elim (suc k) f h i l =
    ⊎_elim (λ e. subst (λ (j : ℕ). T (f j)) (sym e) (and_right (every k f) (f k) h))
    (λ (l' : i < k). every-elim k f (and_left (every k f) (f k) h) i l') (eq-or-lt_of_le (le_of_suc-le-suc l))

pub every-intro : (k : ℕ) (f : ℕ → Bool) → ((i : ℕ) → i < k → T (f i)) → T (every k f)
unfolding every
every-intro zero f h = tt
every-intro (suc k) f h = and_intro (every k f) (f k) (every-intro k f (λ i l. h i (le_step l))) (h k (le_refl (suc k)))
