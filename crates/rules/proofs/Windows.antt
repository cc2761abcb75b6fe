-- Windows of n cycles after accepted starts, for every kind that has them. The count before cycle t is that of the cycles, t included, that are left to each accepted
-- check that is pending in t, and where it is not 0 there is such a check (`Window`). So all pending checks have the same start, and `busy` is the test that the
-- count is not 0. From a cycle to the next an accepted start sets the count to n, any other cycle takes 1 off, and reset ends all. Assumes nothing.
use Prim.Native.Nat.{ℕ, zero, suc, ◌+◌, ◌-◌, ◌<◌, ◌≤◌}
use mathlib.Core.Path.{◌≡◌, refl, sym, ap, ap₂, subst, ◌∙◌}
use mathlib.Core.Bool.{Bool, true, false, not, ◌&&◌, ◌||◌, cond, and-true, and-false, or-false, and-or_distrib_right}
use mathlib.Core.Logic.{◌⊎◌, inl, inr, ⊎_elim}
use native.Mathlib.Nat.{eq-or-lt_of_le, le_of_suc-le-suc, not-suc-le-zero, le_refl, le_step}
use native.Mathlib.Omega.{arith}
use lib.Dec.{T, leb, ltb, eqb, leb→le, le→leb, ltb→lt, lt→ltb, eqb→eq}
use borrow.Author.Tests.{lt-ltb, lt-leb, le-leb, eq-eqb}
use Rattle.bits.specs.Bits.{some, every}
use Rattle.bits.proofs.Tests.{is_true, of-true, iff-eq, and_intro, and_left, and_right, or_left, some-intro, some-elim, every-intro}
use Rattle.rules.specs.Frame.{Trace, up}
use Rattle.rules.specs.Checks.{Checks, accepted, busy}
use Rattle.rules.specs.Window.{between, window_after, at_last}

-- ---- tests

-- b and b' agree where a holds
pub under : (a b b' : Bool) → (T a → b ≡ b') → (a && b) ≡ (a && b')
under true b b' h = h tt
under false b b' h = refl

-- what is 0 in reset stays so
pub in-reset : (b : Bool) (x : ℕ) → cond b (cond b x 0) 0 ≡ cond b x 0
in-reset true x = refl
in-reset false x = refl

-- a check that goes on: a for accepted, e and e' for the bound on its cycles, b for the cycles between, k and k' for the cycle after them
goes_on : (a e' e b k k' : Bool) → (T e' → T e) → (T (a && (e && b)) → k ≡ k') → (a && (e' && (b && k))) ≡ ((a && (e && b)) && (e' && k'))
goes_on false e' e b k k' f g = refl
goes_on true false e b k k' f g = sym (and-false (e && b))
goes_on true true false b k k' f g = absurd (f tt)
goes_on true true true b k k' f g = under b k k' g

-- ---- `some` and `at_last`

-- a test that does not depend on the number is taken out
pub some-and : (k : ℕ) (f g : ℕ → Bool) (b : Bool) → ((i : ℕ) → g i ≡ (f i && b)) → some k g ≡ (some k f && b)
unfolding some
some-and zero f g b h = refl
some-and (suc k) f g b h = ap₂ (λ (x y : Bool). x || y) (some-and k f g b h) (h k) ∙ sym (and-or_distrib_right (some k f) (f k) b)

-- nor one that has the same result wherever f holds
pub some-under : (k : ℕ) (f g : ℕ → Bool) (b : Bool) → ((s : ℕ) → T (f s) → g s ≡ b) → some k (λ s. f s && g s) ≡ (some k f && b)
some-under k f g b h = some-and k f (λ s. f s && g s) b (λ s. under (f s) (g s) b (h s))

-- a value that g has wherever f holds, and that is 0 if f holds nowhere
pub at_last-is : (k : ℕ) (f : ℕ → Bool) (g : ℕ → ℕ) (v : ℕ) → ((s : ℕ) → T (f s) → g s ≡ v) → (0 < v → T (some k f)) → at_last k f g ≡ v
unfolding at_last some
at_last-is zero f g zero h e = refl
at_last-is zero f g (suc v) h e = absurd (e (omega arith))
at_last-is (suc k) f g v h e = by (f k) refl (at_last-is k f g v h)
  where
    by : (b : Bool) → f k ≡ b → ((0 < v → T (some k f)) → at_last k f g ≡ v) → cond b (g k) (at_last k f g) ≡ v
    by true q i = h k (of-true q)
    by false q i = i (λ l. simp (q, or-false) at (e l))

-- Checks that are pending in the n cycles after their start, unless a reset or an accepted start has ended them.
pub record Windowed (k : Checks) (tr : Trace) (n : ℕ) : Type 0 where
  pub on : ℕ → Bool
  pub pending-is : (s t : ℕ) → k.pending s t ≡ window_after n on s t
  pub going_on : (t : ℕ) → T (busy k t) → on t ≡ (up (tr t) && not (accepted k t))
  pub none-in-reset : (t : ℕ) → up (tr t) ≡ false → accepted k t ≡ false

module _ (k : Checks) (tr : Trace) (n : ℕ) (h : Windowed k tr n) where
  -- an accepted check from s is pending in cycle t
  abbrev pub live : ℕ → ℕ → Bool
  live t s = accepted k s && k.pending s t

  -- the number of cycles left before cycle t, t included
  unfoldable pub count : ℕ → ℕ
  count zero = 0
  count (suc t) = cond (up (tr t)) (cond (accepted k t) n (count t - 1)) 0

  pub live-range : (t s : ℕ) → T (live t s) → (s < t) × (t ≤ s + n)
  live-range t s l =
      let a = ltb s t in
      let e = leb t (s + n) in
      let p : T (window_after n h.on s t) = subst T (h.pending-is s t) (and_right (accepted k s) (k.pending s t) l) in
      let r = and_left (a && e) (between s t h.on) p in
      (ltb→lt s t (and_left a e r), leb→le t (s + n) (and_right a e r))

  -- a check goes on past a cycle that is not its last, out of reset and with no accepted start
  live-older : (t s : ℕ) → s < t → live (suc t) s ≡ (live t s && (leb (suc t) (s + n) && (up (tr t) && not (accepted k t))))
  unfolding between every busy
  live-older t s l =
      rw (h.pending-is s (suc t), h.pending-is s t, lt-ltb s (suc t) (le_step l), lt-leb t s l, lt-ltb s t l)
      (goes_on (accepted k s) (leb (suc t) (s + n)) (leb t (s + n)) (between s t h.on) (h.on t) (up (tr t) && not (accepted k t))
      (λ o. le→leb t (s + n) (omega (arith, leb→le (suc t) (s + n) o)))
      (λ o. h.going_on t (some-intro t (live t) s l (rw (h.pending-is s t, lt-ltb s t l) o))))

  -- a check that was just accepted is pending, unless its window has no cycle
  live-newest : (t : ℕ) → live (suc t) t ≡ (accepted k t && ltb 0 n)
  unfolding between every
  live-newest t =
      rw (h.pending-is t (suc t), lt-ltb t (suc t) (le_refl (suc t)), le-leb t t (le_refl t), is_true (between t t h.on) none, first)
      (ap (λ (b : Bool). accepted k t && b) (and-true (ltb 0 n)))
    where
      none : T (between t t h.on)
      none = every-intro t (λ u. leb u t || h.on u) (λ u l. or_left (leb u t) (h.on u) (le→leb u t (omega arith)))

      first : leb (suc t) (t + n) ≡ ltb 0 n
      first =
          iff-eq (leb (suc t) (t + n)) (ltb 0 n) (λ o. lt→ltb 0 n (omega (arith, leb→le (suc t) (t + n) o)))
          (λ o. le→leb (suc t) (t + n) (omega (arith, ltb→lt 0 n o)))

  -- what the count w before cycle t says of the accepted checks that are pending in t
  record Window (t w : ℕ) : Type 0 where
    counts : (s : ℕ) → T (live t s) → w + t ≡ suc (s + n)
    found : 0 < w → T (busy k t)

  before : (t s : ℕ) → T (live (suc t) s) → (s ≡ t) ⊎ (s < t)
  before t s p = eq-or-lt_of_le (le_of_suc-le-suc (live-range (suc t) s p).0)

  older : (t s : ℕ) → accepted k t ≡ false → T (live (suc t) s) → s < t
  older t s e p =
      ⊎_elim
      (λ (q : s ≡ t). absurd (rw (live-newest t, e) at (subst (λ (i : ℕ). T (live (suc t) i)) q p)))
      (λ (l : s < t). l) (before t s p)

  advance : (t w : ℕ) → up (tr t) ≡ true → Window t w → (a : Bool) → accepted k t ≡ a → Window (suc t) (cond a n (w - 1))
  unfolding busy
  advance t w u g true e = record {
    counts = λ s p.
        ⊎_elim (λ (q : s ≡ t). omega arith) (λ (l : s < t). absurd (simp (live-older t s l, u, e, and-false) at p)) (before t s p);
    found = λ l. some-intro (suc t) (live (suc t)) t (le_refl (suc t)) (rw (live-newest t, e) (lt→ltb 0 n l));
  }
  advance t w u g false e = record {
    counts = λ s p.
        let o = simp (live-older t s (older t s e p), u, e, and-true) at p in
        omega (arith, g.counts s (and_left (live t s) (leb (suc t) (s + n)) o), (live-range (suc t) s p).1);
    found = λ l.
        let r = some-elim t (live t) (g.found (omega arith)) in
        let e' = le-leb (suc t) (r.at + n) (omega (arith, g.counts r.at r.holds)) in
        some-intro (suc t) (live (suc t)) r.at (le_step r.low) (rw (live-older t r.at r.low, e', u, e, and-true) r.holds);
  }

  -- a check that is pending after t was accepted in t, or was pending in t
  pub live-before : (t s : ℕ) → T (live (suc t) s) → ((s ≡ t) × T (accepted k t)) ⊎ T (live t s)
  live-before t s p =
      ⊎_elim
      (λ (q : s ≡ t). inl (q, and_left (accepted k t) (ltb 0 n) (rw (live-newest t) at (subst (λ (i : ℕ). T (live (suc t) i)) q p))))
      (λ (l : s < t). inr (and_left (live t s) (leb (suc t) (s + n) && (up (tr t) && not (accepted k t))) (rw (live-older t s l) at p))) (before t s p)

  reset : (t : ℕ) → up (tr t) ≡ false → Window (suc t) 0
  reset t u = record {
    counts = λ s p. absurd (simp (live-older t s (older t s (h.none-in-reset t u) p), u, and-false) at p);
    found = λ l. absurd (not-suc-le-zero l);
  }

  window : (t : ℕ) → Window t (count t)
  unfolding count
  window zero = record { counts = λ s p. absurd (not-suc-le-zero (live-range 0 s p).0); found = λ l. absurd (not-suc-le-zero l) }
  window (suc t) = by (up (tr t)) refl (window t)
    where
      by : (b : Bool) → up (tr t) ≡ b → Window t (count t) → Window (suc t) (cond b (cond (accepted k t) n (count t - 1)) 0)
      by true u g = advance t (count t) u g (accepted k t) refl
      by false u g = reset t u

  -- ---- what the count says

  pub live-count : (t s : ℕ) → T (live t s) → count t + t ≡ suc (s + n)
  live-count t = (window t).counts

  pub busy-count : (t : ℕ) → busy k t ≡ ltb 0 (count t)
  unfolding busy
  busy-count t =
      iff-eq (busy k t) (ltb 0 (count t))
      (λ b.
      let r = some-elim t (live t) b in
      lt→ltb 0 (count t) (omega (arith, live-count t r.at r.holds, (live-range t r.at r.holds).1)))
      (λ l. (window t).found (ltb→lt 0 (count t) l))

  -- the accepted check that is pending in t is the one whose start the count gives, and no count is older than the trace
  pub live-is : (t s : ℕ) → live t s ≡ (eqb (suc (s + n)) (count t + t) && ltb 0 (count t))
  unfolding busy
  live-is t s =
      let w = count t in
      let same = eqb (suc (s + n)) (w + t) in
      iff-eq (live t s) (same && ltb 0 w)
      (λ p.
      let r = live-count t s p in
      and_intro same (ltb 0 w) (of-true (eq-eqb (suc (s + n)) (w + t) (omega arith))) (lt→ltb 0 w (omega (arith, (live-range t s p).1))))
      (λ o.
      let r = some-elim t (live t) ((window t).found (ltb→lt 0 w (and_right same (ltb 0 w) o))) in
      let e : r.at ≡ s = omega (arith, live-count t r.at r.holds, eqb→eq (suc (s + n)) (w + t) (and_left same (ltb 0 w) o)) in
      subst (λ (i : ℕ). T (live t i)) e r.holds)

  pub young : (t : ℕ) → 0 < count t → n < count t + t
  unfolding busy
  young t l = let r = some-elim t (live t) ((window t).found l) in omega (arith, live-count t r.at r.holds)

  pub low : (t : ℕ) → count t ≤ n
  unfolding count
  low zero = omega arith
  low (suc t) = by (up (tr t)) (accepted k t) (low t)
    where
      by : (u a : Bool) → count t ≤ n → cond u (cond a n (count t - 1)) 0 ≤ n
      by true true l = le_refl n
      by true false l = omega arith
      by false a l = omega arith

  -- a value that g has for the check that is pending in t, and that is 0 where none is
  pub read : (t : ℕ) (g : ℕ → ℕ) (v : ℕ) → ((s : ℕ) → T (live t s) → g s ≡ v) → (0 < v → 0 < count t) → at_last t (live t) g ≡ v
  unfolding busy
  read t g v e f = at_last-is t (live t) g v e (λ l. (window t).found (f l))

  -- the number of cycles left after cycle t
  pub count-read : (t : ℕ) → at_last (suc t) (live (suc t)) (λ s. s + n - t) ≡ count (suc t)
  count-read t = read (suc t) (λ s. s + n - t) (count (suc t)) (λ s p. let r = live-count (suc t) s p in omega arith) (λ l. l)
