-- Runs of an arbitrary step: nothing here names a kind or a configuration. Words that follow the same frames by the same step, and are equal before one
-- cycle, are equal before every later one. So a run that enters cycle a of an edited trace with the word that the old trace left there has the edited
-- trace's words from a on, and where it meets the old trace's words again behind the edit, the rest of the old record stays right. Assumes nothing.
use Prim.Native.Nat.{ℕ, zero, suc, ◌≤◌, ◌<◌, zero-le}
use mathlib.Core.Path.{◌≡◌, refl, sym, ap, ap₂, ◌∙◌}
use mathlib.Core.Bool.{true, false}
use mathlib.Core.List.{List}
use mathlib.Core.Logic.{⊎_elim}
use native.Mathlib.Nat.{eq-or-lt_of_le, le_of_suc-le-suc, le_refl}
use native.Mathlib.Omega.{arith}
use borrow.Author.Tests.{lt-ltb, le-ltb, ltb-true, ltb-false}
use lib.Dec.{ltb}
use lib.ListN.{get_or}
use Rattle.bits.proofs.Tests.{either}
use Rattle.trace.specs.Runs.{word_at, Ends, Written}

module _ {F : Type 0} (next : ℕ → F → ℕ) where
  -- the word before a run's first cycle, and before all cycles up to it
  pub run_enters : (frame : ℕ → F) (a w t : ℕ) → t ≤ a → word_at next frame a w t ≡ w
  unfolding word_at
  run_enters frame a w zero h = refl
  run_enters frame a w (suc t) h = rw (lt-ltb t a h)

  -- one step further
  pub run-steps : (frame : ℕ → F) (a w t : ℕ) → a ≤ t → word_at next frame a w (suc t) ≡ next (word_at next frame a w t) (frame t)
  unfolding word_at
  run-steps frame a w t h = rw (le-ltb t a h)

  -- the words v, one before each cycle, follow the frames from cycle m on
  abbrev pub Follows : (ℕ → F) → ℕ → (ℕ → ℕ) → Type 0
  Follows frame m v = (t : ℕ) → m ≤ t → v (suc t) ≡ next (v t) (frame t)

  -- words that follow the same frames and start with the same word are the same
  pub same-words : (frame frame' : ℕ → F) (v v' : ℕ → ℕ) (m n : ℕ) → Follows frame m v → Follows frame' m v'
      → ((t : ℕ) → m ≤ t → t < n → frame t ≡ frame' t) → v m ≡ v' m → (t : ℕ) → m ≤ t → t ≤ n → v t ≡ v' t
  same-words frame frame' v v' m n f f' same e zero h k = let q : m ≡ 0 = omega arith in rw (← q) e
  same-words frame frame' v v' m n f f' same e (suc t) h k =
      ⊎_elim (λ (q : m ≡ suc t). rw (← q) e)
      (λ (l : m < suc t).
      let r : m ≤ t = le_of_suc-le-suc l in
      f t r ∙ ap₂ next (same-words frame frame' v v' m n f f' same e t r (omega arith)) (same t r k) ∙ sym (f' t r))
      (eq-or-lt_of_le h)

-- An end is read off the words from b to n alone.
ends_same : (own own' kept kept' : ℕ → ℕ) (b n e : ℕ) → ((t : ℕ) → b ≤ t → own t ≡ own' t) → ((t : ℕ) → t ≤ n → kept t ≡ kept' t)
    → Ends own kept b n e → Ends own' kept' b n e
ends_same own own' kept kept' b n e p q r =
    record {
      low = r.low;
      high = r.high;
      stops = λ l. sym (p e r.low) ∙ r.stops l ∙ q e r.high;
      least = λ t h l m. r.least t h l (p t h ∙ m ∙ sym (q t (omega arith)));
    }

-- Words that follow edited frames (v), and words that follow the old frames (v'), which are the same below a and from b to n. `kept` has the old words.
pub record Edit {F : Type 0} (next : ℕ → F → ℕ) (frame old : ℕ → F) (v v' kept : ℕ → ℕ) (a b n : ℕ) : Type 0 where
  pub low : a ≤ b
  pub high : b ≤ n
  pub below : (t : ℕ) → t < a → old t ≡ frame t
  pub behind : (t : ℕ) → b ≤ t → t < n → old t ≡ frame t
  pub start : v' 0 ≡ v 0
  pub follows : Follows next frame 0 v
  pub follows-old : Follows next old 0 v'
  pub keeps : (t : ℕ) → t ≤ n → kept t ≡ v' t

-- The run enters a with the word kept there.
module _ {F : Type 0} {next : ℕ → F → ℕ} {frame old : ℕ → F} {v v' kept : ℕ → ℕ} {a b n : ℕ} (d : Edit next frame old v v' kept a b n) where
  -- up to a the words are the old ones
  before-edit : (t : ℕ) → t ≤ a → v' t ≡ v t
  before-edit t h =
      same-words next old frame v' v 0 a d.follows-old d.follows (λ s _ l. d.below s l) d.start t zero-le h

  -- the run has the words of the edited frames
  own-words : (t : ℕ) → a ≤ t → word_at next frame a (kept a) t ≡ v t
  own-words t h =
      same-words next frame frame (word_at next frame a (kept a)) v a t (run-steps next frame a (kept a)) (λ s _. d.follows s zero-le) (λ s _ _. refl)
      (run_enters next frame a (kept a) a (le_refl a) ∙ d.keeps a (omega arith) ∙ before-edit a (le_refl a)) t h (le_refl t)

  pub true-ends : (e : ℕ) → Ends (word_at next frame a (kept a)) kept b n e → Ends v v' b n e
  true-ends e r = ends_same (word_at next frame a (kept a)) v kept v' b n e (λ t h. own-words t (omega arith)) d.keeps r

  -- from the end on the words are the old ones
  from_end : (e : ℕ) → Ends v v' b n e → (t : ℕ) → e ≤ t → t < n → v' t ≡ v t
  from_end e r t h k =
      same-words next old frame v' v e n (λ s _. d.follows-old s zero-le) (λ s _. d.follows s zero-le) (λ s p l. d.behind s (omega (arith, r.low)) l)
      (sym (r.stops (omega arith))) t h (omega arith)

  -- A list of entries read off the old words and frames, written from a to the end with those read off the run, has those of the edited frames.
  pub true-entries : (entry : ℕ → F → ℕ) (f : ℕ → ℕ) (e : ℕ) (l l' : List ℕ) → Ends (word_at next frame a (kept a)) kept b n e
      → ((t : ℕ) → t < n → get_or l t 0 ≡ entry (v' t) (old t)) → ((t : ℕ) → a ≤ t → f t ≡ entry (word_at next frame a (kept a) t) (frame t))
      → Written f a e l l' → (t : ℕ) → t < n → get_or l' t 0 ≡ entry (v t) (frame t)
  true-entries entry f e l l' r was is w t h =
      ⊎_elim (λ (p : ltb t a ≡ true). earlier (ltb-true t a p))
      (λ (p : ltb t a ≡ false).
      ⊎_elim (λ (q : ltb t e ≡ true). inside (ltb-false t a p) (ltb-true t e q)) (λ (q : ltb t e ≡ false). later (ltb-false t e q)) (either (ltb t e)))
      (either (ltb t a))
    where
      earlier : t < a → get_or l' t 0 ≡ entry (v t) (frame t)
      earlier p = w.below t p ∙ was t h ∙ ap₂ entry (before-edit t (omega arith)) (d.below t p)

      inside : a ≤ t → t < e → get_or l' t 0 ≡ entry (v t) (frame t)
      inside p q = w.within t p q ∙ is t p ∙ ap (λ (x : ℕ). entry x (frame t)) (own-words t p)

      later : e ≤ t → get_or l' t 0 ≡ entry (v t) (frame t)
      later q = w.beyond t q ∙ was t h ∙ ap₂ entry (from_end e (true-ends e r) t q h) (d.behind t (omega (arith, r.low)) h)
