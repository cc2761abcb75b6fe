-- A search for an impossible word, word by word and block by block. Assumes nothing.
use Rattle.std.proofs.Common.{◌≡◌, ℕ, zero, suc, ◌+◌, ◌-◌, ◌%◌, ◌^◌, ◌<◌, ◌≤◌, Bool, true, false, ◌&&◌, T, eqb, ltb, List, length, take, drop, get_or, refl, sym, ap, ap₂, ◌∙◌, length-drop, subst, ⊎_elim, le_refl, arith, eqb→eq, ltb-false, ltb-true, eq-eqb}
use Rattle.std.proofs.lemmas.List.{get_or-take, get_or-drop}
use lib.Seq.{length-take-le}
use Rattle.bits.specs.Bits.{every}
use Rattle.bits.proofs.Tests.{of-true, either, iff-eq, or_left, every-elim}
use Rattle.rules.specs.declared.config.Config.{Config}
use Rattle.rules.specs.Config.{fatal}
use Rattle.rules.specs.Rules.{stopped_word}
use Rattle.rules.specs.Possible.{going_possible, can_fail, possible}
use Rattle.kept_words.specs.Spoiled.{FirstImpossible}

-- the difference of a word to 2^63 is 0 where it is 2^63
pub difference-zero : (w r : ℕ) → r < 2 ^ 64 → (r + stopped_word) % 2 ^ 64 ≡ w → eqb r 0 ≡ eqb w stopped_word
difference-zero w r small e =
    iff-eq (eqb r 0) (eqb w stopped_word) (λ h. of-true (eq-eqb w stopped_word (omega (arith, eqb→eq r 0 h))))
    (λ h. of-true (eq-eqb r 0 (omega (arith, eqb→eq w stopped_word h))))

module _ (c : Config) (words : List ℕ) (from to : ℕ) where
  -- the words before t, from `from` on, are possible
  pub record Passed (t : ℕ) : Type 0 where
    pub low : from ≤ t
    pub high : t ≤ to
    pub lower_possible : (s : ℕ) → from ≤ s → s < t → T (possible c (get_or words s 0))

  pub passed_none : from ≤ to → Passed from
  passed_none h = record { low = le_refl from; high = h; lower_possible = λ s l g. absurd (omega arith) }

  module _ {t : ℕ} (p : Passed t) where
    -- up to u, where the words from t on are possible
    pub passed_on : (u : ℕ) → t ≤ u → u ≤ to → ((s : ℕ) → t ≤ s → s < u → T (possible c (get_or words s 0))) → Passed u
    passed_on u l h here = record {
      low = omega (arith, p.low);
      high = h;
      lower_possible = λ s m g.
          ⊎_elim (λ (e : ltb s t ≡ true). p.lower_possible s m (ltb-true s t e)) (λ (e : ltb s t ≡ false). here s (ltb-false s t e) g) (either (ltb s t));
    }

    pub passed-one : t < to → possible c (get_or words t 0) ≡ true → Passed (suc t)
    passed-one h e =
        passed_on (suc t) (omega arith) h
        (λ s l g. let same : t ≡ s = omega arith in subst (λ (k : ℕ). T (possible c (get_or words k 0))) same (of-true e))

    pub first-at : possible c (get_or words t 0) ≡ false → FirstImpossible c words from to t
    first-at e = record { low = p.low; high = p.high; impossible = λ _. e; lower_possible = p.lower_possible }

    pub first-none : to ≤ t → FirstImpossible c words from to t
    first-none h = record { low = p.low; high = p.high; impossible = λ l. absurd (omega arith); lower_possible = p.lower_possible }

    -- the lowest of a block behind them is the lowest of all; a block without one is passed
    module _ {u r : ℕ} (fits : u ≤ to) (b : FirstImpossible c words t u r) where
      pub first-in : r < u → FirstImpossible c words from to r
      first-in h =
          let q = passed_on r b.low (omega arith) b.lower_possible in
          record { low = q.low; high = q.high; impossible = λ _. b.impossible h; lower_possible = q.lower_possible }

      pub passed-block : u ≤ r → Passed u
      passed-block h = passed_on u (omega (arith, b.low, b.high)) fits (λ s l g. b.lower_possible s l (omega arith))

every-ext : (k : ℕ) (f g : ℕ → Bool) → ((i : ℕ) → i < k → f i ≡ g i) → every k f ≡ every k g
unfolding every
every-ext zero f g h = refl
every-ext (suc k) f g h = ap₂ (λ (a b : Bool). a && b) (every-ext k f g (λ i l. h i (omega arith))) (h k (omega arith))

-- a block whose words are all possible
module _ (c : Config) (words : List ℕ) (from count : ℕ) where
  -- a test of each word of the block
  pub every-block : (p : ℕ → Bool) → from + count ≤ length words
      → every (length (take (from + count - from) (drop from words))) (λ i. p (get_or (take (from + count - from) (drop from words)) i 0))
      ≡ every count (λ i. p (get_or words (from + i) 0))
  every-block p h =
      let all : from + count - from ≡ count = omega arith in
      let long : length (take count (drop from words)) ≡ count = length-take-le count (drop from words) (omega (arith, length-drop from words)) in
      rw (all, long)
      (every-ext count (λ i. p (get_or (take count (drop from words)) i 0)) (λ i. p (get_or words (from + i) 0))
      (λ i l. ap p (get_or-take count (drop from words) i 0 l ∙ get_or-drop from words i 0)))

  all-passed : ((i : ℕ) → i < count → T (possible c (get_or words (from + i) 0))) → FirstImpossible c words from (from + count) (from + count)
  all-passed h = record {
    low = omega arith;
    high = le_refl (from + count);
    impossible = λ l. absurd (omega arith);
    lower_possible = λ s l g.
        let same : from + (s - from) ≡ s = omega arith in
        subst (λ (k : ℕ). T (possible c (get_or words k 0))) same (h (s - from) (omega arith));
  }

  pub going-passed : every count (λ i. going_possible c (get_or words (from + i) 0)) ≡ true → FirstImpossible c words from (from + count) (from + count)
  unfolding possible
  going-passed e =
      all-passed
      (λ i h.
      let w = get_or words (from + i) 0 in
      or_left (going_possible c w) (fatal c && can_fail c && eqb w stopped_word) (every-elim count (λ j. going_possible c (get_or words (from + j) 0)) (of-true e) i h))

  pub stopped-passed : possible c stopped_word ≡ true → every count (λ i. eqb (get_or words (from + i) 0) stopped_word) ≡ true
      → FirstImpossible c words from (from + count) (from + count)
  stopped-passed p e =
      all-passed
      (λ i h.
      let is = eqb→eq (get_or words (from + i) 0) stopped_word (every-elim count (λ j. eqb (get_or words (from + j) 0) stopped_word) (of-true e) i h) in
      subst (λ (w : ℕ). T (possible c w)) (sym is) (of-true p))
