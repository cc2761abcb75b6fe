-- What the code of kinds 0 to 2 computes from the event bits in an attempt's order: bit j of the events is the one that an attempt needs j cycles
-- after its start. From it the marks and the next open word are those of one step. Assumes nothing.
use Prim.Native.Nat.{ℕ, zero, suc, ◌+◌, ◌-◌, ◌*◌, ◌%◌, ◌^◌, ◌≤◌, ◌<◌}
use mathlib.Core.Path.{◌≡◌, refl, sym, ap, ap₂, ◌∙◌}
use mathlib.Core.Bool.{Bool, true, false, not, ◌&&◌, ◌||◌, cond, and-true}
use native.Mathlib.Nat.{add-zero, two-pow-succ, lt_of_le_of_lt}
use native.Mathlib.Omega.{arith}
use lib.Bits.{bit_and, and_le_l, and_le_r}
use lib.Dec.{T, eqb, leb, ltb, ltb→lt, lit<}
use lib.Count.{ones}
use borrow.Author.Tests.{ne_eqb}
use Rattle.bits.specs.Bits.{to_bit, bit, number, without}
use Rattle.bits.proofs.Tests.{and_left, of-false, some-ext}
use Rattle.bits.proofs.Bits.{to_bit-lt, eqb-to_bit, bit-number, bit-and, bit-without, without-lt, number_lt, number-ext, same_bits, shared-some, bit-double, bit-low, bit-zero}
use Rattle.rules.specs.declared.config.Config.{Config}
use Rattle.rules.specs.declared.frame.Frame.{Frame}
use Rattle.rules.specs.Config.{family, min_events, max_events, Good}
use Rattle.rules.specs.Config.Family.{sequence}
use Rattle.rules.specs.Frame.{frame_word, unknown, P, unknown_p}
use Rattle.rules.specs.Rules.{check_marks, row_of}
use Rattle.rules.specs.Sequence.{event_missed, event_unknown}
use Rattle.rules.specs.Step.{starts_attempt, attempt, attempt_on, step_marks_of, step_open_of, StepsTo}
use Rattle.rules.specs.Possible.{possible_of, going_possible}
use Rattle.rules.proofs.Good.{sequence-config, possible-are}
use Rattle.rules.proofs.Unknown.{one_known}

-- what the code asks of n and the word
pub fits : (c : Config) (w : ℕ) → (Good c) × (family c.kind ≡ sequence) × (T (going_possible c w))
    → (min_events ≤ c.n) × (c.n ≤ max_events) × (w < 2 ^ (c.n - 1))
unfolding possible_of
fits c w h =
    let g = sequence-config c h.0 h.1 in
    let low : T (ltb w (2 ^ (c.n - 1)) && (not (eqb c.kind 2) || leb (ones w) 1)) = rw (possible-are c w sequence h.1) h.2 in
    (g.low, g.high, ltb→lt w (2 ^ (c.n - 1)) (and_left (ltb w (2 ^ (c.n - 1))) (not (eqb c.kind 2) || leb (ones w) 1) low))

-- the start that the code accepts: of kind 2 only where nothing is being tested
abbrev free : Config → ℕ → Bool
free c w = not (eqb c.kind 2 && not (eqb w 0))

abbrev pub start : Config → ℕ → ℕ → Bool
start c w e = eqb (e % 2) 1 && free c w

-- how the code asks for it: of kind 2 the word has to be 0, and of the others nothing
pub start-waits : (c : Config) (w e : ℕ) → c.kind ≡ 2 → (eqb (e % 2) 1 && eqb w 0) ≡ start c w e
start-waits c w e k = rw k (ap (λ (b : Bool). eqb (e % 2) 1 && b) (twice (eqb w 0)))
  where
    twice : (b : Bool) → b ≡ not (not b)
    twice true = refl
    twice false = refl

pub start-free : (c : Config) (w e : ℕ) → (c.kind ≡ 2 → ⊥) → eqb (e % 2) 1 ≡ start c w e
start-free c w e k = simp (ne_eqb c.kind 2 k, and-true)

-- attempts that end are n bits
pub ended-lt : (c : Config) (w e : ℕ) → 2 ≤ c.n → w < 2 ^ (c.n - 1) → (ended : ℕ) → ended ≡ without (w * 2) e → ended < 2 ^ c.n
ended-lt c w e two small ended ends =
    let n : c.n ≡ suc (c.n - 1) = omega arith in
    let double : w * 2 < 2 ^ c.n = rw n (omega (arith, small, two-pow-succ (c.n - 1))) in
    rw ends (without-lt c.n (w * 2) e double)

-- the marks of attempts that end, with mark 4 or without
pub ends_low : (a d : Bool) → row_of (check_marks a false d) ≤ 33
unfolding row_of
ends_low a d = omega (arith, to_bit-lt a, to_bit-lt d)

pub opened-row : (a b d : Bool) → row_of (check_marks a false d) + 4 * to_bit b ≡ row_of (check_marks a b d)
unfolding row_of
opened-row a b d = omega arith

again : (a b : Bool) → (a && b && a) ≡ (a && b)
again true true = refl
again true false = refl
again false b = refl

module _ (c : Config) (w : ℕ) (f : Frame) (e : ℕ) (two : 2 ≤ c.n) (event : (j : ℕ) → j < c.n → bit e j ≡ bit (P c f) (c.n - 1 - j)) where
  start_is : start c w e ≡ starts_attempt c w f
  unfolding starts_attempt
  start_is =
      let same : c.n - 1 - 0 ≡ c.n - 1 = omega arith in
      ap (λ (b : Bool). b && free c w) (bit-zero e ∙ event 0 (omega arith) ∙ ap (bit (P c f)) same)

  -- the new attempt has had its event, and each older one is a cycle older
  attempt-is : (j : ℕ) → j < c.n → (bit (w * 2 + to_bit (start c w e)) j && bit e j) ≡ attempt c w f j
  unfolding attempt
  attempt-is zero l =
      ap₂ (λ (a b : Bool). a && b) (bit-low w (to_bit (start c w e)) (to_bit-lt (start c w e)) ∙ eqb-to_bit (start c w e)) (sym (bit-zero e))
      ∙ again (eqb (e % 2) 1) (free c w) ∙ start_is
  attempt-is (suc j) l = ap₂ (λ (a b : Bool). a && b) (bit-double w (to_bit (start c w e)) j (to_bit-lt (start c w e))) (event (suc j) l)

  -- what the code finds of attempts that end: kind 0 looks at the oldest alone
  abbrev pub found : ℕ → Bool
  found x = cond (eqb c.kind 0) (bit x (c.n - 1)) (not (eqb x 0))

  -- an attempt that started j + 1 cycles ago is tested on event j + 1
  older : (j : ℕ) → bit (w * 2) (suc j) ≡ bit w j
  older j = ap (λ (x : ℕ). bit x (suc j)) (sym (add-zero (w * 2))) ∙ bit-double w 0 j (lit< tt)

  found-is : w < 2 ^ (c.n - 1) → (on : Frame → ℕ → Bool) (x : ℕ) → x < 2 ^ c.n
      → ((j : ℕ) → j < c.n → bit x j ≡ (bit (w * 2) j && on f (c.n - 1 - j))) → found x ≡ attempt_on c w f on
  unfolding attempt_on
  found-is small on x low h =
      let last : c.n - 1 ≡ suc (c.n - 2) = omega arith in
      let none : c.n - 1 - (c.n - 1) ≡ 0 = omega arith in
      let n = c.n in
      let m = number n (λ (j : ℕ). on f (n - 1 - j)) in
      let shared : x ≡ bit_and (w * 2) m =
      same_bits n x (bit_and (w * 2) m) low (lt_of_le_of_lt (and_le_r (w * 2) m) (number_lt n (λ (j : ℕ). on f (n - 1 - j))))
      (λ j l. h j l ∙ sym (bit-and (w * 2) m j ∙ ap (λ (b : Bool). bit (w * 2) j && b) (bit-number n (λ (i : ℕ). on f (n - 1 - i)) j l))) in
      ap₂ (cond (eqb c.kind 0))
      (h (n - 1) (omega arith) ∙ ap₂ (λ (a b : Bool). a && b) (ap (bit (w * 2)) last ∙ older (n - 2)) (ap (on f) none))
      (ap (λ (y : ℕ). not (eqb y 0)) shared ∙ shared-some (n - 1) w m small
      ∙ some-ext (n - 1) (λ (j : ℕ). bit w j && bit m (suc j)) (λ (j : ℕ). bit w j && on f (n - 1 - suc j))
      (λ j l. ap (λ (b : Bool). bit w j && b) (bit-number n (λ (i : ℕ). on f (n - 1 - i)) (suc j) (omega arith))))

  module _ (u : ℕ) (doubted : (j : ℕ) → j < c.n → bit u j ≡ bit (unknown_p c f) (c.n - 1 - j)) where
    -- an event that is neither 1 nor unknown is missed
    pub neither : (j : ℕ) → j < c.n → not (bit e j || bit u j) ≡ event_missed c f (c.n - 1 - j)
    unfolding event_missed
    neither j l = ap₂ (λ (a b : Bool). not (a || b)) (event j l) (doubted j l) ∙ by (bit (P c f) (c.n - 1 - j)) (bit (unknown_p c f) (c.n - 1 - j))
      where
        by : (a b : Bool) → not (a || b) ≡ (not a && not b)
        by true b = refl
        by false b = refl

    -- of the attempts that end, those that fail and those that are in doubt
    module _ (small : w < 2 ^ (c.n - 1)) (ended : ℕ) (ends : ended ≡ without (w * 2) e) where
      ended-bit : (j : ℕ) → bit ended j ≡ (bit (w * 2) j && not (bit e j))
      ended-bit j = ap (λ (x : ℕ). bit x j) ends ∙ bit-without (w * 2) e j

      ended-low : ended < 2 ^ c.n
      ended-low = ended-lt c w e two small ended ends

      fails-is : found (without ended u) ≡ attempt_on c w f (event_missed c)
      unfolding event_missed
      fails-is =
          found-is small (event_missed c) (without ended u) (without-lt c.n ended u ended-low)
          (λ j l.
          bit-without ended u j ∙ ap₂ (λ (a b : Bool). a && not b) (ended-bit j ∙ ap (λ (b : Bool). bit (w * 2) j && not b) (event j l)) (doubted j l)
          ∙ by (bit (w * 2) j) (not (bit (P c f) (c.n - 1 - j))) (not (bit (unknown_p c f) (c.n - 1 - j))))
        where
          by : (a b d : Bool) → (a && b && d) ≡ (a && (b && d))
          by true b d = refl
          by false b d = refl

      doubts-is : found (bit_and ended u) ≡ attempt_on c w f (event_unknown c)
      unfolding event_unknown
      doubts-is =
          found-is small (event_unknown c) (bit_and ended u) (lt_of_le_of_lt (and_le_l ended u) ended-low)
          (λ j l.
          bit-and ended u j ∙ ap₂ (λ (a b : Bool). a && b) (ended-bit j ∙ ap (λ (b : Bool). bit (w * 2) j && not b) (event j l)) (doubted j l)
          ∙ by (bit (w * 2) j) (bit (P c f) (c.n - 1 - j)) (bit (unknown_p c f) (c.n - 1 - j)) (one_known c.p (frame_word f 1) (unknown f 1) (c.n - 1 - j)))
        where
          by : (a b d : Bool) → (b && d) ≡ false → ((a && not b) && d) ≡ (a && d)
          by true true true e = absurd (of-false e tt)
          by true true false e = refl
          by true false d e = refl
          by false b d e = refl

      -- the row and the next open word of the code
      pub steps : (b : Bool) (next row : ℕ)
          → b ≡ start c w e
          → next ≡ number (c.n - 1) (λ (j : ℕ). bit (w * 2 + to_bit b) j && bit e j)
          → row ≡ row_of (check_marks (found (without ended u)) (cond (eqb c.kind 0) (bit next (c.n - 2)) b) (found (bit_and ended u)))
          → StepsTo sequence c w f row next
      unfolding step_marks_of step_open_of
      steps b next row s n r =
          let word : next ≡ number (c.n - 1) (attempt c w f) =
          n
          ∙ number-ext (c.n - 1) (λ (j : ℕ). bit (w * 2 + to_bit b) j && bit e j) (attempt c w f)
          (λ j l. ap (λ (a : Bool). bit (w * 2 + to_bit a) j && bit e j) s ∙ attempt-is j (omega arith)) in
          let oldest : bit next (c.n - 2) ≡ attempt c w f (c.n - 2) =
          ap (λ (x : ℕ). bit x (c.n - 2)) word ∙ bit-number (c.n - 1) (attempt c w f) (c.n - 2) (omega arith) in
          let opens : cond (eqb c.kind 0) (bit next (c.n - 2)) b ≡ cond (eqb c.kind 0) (attempt c w f (c.n - 2)) (starts_attempt c w f) =
          ap₂ (cond (eqb c.kind 0)) oldest (s ∙ start_is) in
          record { row_is = r ∙ rw (fails-is, opens, doubts-is) refl; word_is = word }
