-- The entries of one cycle, family by family, as the code makes them. A row without the marks 1 and 2 has no entries. A sequence has one for each bit of
-- the word of failing attempts, since bit j is the attempt from t−1−j. A time check has one possible start, t + w − n − 1, and an entry for each of the two
-- marks. A transition's start is the cycle before. Assumes nothing.
use Prim.Native.Nat.{ℕ, suc, ◌+◌, ◌-◌, ◌*◌, ◌/◌, ◌%◌, ◌^◌, ◌<◌, ◌≤◌}
use mathlib.Core.Path.{◌≡◌, refl, sym, ap, ap₂, subst, ◌∙◌}
use mathlib.Core.Bool.{Bool, true, false, not, ◌&&◌, ◌||◌, cond, and-false}
use mathlib.Core.List.{List, [], ◌∷◌, ◌++◌, map, append-nil}
use mathlib.Core.Logic.{⊎_elim}
use native.Mathlib.Nat.{le_refl, le_step, le_of_suc-le-suc, eq-or-lt_of_le, eq-zero-or-pos}
use native.Mathlib.Omega.{arith}
use lib.Dec.{T, ltb, eqb, leb→le, ltb→lt, eqb→eq}
use lib.Count.{ones, ones-le}
use lib.ListN.{length}
use borrow.Author.Tests.{lt-ltb, le-ltb, ltb-true, ltb-false, eq-eqb, ne_eqb}
use Rattle.bits.specs.Bits.{to_bit, bit, number}
use Rattle.bits.proofs.Tests.{either, is_false, of-true, of-false, and_intro, and_left, and_right, some-intro}
use Rattle.bits.proofs.Bits.{to_bit-lt, bit_past, bit-number, bit-holds, number_lt}
use Rattle.rules.specs.declared.config.Config.{Config}
use Rattle.rules.specs.declared.frame.Frame.{Frame}
use Rattle.rules.specs.Config.{Family, family, max_window}
use Rattle.rules.specs.Config.Family.{sequence, time, transition, value, stability, none}
use Rattle.rules.specs.Frame.{up}
use Rattle.rules.specs.Rules.{Marks, row_of}
use Rattle.rules.specs.Sequence.{event_missed}
use Rattle.rules.specs.Step.{left_in, attempt_on, pends, tracked_marks, step_marks_of, going_step_row}
use Rattle.rules.specs.Possible.{possible_of}
use Rattle.rules.proofs.Good.{possible-are, sequence-config, time-config, value-config, stability-config}
use Rattle.rules.proofs.TriggerWords.{word-parts}
use Rattle.listed.specs.Lists.{entry, chosen}
use Rattle.listed.specs.Starts.{triggered_at, failed_of, illegal_of, fails, starts_illegally}
use Rattle.entries.specs.Entries.{attempt_entries, window_entries}
use Rattle.cycle_entries.specs.Steps.{step_entries, Ready}
use Rattle.listed.proofs.Chosen.{chosen-before, chosen-ext, chosen_none, chosen-one}
use Rattle.listed.proofs.Highest.{within}
use Rattle.entries.proofs.Attempts.{ones-entries}
use Rattle.entries.proofs.Windows.{window-length}

-- ---- the marks 1 and 2 of a row

row-marks : (m : Marks) → row_of m % 4 ≡ to_bit m.failure + 2 * to_bit m.illegal
unfolding row_of
row-marks m = omega (arith, to_bit-lt m.failure, to_bit-lt m.illegal)

none-set : (a b : Bool) → to_bit a + 2 * to_bit b ≡ 0 → (a ≡ false) × (b ≡ false)
none-set true b e = absurd (omega arith)
none-set false true e = absurd (omega arith)
none-set false false e = (refl, refl)

one_set : (a : Bool) (m : ℕ) → 0 < m → m ≡ to_bit a + 2 * to_bit false → (m ≡ 1) × (a ≡ true)
one_set true m h e = (e, refl)
one_set false m h e = absurd (omega arith)

mark-bits : (a b : Bool) → (bit (to_bit a + 2 * to_bit b) 0 ≡ a) × (bit (to_bit a + 2 * to_bit b) 1 ≡ b)
unfolding bit
mark-bits true true = (refl, refl)
mark-bits true false = (refl, refl)
mark-bits false true = (refl, refl)
mark-bits false false = (refl, refl)

-- ---- the entries of a time check

window-maps : (a b : Bool) (t s : ℕ) → map (entry t 1) (cond a (s ∷ []) []) ++ map (entry t 2) (cond b (s ∷ []) []) ≡ window_entries a b t s
unfolding window_entries
window-maps true true t s = refl
window-maps true false t s = refl
window-maps false true t s = refl
window-maps false false t s = refl

-- the one start whose n + 1 cycles end w cycles from t on
one-start : (b : Bool) (n w t s : ℕ) → suc (s + n) ≡ w + t → s < t → chosen (suc t) (λ u. eqb (suc (u + n)) (w + t) && b) ≡ cond b (s ∷ []) []
one-start true n w t s e l =
    chosen-one (suc t) s (λ u. eqb (suc (u + n)) (w + t) && true) (le_step l) (and_intro (eqb (suc (s + n)) (w + t)) true (of-true (eq-eqb (suc (s + n)) (w + t) e)) tt)
    (λ u g h. omega (arith, eqb→eq (suc (u + n)) (w + t) (and_left (eqb (suc (u + n)) (w + t)) true h)))
one-start false n w t s e l = chosen_none (suc t) (λ u. eqb (suc (u + n)) (w + t) && false) (λ u g. and-false (eqb (suc (u + n)) (w + t)))

-- ---- the attempts that fail

module _ (c : Config) (w : ℕ) (f : Frame) where
  abbrev Lost : ℕ → Bool
  Lost j = bit w j && event_missed c f (c.n - 1 - suc j) && (not (eqb c.kind 0) || eqb (suc j) (c.n - 1))

  -- bit j is the attempt from t−1−j
  lost-starts : (t s : ℕ) → s < t → failed_of c w f t sequence s ≡ bit (number (c.n - 1) Lost) (t - suc s)
  unfolding failed_of
  lost-starts t s l =
      let age : suc (t - suc s) ≡ t - s = omega arith in
      rw (lt-ltb s t l)
      (⊎_elim
      (λ (q : ltb (t - s) c.n ≡ true).
      rw q
      (sym
      (bit-number (c.n - 1) Lost (t - suc s) (omega (arith, ltb-true (t - s) c.n q))
      ∙ ap (λ (a : ℕ). bit w (t - suc s) && event_missed c f (c.n - 1 - a) && (not (eqb c.kind 0) || eqb a (c.n - 1))) age)))
      (λ (q : ltb (t - s) c.n ≡ false).
      rw q (sym (bit_past (number (c.n - 1) Lost) (c.n - 1) (t - suc s) (number_lt (c.n - 1) Lost) (omega (arith, ltb-false (t - s) c.n q)))))
      (either (ltb (t - s) c.n)))

  -- an attempt that fails sets the mark
  lost-fails : (j : ℕ) → j < c.n - 1 → T (Lost j) → T (attempt_on c w f (event_missed c))
  unfolding attempt_on
  lost-fails j l h =
      let both = and_left (bit w j && event_missed c f (c.n - 1 - suc j)) (not (eqb c.kind 0) || eqb (suc j) (c.n - 1)) h in
      let asked = and_right (bit w j && event_missed c f (c.n - 1 - suc j)) (not (eqb c.kind 0) || eqb (suc j) (c.n - 1)) h in
      ⊎_elim
      (λ (k : eqb c.kind 0 ≡ true).
      let oldest : suc j ≡ c.n - 1 = eqb→eq (suc j) (c.n - 1) (rw k at asked) in
      let i : j ≡ c.n - 2 = omega arith in
      let z : c.n - 1 - suc j ≡ 0 = omega arith in
      rw k (rw (z, i) at both))
      (λ (k : eqb c.kind 0 ≡ false). rw k (some-intro (c.n - 1) (λ i. bit w i && event_missed c f (c.n - 1 - suc i)) j l both))
      (either (eqb c.kind 0))

  -- no check fails without the mark, and none meets an illegal start
  none-lost : (t : ℕ) → (step_marks_of c w f sequence).failure ≡ false → (s : ℕ) → s < t → failed_of c w f t sequence s ≡ false
  unfolding step_marks_of
  none-lost t m s l =
      lost-starts t s l
      ∙ is_false (bit (number (c.n - 1) Lost) (t - suc s))
      (λ h.
      of-false m
      (lost-fails (t - suc s) (within (number (c.n - 1) Lost) (c.n - 1) (t - suc s) (number_lt (c.n - 1) Lost) h)
      (bit-holds (c.n - 1) Lost (t - suc s) h)))

  -- an attempt that starts in t is not among those of the word
  none-new : (t : ℕ) → failed_of c w f t sequence t ≡ false
  unfolding failed_of
  none-new t = rw (le-ltb t t (le_refl t)) refl

  none-failed : (t : ℕ) (k : Family) → (step_marks_of c w f k).failure ≡ false → (s : ℕ) → s < suc t → failed_of c w f t k s ≡ false
  unfolding failed_of step_marks_of
  none-failed t sequence m s l =
      ⊎_elim (λ (e : s ≡ t). rw e (none-new t)) (none-lost t m s) (eq-or-lt_of_le (le_of_suc-le-suc l))
  none-failed t time m s l = ap (λ (b : Bool). eqb (suc (s + c.n)) (w + t) && b) m ∙ and-false (eqb (suc (s + c.n)) (w + t))
  none-failed t transition m s l = ap (λ (b : Bool). eqb (suc s) t && b) m ∙ and-false (eqb (suc s) t)
  none-failed t value m s l = ap (λ (b : Bool). triggered_at c w f t w s && b) m ∙ and-false (triggered_at c w f t w s)
  none-failed t stability m s l = ap (λ (b : Bool). triggered_at c w f t (left_in w) s && b) m ∙ and-false (triggered_at c w f t (left_in w) s)
  none-failed t none m s l = refl

  none-illegal : (t : ℕ) (k : Family) → (step_marks_of c w f k).illegal ≡ false → (s : ℕ) → s < suc t → illegal_of c w f t k s ≡ false
  unfolding illegal_of
  none-illegal t sequence m s l = refl
  none-illegal t time m s l = ap (λ (b : Bool). eqb (suc (s + c.n)) (w + t) && b) m ∙ and-false (eqb (suc (s + c.n)) (w + t))
  none-illegal t transition m s l = refl
  none-illegal t value m s l = refl
  none-illegal t stability m s l = refl
  none-illegal t none m s l = refl

  -- a time check that is not pending sets neither mark
  idle : ltb 0 w ≡ false → to_bit (step_marks_of c w f time).failure + 2 * to_bit (step_marks_of c w f time).illegal ≡ 0
  unfolding step_marks_of pends
  idle e = simp (e, and-false)

-- ---- the entries of a cycle

module _ (c : Config) (w : ℕ) (f : Frame) (row t : ℕ) (r : Ready c w f row t) where
  -- a mark is set out of reset alone
  out-of-reset : 0 < row % 4 → up f ≡ true
  unfolding going_step_row
  out-of-reset h =
      ⊎_elim (λ (e : up f ≡ true). e)
      (λ (e : up f ≡ false).
      let z : row ≡ 0 = r.row_is ∙ ap (λ (b : Bool). cond b (row_of (step_marks_of c w f (family c.kind))) 0) e in absurd (omega arith))
      (either (up f))

  marks-are : (k : Family) → family c.kind ≡ k → up f ≡ true
      → row % 4 ≡ to_bit (step_marks_of c w f k).failure + 2 * to_bit (step_marks_of c w f k).illegal
  unfolding going_step_row
  marks-are k fam e =
      ap (λ (x : ℕ). x % 4) (r.row_is ∙ ap₂ (λ (b : Bool) (j : Family). cond b (row_of (step_marks_of c w f j)) 0) e fam)
      ∙ row-marks (step_marks_of c w f k)

  in-reset : up f ≡ false → step_entries c w f t ≡ []
  unfolding step_entries fails starts_illegally
  in-reset e =
      ap₂ (λ (ss us : List ℕ). map (entry t 1) ss ++ map (entry t 2) us)
      (chosen_none (suc t) (fails c w f t) (λ s l. ap (λ (b : Bool). b && failed_of c w f t (family c.kind) s) e))
      (chosen_none (suc t) (starts_illegally c w f t) (λ s l. ap (λ (b : Bool). b && illegal_of c w f t (family c.kind) s) e))

  -- the entries of the starts that a family has
  entries-of : (k : Family) → family c.kind ≡ k → up f ≡ true → (ss us : List ℕ) → chosen (suc t) (failed_of c w f t k) ≡ ss
      → chosen (suc t) (illegal_of c w f t k) ≡ us → step_entries c w f t ≡ map (entry t 1) ss ++ map (entry t 2) us
  unfolding step_entries fails starts_illegally
  entries-of k fam e ss us p q =
      ap₂ (λ (xs ys : List ℕ). map (entry t 1) xs ++ map (entry t 2) ys)
      (chosen-ext (suc t) (fails c w f t) (failed_of c w f t k) (λ s l. ap₂ (λ (b : Bool) (j : Family). b && failed_of c w f t j s) e fam) ∙ p)
      (chosen-ext (suc t) (starts_illegally c w f t) (illegal_of c w f t k) (λ s l. ap₂ (λ (b : Bool) (j : Family). b && illegal_of c w f t j s) e fam) ∙ q)

  unset : row % 4 ≡ 0 → up f ≡ true → (k : Family) → family c.kind ≡ k
      → ((step_marks_of c w f k).failure ≡ false) × ((step_marks_of c w f k).illegal ≡ false)
  unset z e k fam = none-set (step_marks_of c w f k).failure (step_marks_of c w f k).illegal (sym (marks-are k fam e) ∙ z)

  pub no-entries : row % 4 ≡ 0 → step_entries c w f t ≡ []
  no-entries z = ⊎_elim (λ (e : up f ≡ true). by e (family c.kind) refl) in-reset (either (up f))
    where
      by : up f ≡ true → (k : Family) → family c.kind ≡ k → step_entries c w f t ≡ []
      by e k fam =
          entries-of k fam e [] [] (chosen_none (suc t) (failed_of c w f t k) (none-failed c w f t k (unset z e k fam).0))
          (chosen_none (suc t) (illegal_of c w f t k) (none-illegal c w f t k (unset z e k fam).1))

  -- ---- sequence

  module _ (fam : family c.kind ≡ sequence) (lost : ℕ) (is : lost ≡ number (c.n - 1) (Lost c w f)) where
    lost-low : lost < 2 ^ (c.n - 1)
    lost-low = rw is (number_lt (c.n - 1) (Lost c w f))

    pub lost-young : (j : ℕ) → T (bit lost j) → j < t
    lost-young j h =
        let held = bit-holds (c.n - 1) (Lost c w f) j (rw is at h) in
        r.placed.attempts fam j
        (and_left (bit w j) (event_missed c f (c.n - 1 - suc j))
        (and_left (bit w j && event_missed c f (c.n - 1 - suc j)) (not (eqb c.kind 0) || eqb (suc j) (c.n - 1)) held))

    pub attempts-are : 0 < row % 4 → step_entries c w f t ≡ attempt_entries lost t
    unfolding attempt_entries illegal_of
    attempts-are h =
        entries-of sequence fam (out-of-reset h) (chosen t (λ s. bit lost (t - suc s))) []
        (chosen-before t (failed_of c w f t sequence) (none-new c w f t)
        ∙ chosen-ext t (failed_of c w f t sequence) (λ s. bit lost (t - suc s))
        (λ s l. lost-starts c w f t s l ∙ ap (λ (x : ℕ). bit x (t - suc s)) (sym is)))
        (chosen_none (suc t) (illegal_of c w f t sequence) (λ s l. refl))
        ∙ append-nil (attempt_entries lost t)

    pub attempts-length : 0 < row % 4 → (ones lost ≡ length (step_entries c w f t)) × (ones lost ≤ 64)
    attempts-length h = (
      ones-entries (c.n - 1) lost t lost-low lost-young ∙ ap length (sym (attempts-are h)),
      omega (arith, ones-le (c.n - 1) lost lost-low, (sequence-config c r.good fam).high),
    )

  -- ---- time: a mark is set in a pending window, whose start is a cycle of the trace

  module _ (fam : family c.kind ≡ time) (h : 0 < row % 4) where
    window-pends : 0 < w
    window-pends =
        ⊎_elim (λ (e : ltb 0 w ≡ true). ltb-true 0 w e)
        (λ (e : ltb 0 w ≡ false). let z = marks-are time fam (out-of-reset h) ∙ idle c w f e in absurd (omega (arith, z))) (either (ltb 0 w))

    -- the start is t + w − n − 1, before t
    pub window-start : (c.n < w + t) × (w ≤ c.n) × (c.n ≤ max_window)
    unfolding possible_of
    window-start = (
      r.placed.window fam window-pends,
      leb→le w c.n (subst T (sym (possible-are c w time fam)) r.possible_word),
      (time-config c r.good fam).high,
    )

    pub window-is : step_entries c w f t ≡ window_entries (bit (row % 4) 0) (bit (row % 4) 1) t (t + w - c.n - 1)
    unfolding failed_of illegal_of
    window-is =
        let a = (step_marks_of c w f time).failure in
        let b = (step_marks_of c w f time).illegal in
        let s = t + w - c.n - 1 in
        let e : suc (s + c.n) ≡ w + t = omega (arith, window-start) in
        let l : s < t = omega (arith, window-start) in
        let marks = marks-are time fam (out-of-reset h) in
        entries-of time fam (out-of-reset h) (cond a (s ∷ []) []) (cond b (s ∷ []) []) (one-start a c.n w t s e l) (one-start b c.n w t s e l)
        ∙ window-maps a b t s
        ∙ ap₂ (λ (x y : Bool). window_entries x y t s) (sym (ap (λ (m : ℕ). bit m 0) marks ∙ (mark-bits a b).0))
        (sym (ap (λ (m : ℕ). bit m 1) marks ∙ (mark-bits a b).1))

    pub window-counts : row % 4 % 2 + row % 4 / 2 ≡ length (step_entries c w f t)
    window-counts = sym (ap length window-is ∙ window-length (row % 4) t (t + w - c.n - 1) (omega arith))

  -- ---- a kind of one check that can fail, and has no illegal starts: the check from s

  module _ (k : Family) (fam : family c.kind ≡ k) (h : 0 < row % 4) (quiet : (step_marks_of c w f k).illegal ≡ false) where
    set-alone : (row % 4 ≡ 1) × ((step_marks_of c w f k).failure ≡ true)
    set-alone =
        one_set (step_marks_of c w f k).failure (row % 4) h
        (marks-are k fam (out-of-reset h) ∙ ap (λ (b : Bool). to_bit (step_marks_of c w f k).failure + 2 * to_bit b) quiet)

    -- `from` says which start the word gives
    module _ (from : ℕ → Bool) (are : (u : ℕ) → failed_of c w f t k u ≡ (from u && (step_marks_of c w f k).failure)) where
      single-is : (s : ℕ) → s ≤ t → T (from s) → ((u : ℕ) → u ≤ t → T (from u) → u ≡ s) → step_entries c w f t ≡ entry t 1 s ∷ []
      single-is s l here only =
          let m = (step_marks_of c w f k).failure in
          entries-of k fam (out-of-reset h) (s ∷ []) []
          (chosen-one (suc t) s (failed_of c w f t k) (omega arith) (rw (are s) (and_intro (from s) m here (of-true set-alone.1)))
          (λ u g i. only u (le_of_suc-le-suc g) (and_left (from u) m (subst T (are u) i))))
          (chosen_none (suc t) (illegal_of c w f t k) (none-illegal c w f t k quiet))

    single-counts : (s : ℕ) → step_entries c w f t ≡ entry t 1 s ∷ [] → row % 4 % 2 + row % 4 / 2 ≡ length (step_entries c w f t)
    single-counts s e = ap (λ (m : ℕ). m % 2 + m / 2) set-alone.0 ∙ sym (ap length e)

  -- ---- transition: the check from the cycle before

  module _ (fam : family c.kind ≡ transition) (h : 0 < row % 4) where
    pub stored-before : 0 < t
    unfolding step_marks_of pends
    stored-before = r.placed.stored fam (ltb→lt 0 w (and_left (ltb 0 w) _ (of-true (set-alone transition fam h refl).1)))

    pub transition-is : step_entries c w f t ≡ entry t 1 (t - 1) ∷ []
    unfolding failed_of step_marks_of
    transition-is =
        single-is transition fam h refl (λ u. eqb (suc u) t) (λ u. refl) (t - 1) (omega arith)
        (of-true (eq-eqb (suc (t - 1)) t (omega (arith, stored-before)))) (λ u g i. omega (arith, eqb→eq (suc u) t i))

    pub transition-counts : row % 4 % 2 + row % 4 / 2 ≡ length (step_entries c w f t)
    unfolding step_marks_of
    transition-counts = single-counts transition fam h refl (t - 1) transition-is

  -- ---- after a trigger: the window that the cycles left say t is in

  module _ (left : ℕ) (few : left ≤ c.n) (young : 0 < left → c.n < left + t) where
    abbrev pub trigger_of : ℕ
    trigger_of = cond (eqb left 0) t (t + left - c.n - 1)

    pub trigger-low : trigger_of ≤ t
    trigger-low =
        ⊎_elim (λ (z : left ≡ 0). rw z (le_refl t)) (λ (m : 0 < left). rw (ne_eqb left 0 (omega arith)) (omega arith)) (eq-zero-or-pos left)

    trigger-at : T (triggered_at c w f t left trigger_of)
    unfolding triggered_at
    trigger-at =
        ⊎_elim (λ (z : left ≡ 0). rw z (of-true (eq-eqb t t refl)))
        (λ (m : 0 < left).
        rw (ne_eqb left 0 (omega arith)) (of-true (eq-eqb (suc (t + left - c.n - 1 + c.n)) (left + t) (omega (arith, young m))))) (eq-zero-or-pos left)

    trigger-only : (u : ℕ) → T (triggered_at c w f t left u) → u ≡ trigger_of
    unfolding triggered_at
    trigger-only u h =
        ⊎_elim (λ (z : left ≡ 0). rw z (eqb→eq u t (rw z at h)))
        (λ (m : 0 < left).
        let e = eqb→eq (suc (u + c.n)) (left + t) (rw (ne_eqb left 0 (omega arith)) at h) in rw (ne_eqb left 0 (omega arith)) (omega (arith, e)))
        (eq-zero-or-pos left)

    -- of either kind
    triggered-is : (k : Family) → family c.kind ≡ k → 0 < row % 4 → (step_marks_of c w f k).illegal ≡ false
        → ((u : ℕ) → failed_of c w f t k u ≡ (triggered_at c w f t left u && (step_marks_of c w f k).failure)) → step_entries c w f t ≡ entry t 1 trigger_of ∷ []
    triggered-is k fam h quiet are =
        single-is k fam h quiet (triggered_at c w f t left) are trigger_of trigger-low trigger-at (λ u g. trigger-only u)

  module _ (fam : family c.kind ≡ value) where
    pub value_low : (w ≤ c.n) × (c.n ≤ max_window) × (0 < w → c.n < w + t)
    unfolding possible_of
    value_low = (
      leb→le w c.n (subst T (sym (possible-are c w value fam)) r.possible_word),
      (value-config c r.good fam).high,
      r.placed.tracked fam,
    )

    pub value_is : 0 < row % 4 → step_entries c w f t ≡ entry t 1 (trigger_of w value_low.0 value_low.2) ∷ []
    unfolding failed_of step_marks_of tracked_marks
    value_is h = triggered-is w value_low.0 value_low.2 value fam h refl (λ u. refl)

    pub value-counts : 0 < row % 4 → row % 4 % 2 + row % 4 / 2 ≡ length (step_entries c w f t)
    unfolding step_marks_of tracked_marks
    value-counts h = single-counts value fam h refl _ (value_is h)

  module _ (fam : family c.kind ≡ stability) where
    pub stability-low : (left_in w ≤ c.n) × (c.n ≤ max_window) × (0 < left_in w → c.n < left_in w + t)
    stability-low = (
      (word-parts c w fam (stability-config c r.good fam).high r.possible_word).left-low,
      (stability-config c r.good fam).high,
      r.placed.compared fam,
    )

    pub stability-is : 0 < row % 4 → step_entries c w f t ≡ entry t 1 (trigger_of (left_in w) stability-low.0 stability-low.2) ∷ []
    unfolding failed_of step_marks_of tracked_marks
    stability-is h = triggered-is (left_in w) stability-low.0 stability-low.2 stability fam h refl (λ u. refl)

    pub stability-counts : 0 < row % 4 → row % 4 % 2 + row % 4 / 2 ≡ length (step_entries c w f t)
    unfolding step_marks_of tracked_marks
    stability-counts h = single-counts stability fam h refl _ (stability-is h)
