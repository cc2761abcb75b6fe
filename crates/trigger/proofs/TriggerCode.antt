-- What the code of kinds 7 and 8 computes, as the step's definition has it. Assumes nothing.
use Prim.Native.Nat.{ℕ, ◌+◌, ◌-◌, ◌/◌, ◌%◌, ◌^◌, ◌≤◌, ◌<◌}
use mathlib.Core.Path.{◌≡◌, refl, sym, ap, ap₂, ◌∙◌}
use mathlib.Core.Bool.{Bool, true, false, not, ◌&&◌, ◌||◌, cond, and-true, and-false}
use mathlib.Core.Logic.{⊎_elim}
use native.Mathlib.Nat.{add-zero, div-one}
use native.Mathlib.Omega.{arith}
use lib.Bits.{bit_and}
use lib.Dec.{eqb, leb, ltb, leb→le, le→leb, eqb→eq}
use borrow.Author.Tests.{lt-ltb, le-ltb, eq-eqb, eqb-true, eqb-false}
use Rattle.bits.specs.Bits.{bit}
use Rattle.bits.proofs.Bits.{bit-and, bit-shr}
use Rattle.bus.specs.Range.{width}
use Rattle.bus.proofs.Ranges.{value-wire}
use Rattle.bits.proofs.Tests.{either, of-true, of-false, iff-eq}
use Rattle.rules.specs.declared.config.Config.{Config}
use Rattle.rules.specs.declared.frame.Frame.{Frame}
use Rattle.rules.specs.Config.Family.{value, stability}
use Rattle.rules.specs.Frame.{sample, up, enabled, P, Q, known_p}
use Rattle.rules.specs.Trigger.{with_reference}
use Rattle.rules.specs.Rules.{row_of, window_marks}
use Rattle.rules.specs.Step.{left_in, holds, reference_in, pends, triggered, opens, after, tests, compares, tracked_marks, held, step_marks_of, step_open_of, StepsTo}

-- a cycle is from s+min on where so many cycles are left after it
min-left : (c : Config) → c.min ≤ c.n → (l : ℕ) → leb l (c.n - c.min) ≡ leb (l + c.min) c.n
min-left c low l =
    iff-eq (leb l (c.n - c.min)) (leb (l + c.min) c.n)
    (λ o. le→leb (l + c.min) c.n (omega (arith, leb→le l (c.n - c.min) o)))
    (λ o. le→leb l (c.n - c.min) (omega (arith, leb→le (l + c.min) c.n o)))

-- enable and trigger, read as one bit of the two words
pub trigger-wire : (c : Config) (f : Frame) → width c.q ≡ 1 → up f ≡ true
    → eqb (bit_and (sample f 0 / 2) (sample f 2 / 2 ^ c.q.left) % 2) 1 ≡ (enabled f && eqb (Q c f) 1)
unfolding enabled bit
trigger-wire c f v u =
    let a = sample f 0 / 2 ^ 1 in
    let b = sample f 2 / 2 ^ c.q.left in
    let on : bit a 0 ≡ (up f && bit (sample f 0) 1) = bit-shr (sample f 0) 1 0 ∙ rw u refl in
    low_bit (bit_and a b) ∙ bit-and a b 0
    ∙ ap₂ (λ (x y : Bool). x && y) on
    (bit-shr (sample f 2) c.q.left 0 ∙ ap (bit (sample f 2)) (add-zero c.q.left) ∙ value-wire c.q (sample f 2) v)
  where
    low_bit : (x : ℕ) → eqb (x % 2) 1 ≡ bit x 0
    low_bit x = ap (λ (n : ℕ). eqb (n % 2) 1) (sym (div-one x))

-- a word is 0 where it is not above 0
zero_test : (w : ℕ) → eqb w 0 ≡ not (ltb 0 w)
zero_test w =
    ⊎_elim (λ (e : eqb w 0 ≡ true). rw (e, le-ltb 0 w (omega (arith, eqb-true w 0 e))) refl)
    (λ (e : eqb w 0 ≡ false). rw (e, lt-ltb 0 w (omega (arith, eqb-false w 0 e))) refl) (either (eqb w 0))

not-not : (b : Bool) → not (not b) ≡ b
not-not true = refl
not-not false = refl

-- what a step does, from whether a trigger opens a window and how many cycles are left
module _ (c : Config) (w : ℕ) (f : Frame) where
  module _ (low : c.min ≤ c.n) (left : ℕ) (opened : Bool) (t : triggered c w f ≡ opened) (o : opens c w f ≡ true) where
    tests-is : (before : ℕ) → after c w f before ≡ left → tests c w f before ≡ (enabled f && leb left (c.n - c.min))
    unfolding tests
    tests-is before l = rw (o, l, min-left c low left) (ap (λ (b : Bool). b && leb (left + c.min) c.n) (and-true (enabled f)))

    marks-are : (before : ℕ) → after c w f before ≡ left → (wrong : Bool)
        → window_marks (enabled f && leb left (c.n - c.min) && known_p c f && wrong) opened (eqb left 0) (enabled f && leb left (c.n - c.min) && not (known_p c f))
        ≡ tracked_marks c w f before wrong
    unfolding tracked_marks compares
    marks-are before l wrong = rw (tests-is before l, o, l, t) refl

    pub value-steps : after c w f w ≡ left → (row : ℕ)
        → row ≡ row_of (window_marks (enabled f && leb left (c.n - c.min) && known_p c f && not (eqb (P c f) c.value)) opened (eqb left 0) (enabled f && leb left (c.n - c.min) && not (known_p c f)))
        → StepsTo value c w f row left
    unfolding step_marks_of step_open_of
    value-steps l row r = record { row_is = r ∙ ap row_of (marks-are w l (not (eqb (P c f) c.value))); word_is = sym l }

    -- kind 8: a window without a reference, and one that has it
    module _ (l : after c w f (left_in w) ≡ left) where
      pub first-steps : holds w ≡ false → (row next : ℕ) → row ≡ row_of (window_marks false opened (eqb left 0) (enabled f && leb left (c.n - c.min) && not (known_p c f)))
          → next ≡ cond (eqb left 0) 0 (left + cond (enabled f && leb left (c.n - c.min) && known_p c f) (with_reference (P c f)) 0) → StepsTo stability c w f row next
      unfolding step_marks_of step_open_of held compares
      first-steps h row next r n =
          let tested = enabled f && leb left (c.n - c.min) in
          record {
            row_is = r ∙ ap row_of (rw h (ap (λ (b : Bool). window_marks b opened (eqb left 0) (tested && not (known_p c f))) (sym (and-false (tested && known_p c f))) ∙ marks-are (left_in w) l false));
            word_is = n ∙ rw (h, l, tests-is (left_in w) l) refl;
          }

      pub compared-steps : holds w ≡ true → leb left (c.n - c.min) ≡ true → (row next : ℕ)
          → row ≡ row_of (window_marks (enabled f && known_p c f && not (eqb (P c f) (reference_in w))) opened (eqb left 0) (enabled f && not (known_p c f)))
          → next ≡ cond (eqb left 0) 0 (left + with_reference (reference_in w)) → StepsTo stability c w f row next
      unfolding step_marks_of step_open_of held
      compared-steps h m row next r n =
          let wrong = not (eqb (P c f) (reference_in w)) in
          record {
            row_is = r ∙ ap row_of (rw h (rw (m, and-true (enabled f)) at (marks-are (left_in w) l wrong)));
            word_is = n ∙ rw (h, l) refl;
          }

  -- ---- nothing is open

  module _ (z : w ≡ 0) where
    trigger-only : triggered c w f ≡ (enabled f && eqb (Q c f) 1)
    unfolding triggered pends
    trigger-only = rw z (and-true (enabled f && eqb (Q c f) 1))

    opens-only : opens c w f ≡ (enabled f && eqb (Q c f) 1)
    unfolding opens pends
    opens-only = rw (trigger-only, z) refl

    module _ (none : (enabled f && eqb (Q c f) 1) ≡ false) where
      pub idle-value : StepsTo value c w f 0 0
      unfolding step_marks_of step_open_of tracked_marks compares tests after row_of
      idle-value = record { row_is = simp (opens-only, trigger-only, none, and-false); word_is = rw (trigger-only, none, z) refl }

      idle-stability : StepsTo stability c w f 0 0
      unfolding step_marks_of step_open_of tracked_marks compares tests after row_of
      idle-stability = record { row_is = simp (opens-only, trigger-only, none, and-false); word_is = rw (trigger-only, none, z) refl }

    -- a trigger opens a window
    module _ (seen : (enabled f && eqb (Q c f) 1) ≡ true) where
      pub opened-trigger : triggered c w f ≡ true
      opened-trigger = trigger-only ∙ seen

      pub opened-window : opens c w f ≡ true
      opened-window = opens-only ∙ seen

      pub opened-left : (before : ℕ) → after c w f before ≡ c.n
      unfolding after
      opened-left before = rw opened-trigger refl

  -- ---- whether a trigger is seen decides where nothing is open

  module _ (seen : Bool) (is : seen ≡ (enabled f && eqb (Q c f) 1)) where
    trigger_is : triggered c w f ≡ (seen && eqb w 0)
    unfolding triggered pends
    trigger_is = rw (is, zero_test w) refl

    opens-is : opens c w f ≡ (not (eqb w 0) || (seen && eqb w 0))
    unfolding opens pends
    opens-is = rw (trigger_is, zero_test w) (ap (λ (b : Bool). b || (seen && not (ltb 0 w))) (sym (not-not (ltb 0 w))))

    seen-is : opens c w f ≡ (not (eqb w 0) || seen)
    seen-is = opens-is ∙ by (eqb w 0) seen
      where
        by : (z x : Bool) → (not z || (x && z)) ≡ (not z || x)
        by true x = and-true x
        by false x = refl

    pub seen-opens : (not (eqb w 0) || seen) ≡ true → opens c w f ≡ true
    seen-opens e = seen-is ∙ e

    pub idle-seen : (not (eqb w 0) || seen) ≡ false → StepsTo stability c w f 0 0
    idle-seen e = let n = nothing (eqb w 0) seen e in idle-stability (eqb-true w 0 n.0) (sym is ∙ n.1)
      where
        nothing : (z x : Bool) → (not z || x) ≡ false → (z ≡ true) × (x ≡ false)
        nothing true false e = (refl, refl)
        nothing true true e = absurd (of-false e tt)
        nothing false x e = absurd (of-false e tt)

  -- a window that is open was opened by this cycle's trigger where nothing was before it
  module _ (o : opens c w f ≡ true) where
    pub window-trigger : triggered c w f ≡ eqb w 0
    unfolding opens triggered pends
    window-trigger = by (ltb 0 w) (enabled f && eqb (Q c f) 1) o ∙ sym (zero_test w)
      where
        by : (p x : Bool) → (p || (x && not p)) ≡ true → (x && not p) ≡ not p
        by true x e = and-false x
        by false x e = e

    pub window-left : (before : ℕ) → after c w f before ≡ cond (eqb w 0) c.n (before - 1)
    unfolding after
    window-left before = rw window-trigger refl

  -- ---- a window is open

  module _ (some : 0 < w) where
    pub no-trigger : triggered c w f ≡ false
    unfolding triggered pends
    no-trigger = rw (lt-ltb 0 w some) (and-false (enabled f && eqb (Q c f) 1))

    pub open-window : opens c w f ≡ true
    unfolding opens pends
    open-window = rw (lt-ltb 0 w some) refl

    pub left-of : (before : ℕ) → after c w f before ≡ before - 1
    unfolding after
    left-of before = rw no-trigger refl

-- ---- the word of a window without a reference, where b says that the cycle is tested

pub first_taken : (left x : ℕ) (b : Bool) → (b && not (eqb left 0)) ≡ true → left + x ≡ cond (eqb left 0) 0 (left + cond b x 0)
first_taken left x b h = by b (eqb left 0) h
  where
    by : (b z : Bool) → (b && not z) ≡ true → left + x ≡ cond z 0 (left + cond b x 0)
    by true false e = refl
    by true true e = absurd (of-true e)
    by false z e = absurd (of-true e)

pub first-none : (left x : ℕ) (b : Bool) → (b && not (eqb left 0)) ≡ false → left ≡ cond (eqb left 0) 0 (left + cond b x 0)
first-none left x b h = by b (eqb left 0) refl h
  where
    by : (b z : Bool) → eqb left 0 ≡ z → (b && not z) ≡ false → left ≡ cond z 0 (left + cond b x 0)
    by true true e g = eqb-true left 0 e
    by true false e g = absurd (of-false g tt)
    by false true e g = eqb-true left 0 e
    by false false e g = omega arith

-- ---- a word with a reference

-- it is 2^32 + r times 2^16, and the cycles left
same-reference : (w x : ℕ) → 2 ^ 48 ≤ w → eqb (x + 2 ^ 32) (w / 2 ^ 16) ≡ eqb x (reference_in w)
same-reference w x h =
    iff-eq (eqb (x + 2 ^ 32) (w / 2 ^ 16)) (eqb x (reference_in w)) (λ e. of-true (eq-eqb x (reference_in w) (omega (arith, eqb→eq (x + 2 ^ 32) (w / 2 ^ 16) e))))
    (λ e. of-true (eq-eqb (x + 2 ^ 32) (w / 2 ^ 16) (omega (arith, eqb→eq x (reference_in w) e))))

-- the last cycle
pub last-left : (l : ℕ) → 0 < l → eqb l 1 ≡ eqb (l - 1) 0
last-left l h =
    iff-eq (eqb l 1) (eqb (l - 1) 0) (λ e. of-true (eq-eqb (l - 1) 0 (omega (arith, eqb→eq l 1 e)))) (λ e. of-true (eq-eqb l 1 (omega (arith, eqb→eq (l - 1) 0 e))))

-- one cycle fewer
pub word-before : (w : ℕ) → 2 ^ 48 ≤ w → 0 < left_in w → w - 1 ≡ left_in w - 1 + with_reference (reference_in w)
word-before w h l = omega arith

-- the row of a step of such a word, from what the code has read: a value that is not known is not used
pub compared-row : (c : Config) (w : ℕ) (f : Frame) → 2 ^ 48 ≤ w → 0 < left_in w → (e k : Bool) (x row : ℕ) → e ≡ enabled f → k ≡ known_p c f
    → (known_p c f ≡ true → x ≡ P c f) → row ≡ row_of (window_marks (e && k && not (eqb (x + 2 ^ 32) (w / 2 ^ 16))) false (eqb (left_in w) 1) (e && not k))
    → row ≡ row_of (window_marks (enabled f && known_p c f && not (eqb (P c f) (reference_in w))) false (eqb (left_in w - 1) 0) (enabled f && not (known_p c f)))
compared-row c w f h l e k x row a d b r =
    r ∙ rw (a, d, same-reference w x h, last-left (left_in w) l) (ap (λ (m : Bool). row_of (window_marks m false (eqb (left_in w - 1) 0) (enabled f && not (known_p c f)))) (by (known_p c f) b))
  where
    by : (k : Bool) → (k ≡ true → x ≡ P c f) → (enabled f && k && not (eqb x (reference_in w))) ≡ (enabled f && k && not (eqb (P c f) (reference_in w)))
    by true p = rw (p refl) refl
    by false p = rw (and-false (enabled f)) refl

-- the reference that a cycle gives, by the same
pub reference-known : (t k : Bool) (x y : ℕ) → (k ≡ true → x ≡ y) → cond (t && k) (with_reference x) 0 ≡ cond (t && k) (with_reference y) 0
reference-known true true x y p = rw (p refl) refl
reference-known true false x y p = refl
reference-known false k x y p = refl
