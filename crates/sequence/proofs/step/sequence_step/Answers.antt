-- `sequence::step::sequence_step` meets its contract: its callees' answers are one step's marks and next open word. Assumes nothing.
use Prim.Native.Nat.{ℕ, suc, ◌+◌, ◌-◌, ◌*◌, ◌%◌, ◌^◌, ◌<◌, ◌≤◌}
use mathlib.Core.Path.{◌≡◌, refl, sym, subst, ◌∙◌}
use mathlib.Core.Bool.{Bool, false, not, ◌&&◌, cond}
use native.Mathlib.Nat.{lt_of_lt_of_le}
use native.Mathlib.Omega.{arith}
use lib.Bits.{bit_and}
use lib.Dec.{eqb}
use lib.Pow.{pow_mono}
use borrow.Author.Tests.{eq-eqb, ne_eqb}
use Rattle.bits.specs.Bits.{to_bit, bit, number, without}
use Rattle.bits.proofs.Bits.{number_lt}
use Rattle.rules.specs.declared.config.Config.{Config}
use Rattle.rules.specs.declared.frame.Frame.{Frame}
use Rattle.rules.specs.Config.{min_events, max_events}
use Rattle.rules.specs.Config.Family.{sequence}
use Rattle.rules.specs.Rules.{row_of, check_marks}
use Rattle.rules.specs.Step.{StepsTo}
use Rattle.sequence.specs.declared.step.Events.{Events}
use Rattle.sequence.specs.Events.{Sees}
use Rattle.sequence.proofs.SequenceCode.{fits, start, start-waits, start-free, ended-lt, ends_low, opened-row, steps}
use Rattle.sequence.proofs.step.sequence_step.Goals as goal

word_low : (k : Config) (word : ℕ) → (min_events ≤ k.n) × (k.n ≤ max_events) × (word < 2 ^ (k.n - 1)) → word < 2 ^ 32
word_low k word fit =
    let l : k.n - 1 ≤ 32 = omega (arith, fit.1) in
    lt_of_lt_of_le fit.2 (pow_mono l)

-- the row and the next open word are the step's, for whatever frame has these events
stepped : (k : Config) (word : ℕ) (events : Events) → (min_events ≤ k.n) × (k.n ≤ max_events) × (word < 2 ^ (k.n - 1))
    → (ended : ℕ) → ended ≡ without (word * 2) events.seen
    → (b : Bool) (next row : ℕ)
    → b ≡ start k word events.seen
    → next ≡ number (k.n - 1) (λ (j : ℕ). bit (word * 2 + to_bit b) j && bit events.seen j)
    → (failure doubt opened : Bool)
    → failure ≡ cond (eqb k.kind 0) (bit (without ended events.unknown) (k.n - 1)) (not (eqb (without ended events.unknown) 0))
    → doubt ≡ cond (eqb k.kind 0) (bit (bit_and ended events.unknown) (k.n - 1)) (not (eqb (bit_and ended events.unknown) 0))
    → opened ≡ cond (eqb k.kind 0) (bit next (k.n - 2)) b
    → row ≡ row_of (check_marks failure opened doubt)
    → (f : Frame) → Sees k f events → StepsTo sequence k word f row next
stepped k word events fit ended ends b next row st n failure doubt opened g d o r f sees =
    steps k word f events.seen fit.0 sees.seen_are events.unknown sees.unknown_are fit.2 ended ends b next row st n
    (r ∙ rw (g, d, o) refl)

-- the marks of attempts that end, with mark 4 where one starts
ends_below : (ended unknown row : ℕ) → row ≡ row_of (check_marks (not (eqb (without ended unknown) 0)) false (not (eqb (bit_and ended unknown) 0))) → row ≤ 33
ends_below ended unknown row is = rw is (ends_low (not (eqb (without ended unknown) 0)) (not (eqb (bit_and ended unknown) 0)))

opening : (k : Config) (word : ℕ) (events : Events) → (min_events ≤ k.n) × (k.n ≤ max_events) × (word < 2 ^ (k.n - 1))
    → (ended : ℕ) → ended ≡ without (word * 2) events.seen
    → (k.kind ≡ 0 → ⊥)
    → (row : ℕ) → row ≡ row_of (check_marks (not (eqb (without ended events.unknown) 0)) false (not (eqb (bit_and ended events.unknown) 0)))
    → (b : Bool) (next opened : ℕ) → opened ≡ to_bit b
    → b ≡ start k word events.seen
    → next ≡ number (k.n - 1) (λ (j : ℕ). bit (word * 2 + to_bit b) j && bit events.seen j)
    → (f : Frame) → Sees k f events → StepsTo sequence k word f (row + 4 * opened) next
opening k word events fit ended ends other row row_is b next opened is st n =
    let kind = ne_eqb k.kind 0 other in
    let failure = not (eqb (without ended events.unknown) 0) in
    let doubt = not (eqb (bit_and ended events.unknown) 0) in
    stepped k word events fit ended ends b next (row + 4 * opened) st n failure doubt b (rw kind refl) (rw kind refl) (rw kind refl)
    (rw (row_is, is) (opened-row failure b doubt))

pub ended_of-ended-requires : goal.ended_of-ended-requires
ended_of-ended-requires c = word_low c.args.c c.args.word (fits c.args.c c.args.word c.requires)

pub advanced-next-requires : goal.advanced-next-requires
advanced-next-requires c =
    let fit = fits c.args.c c.args.word c.requires in
    (word_low c.args.c c.args.word fit, omega (arith, fit.0), fit.1)

pub oldest_row-requires : goal.oldest_row-requires
oldest_row-requires c =
    let fit = fits c.args.c c.args.word c.requires in
    (omega (arith, fit.0), fit.1, ended-lt c.args.c c.args.word c.args.events.seen fit.0 fit.2 c.ended_of-ended.result c.ended_of-ended.ensures)

pub overflow_sub-n : goal.overflow_sub-n
overflow_sub-n c = let fit = fits c.args.c c.args.word c.requires in omega (arith, fit.0)

pub highest_bit-requires : goal.highest_bit-requires
highest_bit-requires c =
    let a = c.args in
    let fit = fits a.c a.word c.requires in
    let n : suc (a.c.n - 2) ≡ a.c.n - 1 = omega (arith, fit.0) in (
      omega (arith, fit.1),
      rw n
          (subst (λ (x : ℕ). x < 2 ^ (a.c.n - 1)) (sym c.advanced-next.ensures)
          (number_lt (a.c.n - 1) (λ (j : ℕ). bit (a.word * 2 + to_bit (eqb (a.events.seen % 2) 1)) j && bit a.events.seen j))),
    )

pub overflow_mul-marks : goal.overflow_mul-marks
overflow_mul-marks c = omega (arith, c.highest_bit.ensures.1)

pub overflow_add-marks : goal.overflow_add-marks
overflow_add-marks c =
    let a = c.args in
    let ended = c.ended_of-ended.result in
    omega (arith, c.highest_bit.ensures.1, c.oldest_row.ensures, ends_low (bit (without ended a.events.unknown) (a.c.n - 1)) (bit (bit_and ended a.events.unknown) (a.c.n - 1)))

pub returns-then-c-eq0 : goal.returns-then-c-eq0
returns-then-c-eq0 c =
    let a = c.args in
    let next = c.advanced-next in
    let x = c.ended_of-ended.result in
    let kind = eq-eqb a.c.kind 0 c.if-c-eq0.true in
    let failure = bit (without x a.events.unknown) (a.c.n - 1) in
    let doubt = bit (bit_and x a.events.unknown) (a.c.n - 1) in
    let opened = bit next.result (a.c.n - 2) in
    stepped a.c a.word a.events (fits a.c a.word c.requires) x c.ended_of-ended.ensures
    (eqb (a.events.seen % 2) 1) next.result (c.oldest_row.result + 4 * c.highest_bit.result)
    (start-free a.c a.word a.events.seen (λ e. omega (arith, c.if-c-eq0.true, e))) next.ensures
    failure doubt opened (rw kind refl) (rw kind refl) (rw kind refl)
    (rw (c.oldest_row.ensures, c.highest_bit.ensures.0) (opened-row failure opened doubt))

pub overflow_mul-marks-then-c-eq2 : goal.overflow_mul-marks-then-c-eq2
overflow_mul-marks-then-c-eq2 c = omega (arith, c.to_bit.ensures.upper_bound)

pub overflow_add-marks-then-c-eq2 : goal.overflow_add-marks-then-c-eq2
overflow_add-marks-then-c-eq2 c =
    omega (arith, c.to_bit.ensures.upper_bound, ends_below c.ended_of-ended.result c.args.events.unknown c.ended_row-row.result c.ended_row-row.ensures)

pub advanced-requires : goal.advanced-requires
advanced-requires c =
    let fit = fits c.args.c c.args.word c.requires in
    (word_low c.args.c c.args.word fit, omega (arith, fit.0), fit.1)

pub returns-then-c-eq2 : goal.returns-then-c-eq2
returns-then-c-eq2 c =
    let a = c.args in
    opening a.c a.word a.events (fits a.c a.word c.requires) c.ended_of-ended.result c.ended_of-ended.ensures c.if-c-eq0.false
    c.ended_row-row.result c.ended_row-row.ensures
    (eqb (a.events.seen % 2) 1 && eqb a.word 0) c.advanced.result c.to_bit.result c.to_bit.ensures.value
    (start-waits a.c a.word a.events.seen c.if-c-eq2.true) c.advanced.ensures

pub overflow_mul-marks-2 : goal.overflow_mul-marks-2
overflow_mul-marks-2 c = omega (arith, c.to_bit-2.ensures.upper_bound)

pub overflow_add-marks-2 : goal.overflow_add-marks-2
overflow_add-marks-2 c =
    omega (arith, c.to_bit-2.ensures.upper_bound, ends_below c.ended_of-ended.result c.args.events.unknown c.ended_row-row.result c.ended_row-row.ensures)

pub advanced-requires-2 : goal.advanced-requires-2
advanced-requires-2 c =
    let fit = fits c.args.c c.args.word c.requires in
    (word_low c.args.c c.args.word fit, omega (arith, fit.0), fit.1)

pub returns : goal.returns
returns c =
    let a = c.args in
    opening a.c a.word a.events (fits a.c a.word c.requires) c.ended_of-ended.result c.ended_of-ended.ensures c.if-c-eq0.false
    c.ended_row-row.result c.ended_row-row.ensures
    (eqb (a.events.seen % 2) 1) c.advanced-2.result c.to_bit-2.result c.to_bit-2.ensures.value
    (start-free a.c a.word a.events.seen c.if-c-eq2.false) c.advanced-2.ensures
