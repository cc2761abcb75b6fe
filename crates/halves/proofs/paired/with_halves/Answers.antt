-- `halves::paired::with_halves` meets its contract. The loop's invariant: each sum is its mark's weight times a word with two counts, of the first k rows of the
-- one half below and of the other above. These are fewer than 1,024 rows in a half, so one more of each fits. A turn adds row k of each half. The measure is
-- what is left of a half. After it the two counts are those of both halves, side by side in the rows, so together they are those of the whole.
-- Assumes nothing.
use Prim.Native.Nat.{ℕ, ◌+◌, ◌*◌, ◌/◌, ◌%◌, ◌^◌, ◌<◌, ◌≤◌}
use mathlib.Core.Path.{◌≡◌, sym, ap, ap₂, ◌∙◌}
use mathlib.Core.List.{List}
use native.Mathlib.Nat.{zero-mul}
use native.Mathlib.Omega.{arith}
use lib.ListN.{get_or, get_or-replicate}
use Rattle.bits.specs.Bits.{to_bit, bit}
use Rattle.rules.specs.Rules.{marks}
use Rattle.halves.specs.Rows.{marks_in}
use Rattle.halves.proofs.Counted.{marks-le, count-more, marks-split}
use Rattle.halves.proofs.Weights.{both-fit, both-more, both-counts}
use Rattle.halves.proofs.paired.with_halves.Invariants.{first}
use Rattle.halves.proofs.paired.with_halves.Goals as goal

first-none : (rows : List ℕ) (a i : ℕ) → first rows a 0 i ≡ 0
first-none rows a i = omega (arith, marks-le rows i a (a + 0))

first_more : (rows : List ℕ) (a k i : ℕ) → first rows a (k + 1) i ≡ first rows a k i + to_bit (bit (get_or rows (a + k) 0) i)
first_more rows a k i = ap (marks_in rows i a) (omega arith) ∙ count-more rows i a (a + k) (omega arith)

first-le : (rows : List ℕ) (a k i : ℕ) → first rows a k i ≤ k
first-le rows a k i = omega (arith, marks-le rows i a (a + k))

pub loop-k-init : goal.loop-k-init
loop-k-init c =
    let args = c.args in
    let rows = args.rows.now in (
      omega arith,
      λ i h.
          get_or-replicate marks i 0 0 h ∙ sym (zero-mul (2 ^ i))
          ∙ ap₂ (λ (m n : ℕ). (m * 65536 + n) * 2 ^ i) (sym (first-none rows (args.from + args.half) i)) (sym (first-none rows args.from i)),
    )

pub with-paired-requires : goal.with-paired-requires
with-paired-requires c i h =
    let at = c.loop-k in
    let args = c.args in
    let rows = args.rows.now in
    let low = first rows args.from at.k i in
    let high = first rows (args.from + args.half) at.k i in
    let few : low < 1024 = omega (arith, first-le rows args.from at.k i) in
    let few' : high < 1024 = omega (arith, first-le rows (args.from + args.half) at.k i) in
    omega (arith, at.invariant.1 i h, both-fit low high i few few' (omega arith))

pub loop-k-preserved : goal.loop-k-preserved
loop-k-preserved c =
    let at = c.loop-k in
    let args = c.args in
    let rows = args.rows.now in
    let middle = args.from + args.half in (
      omega arith,
      λ i h.
          let low = to_bit (bit (get_or rows (args.from + at.k) 0) i) in
          let high = to_bit (bit (get_or rows (middle + at.k) 0) i) in
          c.with-paired.ensures i h ∙ ap (λ (n : ℕ). n + (high * 65536 + low) * 2 ^ i) (at.invariant.1 i h)
          ∙ both-more (first rows args.from at.k i) (first rows middle at.k i) low high (2 ^ i)
          ∙ ap₂ (λ (m n : ℕ). (m * 65536 + n) * 2 ^ i) (sym (first_more rows middle at.k i)) (sym (first_more rows args.from at.k i)),
    )

-- after the loop the sums hold the counts of both halves, which are those of all the rows
all-counted : (rows sums : List ℕ) (from half k i : ℕ) → half ≤ 1024 → k ≡ half
    → get_or sums i 0 ≡ (first rows (from + half) k i * 65536 + first rows from k i) * 2 ^ i
    → get_or sums i 0 / 2 ^ i % 65536 + get_or sums i 0 / 2 ^ i / 65536 ≡ marks_in rows i from (from + half + half)
all-counted rows sums from half k i few end e =
    let middle = from + half in
    ap (λ (n : ℕ). n / 2 ^ i % 65536 + n / 2 ^ i / 65536) e
    ∙ both-counts (first rows from k i) (first rows middle k i) i (omega (arith, first-le rows from k i))
    ∙ ap (λ (j : ℕ). first rows from j i + first rows middle j i) end
    ∙ sym (marks-split rows i from middle (middle + half) (omega arith) (omega arith))

pub onto-requires : goal.onto-requires
onto-requires c i h =
    let args = c.args in
    let at = c.loop-k in
    omega (
      arith,
      all-counted args.rows.now at.paired.sums args.from args.half at.k i c.requires.half_bound.0 (omega arith) (at.invariant.1 i h),
      marks-le args.rows.now i args.from (args.from + args.half + args.half),
      c.requires.by_index i h,
    )

pub returns : goal.returns
returns c i h =
    let args = c.args in
    let at = c.loop-k in
    c.onto.ensures i h
    ∙ ap (λ (n : ℕ). get_or args.tally.counts i 0 + n)
    (all-counted args.rows.now at.paired.sums args.from args.half at.k i c.requires.half_bound.0 (omega arith) (at.invariant.1 i h))
