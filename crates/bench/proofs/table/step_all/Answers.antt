-- `bench::table::step_all` meets its contract: `step-asks` is what `step_one` asks, and `stepped-all` the contract at the end. Assumes nothing.
use Prim.Native.Nat.{ℕ, ◌+◌}
use mathlib.Core.Path.{◌≡◌, refl, sym, ap, ◌∙◌}
use mathlib.Core.List.{List}
use native.Mathlib.Numerals.{add-one}
use native.Mathlib.Omega.{arith}
use lib.ListN.{length}
use Rattle.one_checker.specs.One.{stepped_words, stepped_rows}
use Rattle.bench.specs.Bench.{checker_at}
use Rattle.bench.proofs.Steps.{words_to, rows_to, step-asks, stepped-all}
use Rattle.bench.proofs.table.step_all.Goals as goal

pub loop-k-init : goal.loop-k-init
unfolding words_to rows_to
loop-k-init c = (refl, refl)

pub step_one-requires : goal.step_one-requires
step_one-requires c =
    let a = c.args in
    rw (c.loop-k.invariant.0, c.loop-k.invariant.1) (step-asks a.table.now a.frames.now a.words.now a.rows.now c.requires c.loop-k.k c.loop-k-test.true)

pub loop-k-preserved : goal.loop-k-preserved
unfolding words_to rows_to
loop-k-preserved c =
    let a = c.args in
    let t = a.table.now in
    let f = a.frames.now in
    let k = c.loop-k.k in
    let words = words_to t f a.words.now a.rows.now in
    let rows = rows_to t f a.words.now a.rows.now in (
      c.step_one.ensures.0 ∙ ap (λ (ws : List ℕ). stepped_words (checker_at t k) f ws k) c.loop-k.invariant.0 ∙ ap words (sym (add-one k)),
      c.step_one.ensures.1 ∙ ap (λ (ws : List ℕ). stepped_rows (checker_at t k) f ws c.loop-k.rows k) c.loop-k.invariant.0
          ∙ ap (λ (rs : List ℕ). stepped_rows (checker_at t k) f (words k) rs k) c.loop-k.invariant.1 ∙ ap rows (sym (add-one k)),
    )

pub returns : goal.returns
returns c =
    let a = c.args in
    let end : c.loop-k.k ≡ length a.table.now = omega arith in
    let words = c.loop-k.invariant.0 ∙ ap (words_to a.table.now a.frames.now a.words.now a.rows.now) end in
    let rows = c.loop-k.invariant.1 ∙ ap (rows_to a.table.now a.frames.now a.words.now a.rows.now) end in
    rw (words, rows) (stepped-all a.table.now a.frames.now a.words.now a.rows.now c.requires)
