-- `kept_words::scan::first_impossible` meets its contract. The loop's invariant: the words passed are possible. A block is not empty, so the measure, what is left
-- of the words, falls. Assumes nothing.
use Rattle.std.proofs.Common.{◌≡◌, length, zero-le, arith}
use Rattle.kept_words.proofs.Scans.{passed_none, first-none, first-in, passed-block}
use Rattle.kept_words.proofs.scan.first_impossible.Goals as goal

pub loop-t-init : goal.loop-t-init
loop-t-init c = let a = c.args in passed_none a.c a.words.now 0 (length a.words.now) zero-le

-- a block has some of the words that are left
pub first_in_block-reached-requires : goal.first_in_block-reached-requires
first_in_block-reached-requires c = (
  c.requires,
  omega arith,
  omega arith,
)

pub overflow_add-t : goal.overflow_add-t
overflow_add-t c =
    omega arith

pub returns-then-reached-t : goal.returns-then-reached-t
returns-then-reached-t c =
    let a = c.args in
    first-in a.c a.words.now 0 (length a.words.now) c.loop-t.invariant (omega arith) c.first_in_block-reached.ensures c.if-reached-t.true

pub overflow_add-t-in-loop-t : goal.overflow_add-t-in-loop-t
overflow_add-t-in-loop-t c =
    omega arith

pub loop-t-smaller : goal.loop-t-smaller
loop-t-smaller c =
    omega arith

pub loop-t-preserved : goal.loop-t-preserved
loop-t-preserved c =
    let a = c.args in
    passed-block a.c a.words.now 0 (length a.words.now) c.loop-t.invariant (omega arith) c.first_in_block-reached.ensures c.if-reached-t.false

pub returns : goal.returns
returns c =
    let a = c.args in
    let at = c.loop-t in
    let all : at.t ≡ length a.words.now = omega (arith, at.invariant.high) in
    rw all at (first-none a.c a.words.now 0 (length a.words.now) at.invariant (omega arith))
