-- `kept_words::scan::first_by_one` meets its contract. The loop's invariant: the words passed are possible. The measure is what is left of them. Assumes nothing.
use Rattle.std.proofs.Common.{◌≡◌, sym, ◌∙◌, add-one, arith}
use Rattle.kept_words.proofs.Scans.{passed_none, passed-one, first-at, first-none}
use Rattle.kept_words.proofs.scan.first_by_one.Goals as goal

pub loop-t-init : goal.loop-t-init
loop-t-init c = passed_none c.args.c c.args.words.now c.args.from c.args.to c.requires.1

pub is_possible-requires : goal.is_possible-requires
is_possible-requires c = c.requires.0

pub returns-then-not-is_possible : goal.returns-then-not-is_possible
returns-then-not-is_possible c =
    let a = c.args in
    first-at a.c a.words.now a.from a.to c.loop-t.invariant (sym c.is_possible.ensures ∙ c.if-not-is_possible.true)

pub loop-t-preserved : goal.loop-t-preserved
loop-t-preserved c =
    let a = c.args in
    let at = c.loop-t in
    rw (add-one at.t) (passed-one a.c a.words.now a.from a.to at.invariant (omega arith) (sym c.is_possible.ensures ∙ c.if-not-is_possible.false))

pub returns : goal.returns
returns c =
    let a = c.args in
    let at = c.loop-t in
    let all : at.t ≡ a.to = omega (arith, at.invariant.high) in
    rw all at (first-none a.c a.words.now a.from a.to at.invariant (omega arith))
