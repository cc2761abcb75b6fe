-- `kept_words::scan::first_in_block` meets its contract: words of a checker that goes on are possible, and so are words of 2^63 where that is. Assumes nothing.
use Rattle.std.proofs.Common.{sym, eqb, ◌∙◌, eq-eqb}
use Rattle.rules.specs.Rules.{stopped_word}
use Rattle.rules.specs.Possible.{going_possible}
use Rattle.bits.proofs.Tests.{is_true, of-true, and_left, and_right}
use Rattle.kept_words.proofs.Scans.{every-block, going-passed, stopped-passed}
use Rattle.kept_words.proofs.scan.first_in_block.Goals as goal

pub returns-then-is_possible-all_stopped : goal.returns-then-is_possible-all_stopped
returns-then-is_possible-all_stopped c =
    let a = c.args in
    let all = c.all_stopped in
    let can = c.is_possible in
    let both = of-true c.if-is_possible-all_stopped.true in
    stopped-passed a.c a.words.now a.from a.count (sym can.ensures ∙ is_true can.result (and_left can.result all.result both))
    (sym (every-block a.c a.words.now a.from a.count (λ w. eqb w stopped_word) c.requires.2) ∙ sym all.ensures ∙ is_true all.result (and_right can.result all.result both))

pub returns-then-misfits_in-eq0 : goal.returns-then-misfits_in-eq0
returns-then-misfits_in-eq0 c =
    let a = c.args in
    let m = c.misfits_in in
    going-passed a.c a.words.now a.from a.count (sym (every-block a.c a.words.now a.from a.count (going_possible a.c) c.requires.2) ∙ sym m.ensures ∙ eq-eqb m.result 0 c.if-misfits_in-eq0.true)
