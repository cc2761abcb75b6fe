-- `one_checker::checker::step_one` meets its contract. Assumes nothing.
use mathlib.Core.Path.{ap}
use lib.ListN.{set}
use Rattle.one_checker.proofs.checker.step_one.Goals as goal

pub returns : goal.returns
returns c =
    let a = c.args in
    let s = rw c.frame_at.ensures at c.step-next.ensures in
    (ap (set a.words.now a.k) s.word_is, ap (set a.rows.now a.k) s.row_is)
