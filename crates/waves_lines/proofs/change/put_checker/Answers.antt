-- `waves_lines::change::put_checker` meets its contract: the same row has no lines. Assumes nothing.
use Rattle.waves_put.proofs.Putting.{put-none}
use Rattle.waves_lines.proofs.Lines.{same_row}
use Rattle.waves_lines.proofs.change.put_checker.Goals as goal

pub returns-then-row-before : goal.returns-then-row-before
returns-then-row-before c =
    let a = c.args in
    rw c.if-row-before.true (rw (same_row a.before a.checker) (put-none a.out.now a.at))
