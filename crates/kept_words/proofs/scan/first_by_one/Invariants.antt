-- `kept_words::scan::first_by_one` meets its contract. The loop's invariant: the words passed are possible. The measure is what is left of them. Assumes nothing.
use Rattle.std.proofs.Common.{◌-◌}
use Rattle.kept_words.proofs.Scans.{Passed}
use Rattle.kept_words.proofs.scan.first_by_one.Given as goal

abbrev pub invariant-loop-t : goal.invariant-loop-t
invariant-loop-t l = Passed l.c l.words l.from l.to l.t

abbrev pub decreases-loop-t : goal.decreases-loop-t
decreases-loop-t l = l.to - l.t
