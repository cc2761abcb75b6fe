-- `kept_words::scan::first_impossible` meets its contract. The loop's invariant: the words passed are possible. A block is not empty, so the measure, what is left
-- of the words, falls. Assumes nothing.
use Rattle.std.proofs.Common.{◌-◌, length}
use Rattle.kept_words.proofs.Scans.{Passed}
use Rattle.kept_words.proofs.scan.first_impossible.Given as goal

abbrev pub invariant-loop-t : goal.invariant-loop-t
invariant-loop-t l = Passed l.c l.words 0 (length l.words) l.t

abbrev pub decreases-loop-t : goal.decreases-loop-t
decreases-loop-t l = l.n - l.t
