-- `entries::entry::write_attempts` meets its contract: each turn writes the entry of the highest bit and takes the bit away. Assumes nothing.
use Rattle.entries.proofs.Writing.{Writing}
use Rattle.entries.proofs.entry.write_attempts.Given as goal

abbrev pub invariant-loop-rest : goal.invariant-loop-rest
invariant-loop-rest l = Writing l.lost l.t l.initial.list l.at l.list l.rest l.next

abbrev pub decreases-loop-rest : goal.decreases-loop-rest
decreases-loop-rest l = l.rest
