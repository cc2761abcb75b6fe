-- `resume::run::resume` meets its contract. The loop's invariant is `Going`: the run from a has come to cycle t with no cycle from b on where it could
-- stop. A block that is entered where the run does not stop comes further, so the measure, what is left of the record, falls. Assumes nothing.
use Prim.Native.Nat.{◌-◌}
use Rattle.resume.proofs.Going.{Going}
use Rattle.resume.proofs.run.resume.Given as goal

abbrev pub invariant-loop-t : goal.invariant-loop-t
invariant-loop-t l = Going l.c l.trace l.initial.rows l.initial.words l.a l.b l.rows l.words l.t l.own l.kept l.tally.counts

abbrev pub decreases-loop-t : goal.decreases-loop-t
decreases-loop-t l = l.n - l.t
