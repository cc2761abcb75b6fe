use Rattle.dump_reader.specs.Runs.{Gathers}
use Prim.Native.Nat.{ℕ}
use mathlib.Core.List.{List}
use Rattle.dump_reader.proofs.run.gather_run.Given as goal

abbrev pub invariant-loop-i : goal.invariant-loop-i
invariant-loop-i g l = (d : List ℕ) → Gathers l.bytes (g.G.Gather.word l.initial.kept) l.from d (g.G.Gather.word l.kept) l.i d
