-- `marks_args::text::number_of` meets its contract: after so many bytes it has what is kept of them. Assumes nothing.
use mathlib.Core.Path.{◌≡◌}
use lib.ListN.{take}
use Rattle.dump_words.specs.Gather.{no_number}
use Rattle.dump_gathered.specs.Gathered.{number_of}
use Rattle.marks_args.proofs.text.number_of.Given as goal

abbrev pub invariant-loop-b : goal.invariant-loop-b
invariant-loop-b l = l.n ≡ number_of no_number (take l.b-index l.word)
