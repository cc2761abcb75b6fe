-- `marks_args::text::text_of` meets its contract: after so many bytes it has what is kept of them. Assumes nothing.
use mathlib.Core.Path.{◌≡◌}
use lib.ListN.{take}
use Rattle.dump_words.specs.Gather.{no_text}
use Rattle.dump_gathered.specs.Gathered.{text_of}
use Rattle.marks_args.proofs.text.text_of.Given as goal

abbrev pub invariant-loop-b : goal.invariant-loop-b
invariant-loop-b l = l.t ≡ text_of no_text (take l.b-index l.word)
