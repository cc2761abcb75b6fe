use Rattle.dump_words.specs.Gather.{text_in, numbers_of}
use mathlib.Core.Path.{◌≡◌}
use lib.ListN.{drop}
use Rattle.dump_words.proofs.text.is_one_of.Given as goal

abbrev pub invariant-loop-k : goal.invariant-loop-k
invariant-loop-k l = text_in l.t (numbers_of l.list) ≡ text_in l.t (numbers_of (drop l.k-index l.list))
