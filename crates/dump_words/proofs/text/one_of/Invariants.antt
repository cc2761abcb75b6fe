use Rattle.std.specs.Slice.Iter.{chunks_exact_rest, chunks_exact_size}
use Rattle.dump_words.specs.Gather.{text_in}
use mathlib.Core.Path.{◌≡◌}
use Rattle.dump_words.proofs.text.one_of.Given as goal

abbrev pub invariant-loop-k : goal.invariant-loop-k
invariant-loop-k l =
    (goal.iterator-loop-k).can_next l.k-iterator × (goal.iterator-loop-k).is_finite l.k-iterator
    × (chunks_exact_size l.k-iterator ≡ 3) × (text_in l.t l.list ≡ text_in l.t (chunks_exact_rest l.k-iterator))
