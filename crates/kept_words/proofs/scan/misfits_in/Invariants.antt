-- `kept_words::scan::misfits_in` meets its contract. The loop's invariant: no bits where each of the words passed is possible for a checker that goes on. The
-- measure is what is left of them. Assumes nothing.
use Rattle.std.proofs.Common.{◌≡◌, ℕ, eqb, get_or}
use Rattle.bits.specs.Bits.{every}
use Rattle.rules.specs.Possible.{going_possible}
use Rattle.kept_words.proofs.scan.misfits_in.Given as goal

abbrev pub invariant-loop-word : goal.invariant-loop-word
invariant-loop-word l = eqb l.bits 0 ≡ every l.word-index (λ (j : ℕ). going_possible l.c (get_or l.block j 0))
