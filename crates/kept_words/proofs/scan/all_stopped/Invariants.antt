-- `kept_words::scan::all_stopped` meets its contract. The loop's invariant: no bits where the words passed are all 2^63, since the difference to another has some.
-- The measure is what is left of them. Assumes nothing.
use Rattle.std.proofs.Common.{◌≡◌, ℕ, eqb, get_or}
use Rattle.bits.specs.Bits.{every}
use Rattle.rules.specs.Rules.{stopped_word}
use Rattle.kept_words.proofs.scan.all_stopped.Given as goal

abbrev pub invariant-loop-word : goal.invariant-loop-word
invariant-loop-word l = eqb l.bits 0 ≡ every l.word-index (λ (j : ℕ). eqb (get_or l.block j 0) stopped_word)
