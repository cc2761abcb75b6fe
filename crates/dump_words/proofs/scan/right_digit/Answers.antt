use Rattle.dump_words.specs.Gather.{right_digit}
use Rattle.dump_words.proofs.scan.right_digit.Goals as goal

pub returns : goal.returns
unfolding right_digit
returns c = simp (c.phase_of-phase.ensures, c.add_digit-right.ensures)
