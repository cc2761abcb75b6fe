use Rattle.dump_words.specs.Gather.{left_digit}
use Rattle.dump_words.proofs.scan.left_digit.Goals as goal

pub returns : goal.returns
unfolding left_digit
returns c = simp (c.phase_of-phase.ensures, c.add_digit-left.ensures)
