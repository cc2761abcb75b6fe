-- `marks_args::text::number_of` meets its contract: after so many bytes it has what is kept of them. Assumes nothing.
use Rattle.marks_args.proofs.Laws as laws
use Rattle.marks_args.proofs.text.number_of.Goals as goal

pub loop-b-init : goal.loop-b-init
loop-b-init c = laws.number-none c.args.word.now

pub loop-b-preserved : goal.loop-b-preserved
loop-b-preserved c = laws.number_more c.args.word.now _ _ _ c.loop-b.invariant c.loop-b-test.true c.add_digit-n.ensures
