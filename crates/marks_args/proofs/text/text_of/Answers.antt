-- `marks_args::text::text_of` meets its contract: after so many bytes it has what is kept of them. Assumes nothing.
use Rattle.marks_args.proofs.Laws as laws
use Rattle.marks_args.proofs.text.text_of.Goals as goal

pub loop-b-init : goal.loop-b-init
loop-b-init c = laws.text-none c.args.word.now

pub loop-b-preserved : goal.loop-b-preserved
loop-b-preserved c = laws.text-more c.args.word.now _ _ _ c.loop-b.invariant c.loop-b-test.true c.add_text-t.ensures
