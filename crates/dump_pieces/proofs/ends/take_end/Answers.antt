use Rattle.dump_pieces.proofs.Laws as laws
use Rattle.dump_pieces.proofs.ends.take_end.Goals as goal

pub returns : goal.returns
returns c = laws.ended-made c.args.state c.args.frames.now _ _ _ c.answer_of-answer.ensures c.end_text-reader.ensures _ c.behind_end-standing.ensures c.stand.ensures
