use Rattle.dump_pieces.proofs.Laws as laws
use Rattle.dump_pieces.proofs.pieces.take_piece.Goals as goal

pub returns : goal.returns
returns c = laws.fed-made c.args.state c.args.frames.now _ _ _ c.answer_of-answer.ensures c.args.bytes.now c.read_bytes-reader.ensures c.stand.ensures
