use Rattle.dump_state.proofs.Laws as laws
use Rattle.dump_state.specs.Pieces.{end_of, refusing}
use mathlib.Core.Path.{◌∙◌, ap}
use Rattle.dump_pieces.proofs.ends.end.Goals as goal

pub returns-then-state-ne0 : goal.returns-then-state-ne0
unfolding end_of
returns-then-state-ne0 c = laws.answers-again c.args.state c.args.frames.now _ _ c.if-state-ne0.true c.give_again.ensures

pub returns-in-Err : goal.returns-in-Err
unfolding end_of
returns-in-Err c = laws.answers-refused c.args.state c.args.frames.now _ _ c.if-state-ne0.false _ c.length_refusal.ensures _ c.in-Err.is (c.refuse.ensures ∙ ap (refusing c.args.state) c.number.ensures)

pub take_end-requires : goal.take_end-requires
take_end-requires c = laws.fit-most _ _ _ _ c.length_refusal.ensures c.in-Ok.is

pub returns-in-Ok : goal.returns-in-Ok
unfolding end_of
returns-in-Ok c = laws.answers-read c.args.state c.args.frames.now _ _ c.if-state-ne0.false _ c.length_refusal.ensures _ c.in-Ok.is _ c.take_end.ensures.0 c.take_end.ensures.1
