use Rattle.dump_state.proofs.Laws as laws
use Rattle.dump_state.proofs.tests.refuse.Goals as goal

pub returns : goal.returns
returns c = laws.refusal-stands c.args.state _ _ _ c.refused_with-answer.ensures c.stand.ensures
