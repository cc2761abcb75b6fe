use Rattle.dump_state.proofs.Laws as laws
use Rattle.dump_state.proofs.begins.begin.Goals as goal

pub returns-then-wires-eq258 : goal.returns-then-wires-eq258
returns-then-wires-eq258 c = laws.begun-good c.args.wires.now _ _ c.if-wires-eq258.true c.put_table.ensures c.first_state.ensures

pub returns : goal.returns
returns c = laws.begun-wrong c.args.wires.now _ c.if-wires-eq258.false c.first_state-2.ensures
