use Rattle.dump_values.proofs.Laws as laws
use Rattle.dump_values.specs.Values.{with_bit}
use Rattle.dump_values.proofs.put.with_bit.Goals as goal

pub returns : goal.returns
unfolding with_bit
returns c = simp (laws.one_shifted c.args.i c.requires)
