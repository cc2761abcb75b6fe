use Rattle.dump_values.specs.Values.{span_start}
use mathlib.Core.Path.{refl}
use Rattle.dump_values.proofs.span.span_start.Goals as goal

pub returns : goal.returns
unfolding span_start
returns c = refl
