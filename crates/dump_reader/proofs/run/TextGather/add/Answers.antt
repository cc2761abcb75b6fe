use Rattle.dump_reader.specs.Machine.{continued}
use native.Mathlib.Omega.{arith}
use Rattle.dump_reader.proofs.run.TextGather.add.Goals as goal

pub returns : goal.returns
unfolding continued
returns c = (simp c.add_text.ensures, λ e. omega (arith, e), λ e. omega (arith, e))
