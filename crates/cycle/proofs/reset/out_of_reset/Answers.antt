-- `cycle::reset::out_of_reset` meets its contract: bit 0 is the word's remainder by 2. Assumes nothing.
use mathlib.Core.Path.{◌∙◌, ap}
use Prim.Native.Nat.{ℕ, ◌%◌}
use lib.Dec.{eqb}
use Rattle.bits.proofs.Bits.{bit-zero}
use Rattle.rules.specs.Frame.{up, sample}
use Rattle.cycle.proofs.reset.out_of_reset.Goals as goal

pub returns : goal.returns
unfolding up
returns c = ap (λ (x : ℕ). eqb (x % 2) 1) c.sample.ensures ∙ bit-zero (sample c.args.frame 0)
