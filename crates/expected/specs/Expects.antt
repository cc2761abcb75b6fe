-- What kind 7 looks for at P, as its code has it: some wires. Assumes nothing.
use Rattle.std.specs.Prelude.{ℕ, ◌≡◌, eqb}
use Rattle.std.specs.Int.Bits.{bit_and}
use Rattle.bus.specs.Range.{value_of}
use Rattle.rules.specs.declared.config.Config.{Config}
use Rattle.expected.specs.declared.wires.Expected.{Expected}

-- they are there exactly where P has the expected value
pub record Expects (c : Config) (e : Expected) : Type 0 where
  pub same : (wires : ℕ) → eqb (bit_and wires e.mask) e.wires ≡ eqb (value_of c.p wires) c.value
  -- and the mask has no wire that is 1 exactly where P is 0: so it tells whether P has an unknown bit
  pub none : (wires : ℕ) → eqb (bit_and wires e.mask) 0 ≡ eqb (value_of c.p wires) 0
