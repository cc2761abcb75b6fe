-- The configuration of the numbers that the C host passes. Assumes nothing.
use Rattle.std.specs.Prelude.{ℕ}
use Rattle.rules.specs.declared.config.Config.{Config}

-- the configuration of the eleven numbers
abbrev pub config_of : ℕ → ℕ → ℕ → ℕ → ℕ → ℕ → ℕ → ℕ → ℕ → ℕ → ℕ → Config
config_of kind n p-left p-right q-left q-right r-left r-right min value severity = record {
  kind = kind;
  n = n;
  p = record { left = p-left; right = p-right };
  q = record { left = q-left; right = q-right };
  r = record { left = r-left; right = r-right };
  min = min;
  value = value;
  severity = severity;
}
