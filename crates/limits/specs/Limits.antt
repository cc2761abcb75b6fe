-- How far a recheck can run, from document 01, "What the viewer calls", for checkers that go on: for fatal ones, document 02, §7, "the limits on e are
-- withdrawn". That every recheck of a true record keeps to it is `limited` of
-- `proofs/Limits.antt`. Assumes nothing.
use Rattle.std.specs.Prelude.{ℕ, ◌+◌, ◌-◌, ◌≤◌, ◌≡◌}
use Rattle.rules.specs.declared.config.Config.{Config}

-- "For true kept records, e ≤ b+n−1 for kinds 0 and 1, e ≤ b+n for kind 4, e ≤ b+1 for kind 6. Kinds 2, 3 and 5 have no such limit."
pub record Limited (c : Config) (b e : ℕ) : Type 0 where
  pub pipelined : c.kind ≤ 1 → e ≤ b + (c.n - 1)
  pub restarted : c.kind ≡ 4 → e ≤ b + c.n
  pub stored : c.kind ≡ 6 → e ≤ b + 1
