-- The numbers and the length of a search that is not refused. Assumes nothing.
use Rattle.std.proofs.Common.{ℕ, ◌*◌, ◌≤◌, ◌≡◌, arith}
use Rattle.first_failure.specs.Search.{search_refusal}

module _ (checkers cycles rows : ℕ) where
  pub record Fitting : Type 0 where
    pub few : checkers ≤ 64
    pub short : cycles ≤ 65536
    pub rows_are : rows ≡ checkers * cycles

  pub fitting : search_refusal checkers cycles rows ≡ 0 → Fitting
  unfolding search_refusal
  fitting z = record { few = grind arith; short = grind arith; rows_are = grind arith }
