-- What the recheck with its answer in a lent slice answers, from document 01, "Refusal numbers". In which order the numbers stand there is for this crate to
-- say, and the header says it too. Assumes nothing.
use Rattle.std.specs.Prelude.{ℕ, suc, ◌≡◌, cond, List, ◌∷◌, eqb, ℤ, pos, length}
use Rattle.rules.specs.declared.config.Config.{Config}
use Rattle.rules.specs.Rules.{marks}
use Rattle.lengths.specs.Lengths.{check_refusal}
use Rattle.recheck.specs.Rechecks.{RecheckAnswer}

-- with a slice of the length that is due: what the recheck answers, and that it stands there
pub record RecheckStored
    (c : Config) (trace rows words : List ℕ) (a b : ℕ) (answer : List ℤ) (rows' words' : List ℕ) (answer' : List ℤ) (refusal cycle : ℕ) : Type 0 where
  pub end : ℕ
  pub changes : List ℤ
  pub rechecked : RecheckAnswer c trace rows words a b rows' words' refusal cycle end changes
  pub stored : refusal ≡ 0 → answer' ≡ pos end ∷ changes
  pub kept : (refusal ≡ 0 → ⊥) → answer' ≡ answer

-- The recheck, with e and the changes in a lent slice of one more than there are marks: a slice of another length is one that "has not the length that is
-- due", refusal 5, after 1 to 4. Refused: the slice is as it was.
pub record HostRecheck
    (c : Config) (trace rows words : List ℕ) (a b : ℕ) (answer : List ℤ) (rows' words' : List ℕ) (answer' : List ℤ) (refusal cycle : ℕ) : Type 0 where
  pub wrong_length : (length answer ≡ suc marks → ⊥)
      → (refusal ≡ cond (eqb (check_refusal c trace rows words) 0) 5 (check_refusal c trace rows words)) × (cycle ≡ 0) × (rows' ≡ rows) × (words' ≡ words) × (answer' ≡ answer)
  pub right_length : length answer ≡ suc marks → RecheckStored c trace rows words a b answer rows' words' answer' refusal cycle
