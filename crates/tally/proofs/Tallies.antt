-- A walk over the entries of a tally. A turn writes one entry and no other, so what was shown of the entries passed still holds, and the entries ahead are as
-- they were. Assumes nothing.
use Prim.Native.Nat.{ℕ, ◌+◌, ◌<◌, ◌≤◌}
use mathlib.Core.Path.{◌≡◌, subst⁻¹, ◌∙◌}
use mathlib.Core.List.{List}
use native.Mathlib.Omega.{arith}
use borrow.Author.Count.{below_more}
use lib.ListN.{length, get_or, set, length-set}
use lib.Seq.{get_or-set_same, get_or-set_other}
use Rattle.rules.specs.Rules.{marks}

-- A walk over the entries has passed those below i: each is as `Done` says, and the others are as they were.
pub record Walked (Done : ℕ → ℕ → Type 0) (old new : List ℕ) (i : ℕ) : Type 0 where
  pub low : i ≤ marks
  pub all_marks : length new ≡ marks
  pub done : (k : ℕ) → k < i → Done k (get_or new k 0)
  pub rest : (k : ℕ) → i ≤ k → get_or new k 0 ≡ get_or old k 0

pub walked_more : {Done : ℕ → ℕ → Type 0} {old new : List ℕ} {i v : ℕ} → Walked Done old new i → i < marks → Done i v
    → Walked Done old (set new i v) (i + 1)
walked_more {Done} {old} {new} {i} {v} w l d =
    let h : i < length new = omega arith in
    record {
      low = omega arith;
      all_marks = length-set new i v ∙ w.all_marks;
      done =
          below_more (λ (k : ℕ). Done k (get_or (set new i v) k 0)) i
          (λ k b. subst⁻¹ (Done k) (get_or-set_other new i k v 0 (omega arith)) (w.done k b))
          (subst⁻¹ (Done i) (get_or-set_same new i v 0 h) d);
      rest = λ k b. get_or-set_other new i k v 0 (omega arith) ∙ w.rest k (omega arith);
    }
