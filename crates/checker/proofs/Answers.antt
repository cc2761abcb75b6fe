-- The open count, from the tests of the code. Assumes nothing.
use Prim.Native.Nat.{ℕ}
use mathlib.Core.Path.{◌≡◌, refl, sym, ap, ◌∙◌}
use mathlib.Core.Bool.{cond}
use borrow.Author.Tests.{eq-eqb, ne_eqb}
use lib.Dec.{eqb}
use Rattle.rules.specs.declared.config.Config.{Config}
use Rattle.rules.specs.declared.family.Family as code
use Rattle.rules.specs.declared.family.Family.TheVariants.{Sequence, Time, Transition, Value, Stability}
use Rattle.rules.specs.Config.{Family, family}
use Rattle.rules.specs.Config.Family.{time, transition, value, stability}
use Rattle.rules.specs.Families.{named}
use Rattle.rules.specs.Rules.{stopped_word}
use Rattle.rules.specs.Possible.{open_count_of, open_count, word_refusal}
use Rattle.checker.specs.Calls.{CountAnswer}

module _ (c : Config) (w : ℕ) (accepted : word_refusal c w ≡ 0) where
  -- a fatal checker that has failed
  pub count-stopped : w ≡ stopped_word → CountAnswer c w 0 0
  unfolding open_count
  count-stopped e = record { refusal_is = sym accepted; count_is = rw (eq-eqb (word_refusal c w) 0 accepted, eq-eqb w stopped_word e) refl }

  module _ (going : w ≡ stopped_word → ⊥) where
    pub count-taken : (k : Family) (count : ℕ) → k ≡ family c.kind → count ≡ open_count_of k w → CountAnswer c w 0 count
    unfolding open_count
    count-taken k count f e = record {
      refusal_is = sym accepted;
      count_is = rw (eq-eqb (word_refusal c w) 0 accepted, ne_eqb w stopped_word going) (e ∙ ap (λ (j : Family). open_count_of j w) f);
    }

    -- the other families: 1 when a check is unfinished
    pub count-one : (f : code.Family) (count : ℕ) → (f ≡ Sequence → ⊥) → named f ≡ family c.kind → count ≡ cond (eqb w 0) 0 1 → CountAnswer c w 0 count
    unfolding open_count_of
    count-one Sequence count h f e = absurd (h refl)
    count-one Time count h f e = count-taken time count f e
    count-one Transition count h f e = count-taken transition count f e
    count-one Value count h f e = count-taken value count f e
    count-one Stability count h f e = count-taken stability count f e
