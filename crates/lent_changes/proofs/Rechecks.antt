-- The recheck with its numbers in a lent slice. Assumes nothing.
use Prim.Native.Nat.{ℕ, suc, ◌≤◌, ◌<◌}
use mathlib.Core.Path.{◌≡◌, refl, sym, subst, ◌∙◌}
use mathlib.Core.Bool.{true, false}
use mathlib.Core.List.{List, ◌∷◌}
use mathlib.Core.Logic.{⊎_elim}
use native.Mathlib.Omega.{arith}
use borrow.Author.Tests.{eq-eqb, ne_eqb, eqb-true, eqb-false}
use lib.Dec.{eqb}
use lib.IntN.{ℤ, pos}
use lib.ListN.{length}
use Rattle.bits.proofs.Tests.{either}
use Rattle.rules.specs.declared.config.Config.{Config}
use Rattle.rules.specs.Rules.{marks}
use Rattle.lengths.specs.Lengths.{check_refusal}
use Rattle.recheck.specs.Rechecks.{RecheckAnswer}
use Rattle.lengths.proofs.Refusals.{Accepted, accepted-short}
use Rattle.recheck_refusals.proofs.Refusals.{lengths-due}
use Rattle.lent_changes.specs.Answers.{HostRecheck}

module _ {c : Config} {trace rows words : List ℕ} {a b : ℕ} where
  -- a slice of another length: refusal 5, after 1 to 4
  module _ {answer : List ℤ} {tested : ℕ} (wrong : length answer ≡ suc marks → ⊥) (is : tested ≡ check_refusal c trace rows words) where
    pub five-due : tested ≡ 0 → HostRecheck c trace rows words a b answer rows words answer 5 0
    five-due z = record {
      wrong_length = λ _. (simp (eq-eqb (check_refusal c trace rows words) 0 (sym is ∙ z)), refl, refl, refl, refl);
      right_length = λ due. absurd (wrong due);
    }

    pub earlier-due : (tested ≡ 0 → ⊥) → HostRecheck c trace rows words a b answer rows words answer tested 0
    earlier-due h = record {
      wrong_length = λ _. (simp (ne_eqb (check_refusal c trace rows words) 0 (λ z. h (is ∙ z))) is, refl, refl, refl, refl);
      right_length = λ due. absurd (wrong due);
    }

  module _ {rows' words' : List ℕ} {r t e : ℕ} {changes : List ℤ} (done : RecheckAnswer c trace rows words a b rows' words' r t e changes) where
    -- what is not refused with 1 to 6 is a record of the lengths that are due
    fits : (r ≤ 6 → r ≡ 0) → Accepted c trace rows words
    fits late = lengths-due c trace rows words a b r done.tested.refusal_is late

    -- a recheck that is not refused names no cycle
    none_named : r ≡ 0 → t ≡ 0
    none_named z = done.tested.named.otherwise (λ n. absurd (omega arith))

    pub refused : {answer : List ℤ} → length answer ≡ suc marks → (r ≡ 0 → ⊥) → HostRecheck c trace rows words a b answer rows' words' answer r t
    refused due h = record {
      wrong_length = λ wrong. absurd (wrong due);
      right_length = λ _. record { end = e; changes = changes; rechecked = done; stored = λ z. absurd (h z); kept = λ _. refl };
    }

    pub stored : {answer answer' : List ℤ} → length answer ≡ suc marks → r ≡ 0 → answer' ≡ pos e ∷ changes
        → HostRecheck c trace rows words a b answer rows' words' answer' 0 0
    stored due z s = record {
      wrong_length = λ wrong. absurd (wrong due);
      right_length = λ _. record {
        end = e;
        changes = changes;
        rechecked = subst (λ (y : ℕ). RecheckAnswer c trace rows words a b rows' words' 0 y e changes) (none_named z) (subst (λ (x : ℕ). RecheckAnswer c trace rows words a b rows' words' x t e changes) z done);
        stored = λ _. s;
        kept = λ h. absurd (h refl);
      };
    }

    -- the end is a cycle of a trace that was accepted, or its end
    pub end_low : r ≡ 0 → e ≤ 65536
    end_low z = omega (arith, (done.done z).ends.high, accepted-short (fits (λ _. z)))

    -- the cycle that is named is one of an accepted trace
    pub cycle-low : t < 4294967296
    cycle-low =
        ⊎_elim
        (λ (f : eqb r 7 ≡ true).
        let seven = eqb-true r 7 f in
        let ok = fits (λ l. absurd (omega arith)) in
        omega (arith, (done.tested.named.spoiled seven).in_record, ok.words_length, accepted-short ok))
        (λ (f : eqb r 7 ≡ false). omega (arith, done.tested.named.otherwise (eqb-false r 7 f)))
        (either (eqb r 7))
