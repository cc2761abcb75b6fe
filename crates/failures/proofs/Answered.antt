-- The answers of the failure list's call, from the tests of the code. The lengths are tested as for a full check, for a record of the length that is due
-- (`kept`): so no refusal 5 comes of it, and its refusals are the list's. Then the slice decides: it must have three words for each entry.
-- Assumes nothing.
use Prim.Native.Nat.{ℕ, ◌/◌, ◌*◌, ◌+◌, ◌≤◌, ◌<◌}
use mathlib.Core.Path.{◌≡◌, refl, sym, ap, ◌∙◌}
use mathlib.Core.Bool.{Bool, true, false, cond}
use mathlib.Core.List.{List, ◌++◌}
use native.Mathlib.Nat.{zero-add}
use native.Mathlib.Omega.{arith}
use borrow.Author.Tests.{eq-eqb, le-leb, lt-leb}
use lib.Dec.{eqb, leb}
use lib.ListN.{length, drop, replicate, length-replicate}
use lib.Seq.{sets, sets-eq}
use Rattle.std.specs.Prelude.{Result, IsErrAnd}
use Rattle.std.proofs.lemmas.Result.{err_from_is_err_and}
use Rattle.bits.proofs.Tests.{is_true}
use Rattle.rules.specs.declared.config.Config.{Config}
use Rattle.rules.specs.declared.refusal.Refusal.{Refusal}
use Rattle.rules.specs.Config.{config_refusal, Good}
use Rattle.rules.specs.Frame.{frame_words}
use Rattle.rules.specs.Refusals.{number_of, refusal_of}
use Rattle.trace.specs.Traces.{frames, trace_fits}
use Rattle.lengths.specs.Lengths.{record_fits, check_refusal}
use Rattle.lengths.proofs.Refusals.{Accepted, check-accepted, accepted-short}
use Rattle.listed.specs.Lists.{words_of}
use Rattle.passes.specs.Listed.{failures_of}
use Rattle.failures.specs.Answers.{list_refusal, count_of, ListAnswer}
use Rattle.listed.proofs.Chosen.{words_length}

-- what holds of the refusal's number and of no entries holds of the answer that `?` passes up
pub passed-up : (r : Result ℕ Refusal) (e : Refusal) → IsErrAnd r (λ y. y ≡ e) → (P : ℕ → ℕ → Type 0) → P (number_of e) 0 → P (refusal_of r) (count_of r)
passed-up r e h P p = let q = err_from_is_err_and r h in rw (q.1, q.2) p

-- r is the refusal of the lengths, for as many cycles as the trace has
module _
    (c : Config) (trace : List ℕ) (cycles r : ℕ) (are : cycles ≡ length trace / frame_words)
    (tested : (ts rs ws : List ℕ) → length ts ≡ length trace → length rs ≡ cycles → length ws ≡ cycles → r ≡ check_refusal c ts rs ws)
  where
    abbrev kept : List ℕ
    kept = replicate cycles 0

    due : length kept ≡ frames trace
    unfolding frames
    due = length-replicate cycles 0 ∙ are

    as-check : r ≡ check_refusal c trace kept kept
    as-check = tested trace kept kept refl (length-replicate cycles 0) (length-replicate cycles 0)

    refused-as-check : (list : List ℕ) → (r ≡ 0 → ⊥) → r ≡ list_refusal c trace list
    unfolding check_refusal record_fits list_refusal
    refused-as-check list h =
        by (eqb (config_refusal c) 0) (trace_fits trace) _ (rw (due, eq-eqb (frames trace) (frames trace) refl) at as-check)
      where
        by : (p q : Bool) (x : ℕ) → r ≡ cond p (cond q 0 4) (config_refusal c) → r ≡ cond p (cond q x 4) (config_refusal c)
        by true true x e = absurd (h e)
        by true false x e = e
        by false q x e = e

    pub refused-lengths : (list : List ℕ) → (r ≡ 0 → ⊥) → ListAnswer c trace list list r 0
    refused-lengths list h = record { refusal_is = refused-as-check list h; done = λ z. absurd (h z); refused = λ _. (refl, refl); few = omega arith }

    module _ (z : r ≡ 0) where
      ok : Accepted c trace kept kept
      ok = check-accepted c trace kept kept (sym as-check ∙ z)

      pub accepted-lengths : Good c × (frames trace ≤ 65536)
      accepted-lengths = (ok.good, accepted-short ok)

      module _ (list : List ℕ) (count : ℕ) (all : count ≡ length (failures_of c trace)) where
        decided : (b : Bool) → leb (3 * length (failures_of c trace)) (length list) ≡ b → list_refusal c trace list ≡ cond b 0 8
        unfolding list_refusal
        decided b e = rw (eq-eqb (config_refusal c) 0 ok.good, is_true (trace_fits trace) ok.fits, e)

        pub too_short : length list / 3 < count → ListAnswer c trace list list 8 0
        too_short l = record {
          refusal_is = sym (decided false (lt-leb (3 * length (failures_of c trace)) (length list) (omega (arith, all))));
          done = λ e. absurd (omega arith);
          refused = λ _. (refl, refl);
          few = omega arith;
        }

        module _ (l : count ≤ length list / 3) where
          pub all_fit : 3 * length (failures_of c trace) ≤ length list
          all_fit = omega (arith, all)

          pub all-written : count ≤ 64 * 65536 → (list' : List ℕ) → list' ≡ sets list 0 (words_of (failures_of c trace)) → ListAnswer c trace list list' 0 count
          all-written few list' e =
              let words = words_of (failures_of c trace) in
              let long : 0 + length words ≡ 3 * length (failures_of c trace) = zero-add (length words) ∙ words_length (failures_of c trace) in
              record {
                refusal_is = sym (decided true (le-leb (3 * length (failures_of c trace)) (length list) all_fit));
                done = λ _. (all, e ∙ sets-eq words list 0 (omega (arith, long, all_fit)) ∙ ap (λ (k : ℕ). words ++ drop k list) long);
                refused = λ h. absurd (h refl);
                few = few;
              }
