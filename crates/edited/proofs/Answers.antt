-- The three answers of `replace_frame`, each from the contracts of the calls before it. Assumes nothing.
use Prim.Native.Nat.{ℕ, ◌+◌, ◌≤◌, ◌<◌}
use mathlib.Core.Path.{◌≡◌, refl, sym, ◌∙◌}
use mathlib.Core.List.{List}
use native.Mathlib.Numerals.{add-one}
use native.Mathlib.Omega.{arith}
use lib.Dec.{T}
use lib.IntN.{ℤ, pos}
use lib.ListN.{length, replicate, get_or-replicate}
use Rattle.rules.specs.declared.config.Config.{Config}
use Rattle.rules.specs.declared.frame.Frame.{Frame}
use Rattle.trace.specs.Traces.{frames, trace_fits}
use Rattle.rules.specs.Rules.{marks}
use Rattle.lengths.specs.Lengths.{check_refusal}
use Rattle.record.specs.Records.{CheckAnswer}
use Rattle.recheck.specs.Rechecks.{RecheckAnswer}
use Rattle.lengths.proofs.Refusals.{check-accepted}
use Rattle.edited.specs.Edits.{Stored, NotDone, Replaced}

-- the changes of an answer that is not done
abbrev zeros : List ℤ
zeros = replicate marks (pos 0)

pub not_done : {n r : ℕ} → r ≡ n → NotDone n r 0 0 zeros
not_done e = record { refusal_is = e; cycle_is = refl; end_is = refl; changes_are = λ i h. get_or-replicate marks i (pos 0) (pos 0) h }

module _ {c : Config} {old rows₀ words₀ rows words : List ℕ} {r : ℕ} (check : CheckAnswer c old rows₀ words₀ rows words r) where
  pub refused : {t : ℕ} {f : Frame} → (r ≡ 0 → ⊥) → Replaced c old rows₀ words₀ t f old rows words r 0 0 zeros
  refused h = record {
    done = λ z _. absurd (h (check.refusal_is ∙ z));
    refused = λ _. (not_done check.refusal_is, refl, check.rows_kept h, check.words_kept h);
    no_cycle = λ z _. absurd (h (check.refusal_is ∙ z));
  }

  module _ (z : r ≡ 0) where
    accepted : check_refusal c old rows₀ words₀ ≡ 0
    accepted = sym check.refusal_is ∙ z

    pub no_cycle : {t : ℕ} {f : Frame} → length rows ≤ t → Replaced c old rows₀ words₀ t f old rows words 6 0 0 zeros
    no_cycle h = record {
      done = λ _ k. absurd (omega (arith, (check.done z).rows_length));
      refused = λ n. absurd (n accepted);
      no_cycle = λ _ _. (not_done refl, refl, check.done z);
    }

    pub has-cycle : {t : ℕ} → t < length rows → t < frames old
    has-cycle h = omega (arith, (check.done z).rows_length)

    -- the recheck's demand, for the old trace
    pub done : {t : ℕ} {f : Frame} {trace rows' words' : List ℕ} {refusal cycle e : ℕ} {changes : List ℤ} → t < length rows → Stored old trace t f
        → RecheckAnswer c trace rows words t (t + 1) rows' words' refusal cycle e changes → Replaced c old rows₀ words₀ t f trace rows' words' refusal cycle e changes
    unfolding frames trace_fits
    done {trace = trace} h put answer =
        let ok = check-accepted c old rows₀ words₀ accepted in
        let same = put.edited.same_length in
        let fits : T (trace_fits trace) = rw same at ok.fits in
        let met = rw add-one at (answer.demand ok.good fits (omega arith) (omega (arith, has-cycle h)) old (rw add-one put.edited) (check.done z)) in
        record {
          done =
              λ _ _.
              record {
                stored = put;
                old_rows = rows;
                old_words = words;
                old_record = check.done z;
                demanded = met;
                names_none = answer.tested.named.otherwise (λ n. absurd (omega (arith, met.not_refused)));
              };
          refused = λ n. absurd (n accepted);
          no_cycle = λ _ k. absurd (omega (arith, has-cycle h));
        }
