-- The answers of the recheck: what its run may go by where it is not refused, and its contract from what the run leaves. Assumes nothing.
use Prim.Native.Nat.{ℕ, zero, suc, ◌+◌, ◌≤◌, ◌<◌}
use mathlib.Core.Path.{◌≡◌, refl, sym, ap, ◌∙◌}
use mathlib.Core.List.{List}
use native.Mathlib.Nat.{add_comm}
use native.Mathlib.Omega.{arith}
use borrow.Author.Tests.{eqb-false}
use lib.Dec.{T}
use lib.IntN.{ℤ, pos, sub_ℕ}
use lib.ListN.{length, get_or, replicate, length-replicate, get_or-replicate}
use Rattle.rules.specs.declared.refusal.Refusal.{Refusal}
use Rattle.rules.specs.Refusals.{number_of, cycle_named}
use Rattle.rules.proofs.Refusals.{is-refused}
use Rattle.rules.specs.declared.config.Config.{Config}
use Rattle.rules.specs.Config.{Good}
use Rattle.rules.specs.Possible.{possible}
use Rattle.trace.specs.Traces.{frames}
use Rattle.trace.specs.Runs.{kept_at}
use Rattle.rules.specs.Rules.{marks}
use Rattle.halves.specs.Rows.{marks_in}
use Rattle.counts.specs.Counts.{change}
use Rattle.record.specs.Records.{TrueRecord}
use Rattle.kept_words.specs.Spoiled.{all_possible}
use Rattle.recheck_refusals.specs.Refusals.{LowestImpossible, Refused}
use Rattle.resume.specs.Resumes.{Resumable, Resumed}
use Rattle.recheck.specs.Rechecks.{Rechecked, RecheckAnswer}
use Rattle.bits.proofs.Tests.{of-false, every-elim}
use Rattle.rules.proofs.Reached.{zero-possible}
use Rattle.lengths.proofs.Refusals.{accepted-short}
use Rattle.recheck_refusals.proofs.Refusals.{Taken}
use Rattle.halves.proofs.Counted.{marks-le}
use Rattle.recheck.proofs.Demand.{sub_same, changes-same, true-possible, demand-accepted, demand-met}

-- the count that is 65,536 too high
balanced : (n old new : ℕ) → n + old ≡ 65536 + new → sub_ℕ n 65536 ≡ sub_ℕ new old
balanced n old new e =
    sym (sub_same n 65536 old) ∙ ap (λ (x : ℕ). sub_ℕ x (65536 + old)) (e ∙ add_comm 65536 new) ∙ ap (sub_ℕ (new + 65536)) (add_comm 65536 old)
    ∙ sub_same new old 65536

module _ (c : Config) (trace rows words : List ℕ) (a b : ℕ) where
  -- a recheck that is not refused may go on from the kept word before a: it is 0 or one of the words
  module _ (ok : Taken c trace rows words a b) where
    pub a-in-words : a ≤ length words
    a-in-words = omega (arith, ok.low, ok.high, ok.lengths.words_length)

    before-possible : (k : ℕ) → k ≤ length words → T (possible c (kept_at words k))
    unfolding kept_at all_possible
    before-possible zero h = zero-possible c ok.lengths.good
    before-possible (suc k) h = every-elim (length words) (λ s. possible c (get_or words s 0)) ok.all-possible k h

    pub resumable : (word : ℕ) → word ≡ kept_at words a → Resumable c trace rows words a b word
    resumable word kept = record {
      good = ok.lengths.good;
      short = accepted-short ok.lengths;
      rows_length = ok.lengths.rows_length;
      words_length = ok.lengths.words_length;
      low = ok.low;
      high = ok.high;
      word_is = kept;
      possible_word = rw kept (before-possible a a-in-words);
    }

  -- a true record has no impossible word
  not-lowest : Good c → (old : List ℕ) → TrueRecord c old rows words → {t : ℕ} → LowestImpossible c words t → ⊥
  unfolding all_possible
  not-lowest good old was {t} l =
      of-false l.impossible (every-elim (length words) (λ s. possible c (get_or words s 0)) (true-possible c good old rows words was) t l.in_record)

  -- a refused recheck has altered nothing, and no old trace asks for more
  pub not_done : (e : Refusal) → Refused c trace rows words a b (number_of e) (cycle_named e)
      → RecheckAnswer c trace rows words a b rows words (number_of e) (cycle_named e) 0 (replicate marks (pos 0))
  not_done e q =
      let some = is-refused e in
      record {
        tested = q;
        all_marks = length-replicate marks (pos 0);
        done = λ z. absurd (omega arith);
        refused = λ _. record { rows_kept = refl; words_kept = refl; end_is = refl; changes_are = λ i h. get_or-replicate marks i (pos 0) (pos 0) h };
        never_spoiled = λ good old was seven. not-lowest good old was (q.named.spoiled seven);
        demand =
            λ good fits low high old edited true-old.
            let z = q.refusal_is ∙ demand-accepted c good trace rows words a b fits low high old edited true-old in absurd (omega arith);
      }

  -- what the run leaves is the recheck's answer
  pub all_done : (rows' words' : List ℕ) (e : ℕ) (counts : List ℕ) (changes : List ℤ) → Refused c trace rows words a b 0 0 → a ≤ b
      → length changes ≡ marks → ((i : ℕ) → i < marks → get_or changes i (pos 0) ≡ sub_ℕ (get_or counts i 0) 65536)
      → Resumed c trace rows words a b rows' words' e counts → RecheckAnswer c trace rows words a b rows' words' 0 0 e changes
  unfolding change
  all_done rows' words' e counts changes z low all_marks signed run = record {
    tested = z;
    all_marks = all_marks;
    done = λ _. rechecked;
    refused = λ h. absurd (h refl);
    never_spoiled = λ good old was n. eqb-false 0 7 refl n;
    demand = λ good fits low' high old edited true-old. demand-met c good trace rows words a b low' high old edited true-old rows' words' e changes rechecked;
  }
    where
      here : (i : ℕ) → i < marks → get_or changes i (pos 0) ≡ change rows' rows i a e
      here i h = signed i h ∙ balanced (get_or counts i 0) (marks_in rows i a e) (marks_in rows' i a e) (run.counts_are i h)

      rechecked : Rechecked c trace rows words a b rows' words' e changes
      rechecked = record {
        ends = run.ends;
        rows_are = run.rows_are;
        words_are = run.words_are;
        changes_are = here;
        changes_all = λ i h.
            here i h ∙ changes-same _ a e (frames trace) i rows rows' (omega (arith, run.ends.low)) run.ends.high run.rows_are;
      }

  -- a change is at most 65,536 either way
  pub counts-high : (word : ℕ) → Resumable c trace rows words a b word → (rows' words' : List ℕ) (e : ℕ) (counts : List ℕ)
      → Resumed c trace rows words a b rows' words' e counts → (i : ℕ) → i < marks → get_or counts i 0 ≤ 131072
  counts-high word ready rows' words' e counts run i h = omega (arith, run.counts_are i h, marks-le rows' i a e, run.ends.high, ready.short)
