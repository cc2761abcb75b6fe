-- Demand 3. The words of the rules follow a trace's frames by the step, so the laws of runs apply to them: what a recheck writes makes the old trace's true
-- record that of the edited one. The changes over all rows are those over the rows written, since the others are as they were. Each word of the rules is
-- possible, so a true record has no other. Assumes nothing.
use Prim.Native.Nat.{ℕ, zero, suc, ◌+◌, ◌/◌, ◌≤◌, zero-le}
use mathlib.Core.Path.{◌≡◌, refl, sym, ap, ap₂, ◌∙◌}
use mathlib.Core.Bool.{true, false}
use mathlib.Core.List.{List}
use mathlib.Core.Logic.{⊎_elim}
use native.Mathlib.Omega.{arith}
use borrow.Author.Tests.{lt-ltb, le-ltb, ltb-true, ltb-false, le-leb, eq-eqb}
use lib.Dec.{T, ltb}
use lib.IntN.{ℤ, sub_ℕ, pos, negsuc}
use lib.ListN.{length, get_or}
use Rattle.bits.proofs.Tests.{is_true, either, every-intro}
use Rattle.rules.specs.declared.config.Config.{Config}
use Rattle.rules.specs.Config.{config_refusal, Good}
use Rattle.rules.specs.Frame.{frame_words, Trace}
use Rattle.rules.specs.Rules.{word_before}
use Rattle.rules.specs.Step.{step_row, step_word}
use Rattle.rules.specs.Possible.{possible}
use Rattle.rules.proofs.Claims.{step-is-rules, words-possible}
use Rattle.trace.specs.Traces.{frames, frame_at, trace_fits}
use Rattle.trace.specs.Runs.{kept_at, Written}
use Rattle.halves.specs.Rows.{marks_in}
use Rattle.counts.specs.Counts.{change}
use Rattle.lengths.specs.Lengths.{record_fits}
use Rattle.kept_words.specs.Spoiled.{all_possible}
use Rattle.record.specs.Records.{TrueRecord}
use Rattle.resume.specs.Resumes.{own_word, own_row}
use Rattle.recheck_refusals.specs.Refusals.{recheck_refusal}
use Rattle.recheck.specs.Rechecks.{Rechecked, Edited, Demanded}
use Rattle.trace.proofs.Runs.{run-steps, Follows, Edit, true-ends, true-entries}
use Rattle.halves.proofs.Counted.{marks-same, marks-split}

-- ---- the words of the rules are a run

rules-follow : (c : Config) → Good c → (tr : Trace) → Follows (step_word c) tr 0 (word_before c tr)
unfolding word_before
rules-follow c good tr t _ = (step-is-rules c good tr t).word_is

-- ---- changes

pub sub_same : (x y k : ℕ) → sub_ℕ (x + k) (y + k) ≡ sub_ℕ x y
sub_same x y k = ⊎_elim less not-less (either (ltb x y))
  where
    less : ltb x y ≡ true → sub_ℕ (x + k) (y + k) ≡ sub_ℕ x y
    less e = rw (e, lt-ltb (x + k) (y + k) (omega (arith, ltb-true x y e))) (ap negsuc (omega (arith, ltb-true x y e)))

    not-less : ltb x y ≡ false → sub_ℕ (x + k) (y + k) ≡ sub_ℕ x y
    not-less e = rw (e, le-ltb (x + k) (y + k) (omega (arith, ltb-false x y e))) (ap pos (omega (arith, ltb-false x y e)))

-- The marks of the rows before a and from e on are in both counts over all rows.
pub changes-same : (f : ℕ → ℕ) (a e n i : ℕ) (rows rows' : List ℕ) → a ≤ e → e ≤ n → Written f a e rows rows'
    → change rows' rows i a e ≡ change rows' rows i 0 n
unfolding change
changes-same f a e n i rows rows' low high w = sym (ap₂ sub_ℕ new (all rows) ∙ sub_same (marks_in rows' i a e) (marks_in rows i a e) (others rows))
  where
    others : List ℕ → ℕ
    others l = marks_in l i 0 a + marks_in l i e n

    all : (l : List ℕ) → marks_in l i 0 n ≡ marks_in l i a e + others l
    all l = omega (arith, marks-split l i 0 a n zero-le (omega arith), marks-split l i a e n low high)

    new : marks_in rows' i 0 n ≡ marks_in rows' i a e + others rows
    new =
        all rows'
        ∙ ap₂ (λ (x y : ℕ). marks_in rows' i a e + (x + y)) (marks-same rows' rows i 0 a (λ t _ h. w.below t h))
        (marks-same rows' rows i e n (λ t h _. w.beyond t h))

-- ---- document 02, §6: "Show that records of a full check are never refused for this."

-- a trace's true record, which a full check leaves, has no word that is impossible
pub true-possible : (c : Config) → Good c → (trace rows words : List ℕ) → TrueRecord c trace rows words → T (all_possible c words)
unfolding all_possible
true-possible c good trace rows words was =
    every-intro (length words) (λ t. possible c (get_or words t 0))
    (λ t h. rw (was.words_are t (omega (arith, was.words_length))) (words-possible c good (frame_at trace) t))

-- ---- demand 3

same_frames : {old trace : List ℕ} {a b : ℕ} → Edited old trace a b → frames old ≡ frames trace
unfolding frames
same_frames edited = ap (λ (n : ℕ). n / frame_words) edited.same_length

-- the words kept are those before each cycle of the old trace
kept-words : {c : Config} {old trace rows words : List ℕ} {a b : ℕ} → Edited old trace a b → TrueRecord c old rows words → (t : ℕ) → t ≤ frames trace
    → kept_at words t ≡ word_before c (frame_at old) t
unfolding kept_at word_before
kept-words edited was zero h = refl
kept-words edited was (suc t) h = was.words_are t (omega (arith, same_frames edited))

pub demand-accepted : (c : Config) → Good c → (trace rows words : List ℕ) (a b : ℕ) → T (trace_fits trace) → a ≤ b → b ≤ frames trace → (old : List ℕ)
    → Edited old trace a b → TrueRecord c old rows words → recheck_refusal c trace rows words a b ≡ 0
unfolding recheck_refusal record_fits
demand-accepted c good trace rows words a b fits low high old edited was =
    simp (
      eq-eqb (config_refusal c) 0 good,
      is_true (trace_fits trace) fits,
      eq-eqb (length rows) (frames trace) (was.rows_length ∙ same_frames edited),
      eq-eqb (length words) (frames trace) (was.words_length ∙ same_frames edited),
      le-leb a b low,
      le-leb b (frames trace) high,
      is_true (all_possible c words) (true-possible c good old rows words was),
    )

module _
    (c : Config) (good : Good c) (trace rows words : List ℕ) (a b : ℕ) (low : a ≤ b) (high : b ≤ frames trace) (old : List ℕ)
    (edited : Edited old trace a b) (was : TrueRecord c old rows words)
  where
    -- the edit, for the step of this configuration
    edit : Edit (step_word c) (frame_at trace) (frame_at old) (word_before c (frame_at trace)) (word_before c (frame_at old)) (kept_at words) a b (frames trace)
    unfolding word_before
    edit = record {
      low = low;
      high = high;
      below = edited.before;
      behind = edited.behind;
      start = refl;
      follows = rules-follow c good (frame_at trace);
      follows-old = rules-follow c good (frame_at old);
      keeps = kept-words edited was;
    }

    pub demand-met : (rows' words' : List ℕ) (e : ℕ) (changes : List ℤ) → Rechecked c trace rows words a b rows' words' e changes
        → Demanded c old trace rows b rows' words' 0 e changes
    unfolding own_word own_row
    demand-met rows' words' e changes r = record {
      not_refused = refl;
      record_is =
          record {
            rows_length = r.rows_are.same_length ∙ was.rows_length ∙ same_frames edited;
            words_length = r.words_are.same_length ∙ was.words_length ∙ same_frames edited;
            rows_are =
                λ t h.
                true-entries edit (step_row c) (own_row c trace words a) e rows rows' r.ends
                (λ s l. was.rows_are s (omega (arith, same_frames edited)) ∙ (step-is-rules c good (frame_at old) s).row_is) (λ s _. refl) r.rows_are t h
                ∙ sym (step-is-rules c good (frame_at trace) t).row_is;
            words_are =
                λ t h.
                true-entries edit (step_word c) (λ (s : ℕ). own_word c trace words a (suc s)) e words words' r.ends
                (λ s l. was.words_are s (omega (arith, same_frames edited)) ∙ (step-is-rules c good (frame_at old) s).word_is)
                (run-steps (step_word c) (frame_at trace) a (kept_at words a)) r.words_are t h
                ∙ sym (step-is-rules c good (frame_at trace) t).word_is;
          };
      ends = true-ends edit e r.ends;
      changes_are = r.changes_all;
    }
