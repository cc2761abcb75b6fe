-- The invariant of the recheck's loop: its run has come to cycle t, has met no cycle from b on where it could stop, holds the kept word before t, and has
-- counted the marks of the rows that it replaced and stored. A block is a stretch that the run enters at t: its words are the run's own, since they follow
-- the same frames by the same step, and what it keeps is what the record kept. Its rows behind the end are as they were, so their marks are in the count
-- before the block and in the count after it. Assumes nothing.
use Prim.Native.Nat.{ℕ, zero, suc, ◌+◌, ◌≤◌, ◌<◌}
use mathlib.Core.Path.{◌≡◌, sym, ap, ◌∙◌}
use mathlib.Core.Bool.{true, false}
use mathlib.Core.List.{List}
use mathlib.Core.Logic.{⊎_elim}
use native.Mathlib.Nat.{zero-add, le_refl, le_of_suc-le-suc, eq-or-lt_of_le}
use native.Mathlib.Omega.{arith}
use borrow.Author.Tests.{ltb-true, ltb-false, leb-true, leb-false}
use lib.Dec.{T, ltb, leb}
use lib.ListN.{get_or}
use Rattle.bits.proofs.Tests.{either}
use Rattle.rules.specs.declared.config.Config.{Config}
use Rattle.rules.specs.Rules.{marks}
use Rattle.rules.specs.Step.{step_word}
use Rattle.rules.specs.Possible.{possible}
use Rattle.trace.specs.declared.stretch.Stretch.{Stretch}
use Rattle.trace.specs.declared.stretch.Reached.{Reached}
use Rattle.trace.specs.Traces.{frames, frame_at}
use Rattle.trace.specs.Runs.{word_at, kept_at, Written}
use Rattle.trace.specs.Stretches.{kept_from, stretch_word, stretch_row, Runnable, Ran}
use Rattle.trace.proofs.Runs.{run_enters, run-steps, same-words}
use Rattle.trace.proofs.Written.{written_none, written_on}
use Rattle.trace.proofs.Running.{kept-enters, kept-steps}
use Rattle.halves.specs.Rows.{marks_in}
use Rattle.halves.proofs.Counted.{marks-none, marks-le, marks-same, marks-split}
use Rattle.resume.specs.Resumes.{own_word, own_row, Resumable, Resumed}

module _ (c : Config) (trace rows₀ words₀ : List ℕ) (a b : ℕ) where
  pub record Going (rows words : List ℕ) (t own kept : ℕ) (counts : List ℕ) : Type 0 where
    pub low : a ≤ t
    pub high : t ≤ frames trace
    pub word_is : own ≡ own_word c trace words₀ a t
    pub possible_word : T (possible c own)
    pub kept_is : kept ≡ kept_at words₀ t
    pub rows_are : Written (own_row c trace words₀ a) a t rows₀ rows
    pub words_are : Written (λ k. own_word c trace words₀ a (suc k)) a t words₀ words
    pub going_on : (u : ℕ) → b ≤ u → u < t → own_word c trace words₀ a u ≡ kept_at words₀ u → ⊥
    pub counts_are : (i : ℕ) → i < marks → get_or counts i 0 + marks_in rows₀ i a t ≡ 65536 + marks_in rows i a t

  module _ (word : ℕ) (r : Resumable c trace rows₀ words₀ a b word) where
    pub going-none : (counts : List ℕ) → ((i : ℕ) → i < marks → get_or counts i 0 ≡ 65536) → Going rows₀ words₀ a word word counts
    unfolding own_word
    going-none counts all = record {
      low = le_refl a;
      high = omega (arith, r.low, r.high);
      word_is = r.word_is ∙ sym (run_enters (step_word c) (frame_at trace) a (kept_at words₀ a) a (le_refl a));
      possible_word = r.possible_word;
      kept_is = r.word_is;
      rows_are = written_none (own_row c trace words₀ a) a rows₀;
      words_are = written_none (λ k. own_word c trace words₀ a (suc k)) a words₀;
      going_on = λ u l h. absurd (omega (arith, r.low));
      counts_are = λ i h. omega (arith, all i h, marks-none rows₀ i a);
    }

    module _
        (rows words : List ℕ) (t own kept : ℕ) (counts : List ℕ) (g : Going rows words t own kept counts) (to : ℕ) (here : t < to)
        (within : to ≤ frames trace) (before : t < b → to ≤ b)
      where
        -- the block
        abbrev block : Stretch
        block = record { from = 0; at = t; to = to; stops = leb b t; word = own; kept = kept }

        pub runnable : Runnable c trace rows words block
        runnable = record {
          good = r.good;
          possible_word = g.possible_word;
          low = omega arith;
          rows_hold = omega (arith, g.rows_are.same_length, r.rows_length);
          words_hold = omega (arith, g.words_are.same_length, r.words_length);
          in_trace = omega arith;
          short = r.short;
        }

        -- the block's words and rows are the run's own
        same_word : (k : ℕ) → t ≤ k → stretch_word c trace block k ≡ own_word c trace words₀ a k
        unfolding stretch_word own_word
        same_word k h =
            same-words (step_word c) (λ j. frame_at trace (0 + j)) (frame_at trace) (word_at (step_word c) (λ j. frame_at trace (0 + j)) t own)
            (word_at (step_word c) (frame_at trace) a (kept_at words₀ a)) t k (run-steps (step_word c) (λ j. frame_at trace (0 + j)) t own)
            (λ j l. run-steps (step_word c) (frame_at trace) a (kept_at words₀ a) j (omega (arith, g.low))) (λ j _ _. ap (frame_at trace) (zero-add j))
            (run_enters (step_word c) (λ j. frame_at trace (0 + j)) t own t (le_refl t) ∙ g.word_is) k h (le_refl k)

        same_row : (k : ℕ) → t ≤ k → stretch_row c trace block k ≡ own_row c trace words₀ a k
        unfolding stretch_row own_row
        same_row k h = rw (same_word k h, zero-add k)

        -- what the block keeps is what the record kept
        same_kept : (k : ℕ) → t ≤ k → kept_from words t kept k ≡ kept_at words₀ k
        unfolding kept_at
        same_kept zero h = let e : t ≡ 0 = omega arith in kept-enters words t kept 0 (omega arith) ∙ g.kept_is ∙ ap (kept_at words₀) e
        same_kept (suc k) h =
            ⊎_elim (λ (e : t ≡ suc k). kept-enters words t kept (suc k) (omega arith) ∙ g.kept_is ∙ ap (kept_at words₀) e)
            (λ (l : t < suc k). kept-steps words t kept k (le_of_suc-le-suc l) ∙ g.words_are.beyond k (le_of_suc-le-suc l)) (eq-or-lt_of_le h)

        module _ (rows' words' : List ℕ) (q : Reached) (ran : Ran c trace rows words block rows' words' q) where
          -- a run that does not stop at t comes further
          pub further : (b ≤ t → own ≡ kept → ⊥) → t < q.at
          further differs = ⊎_elim (λ (e : t ≡ q.at). absurd (stuck e)) (λ l. l) (eq-or-lt_of_le ran.come.low)
            where
              stuck : t ≡ q.at → ⊥
              stuck e =
                  let s = ran.stopped (omega arith) in
                  differs (leb-true b t s.0)
                  (g.word_is ∙ sym (same_word t (le_refl t)) ∙ ap (stretch_word c trace block) e ∙ sym ran.come.word_is ∙ s.1 ∙ ran.come.kept_is
                  ∙ sym (ap (kept_from words t kept) e) ∙ same_kept t (le_refl t) ∙ sym g.kept_is)

          -- a block that reaches a cycle from b on started there
          stopping : (u : ℕ) → b ≤ u → u < q.at → leb b t ≡ true
          stopping u l h =
              ⊎_elim (λ e. e) (λ (e : leb b t ≡ false). absurd (omega (arith, ran.come.high, before (leb-false b t e)))) (either (leb b t))

          -- the rows behind the end have the same marks before and after
          module _ (i : ℕ) where
            pub old-marks : marks_in rows i t to ≡ marks_in rows₀ i t q.at + marks_in rows i q.at to
            old-marks =
                marks-split rows i t q.at to ran.come.low ran.come.high
                ∙ ap (λ (n : ℕ). n + marks_in rows i q.at to) (marks-same rows rows₀ i t q.at (λ k l _. g.rows_are.beyond k l))

            pub new-marks : marks_in rows' i t to ≡ marks_in rows' i t q.at + marks_in rows i q.at to
            new-marks =
                marks-split rows' i t q.at to ran.come.low ran.come.high
                ∙ ap (λ (n : ℕ). marks_in rows' i t q.at + n) (marks-same rows' rows i q.at to (λ k l _. ran.come.rows_are.beyond k l))

            pub kept-marks : marks_in rows' i a q.at ≡ marks_in rows i a t + marks_in rows' i t q.at
            kept-marks =
                marks-split rows' i a t q.at g.low ran.come.low
                ∙ ap (λ (n : ℕ). n + marks_in rows' i t q.at) (marks-same rows' rows i a t (λ k _ l. ran.come.rows_are.below k l))

            pub first_marks : marks_in rows₀ i a q.at ≡ marks_in rows₀ i a t + marks_in rows₀ i t q.at
            first_marks = marks-split rows₀ i a t q.at g.low ran.come.low

          -- the counts stay between 0 and 131,072
          pub moved-low : (i : ℕ) → i < marks → marks_in rows i t to ≤ get_or counts i 0 + marks_in rows' i t to
          moved-low i h =
              omega (arith, g.counts_are i h, old-marks i, new-marks i, first_marks i, marks-le rows₀ i a q.at, ran.come.high, r.short, within)

          pub moved-high : (i : ℕ) → i < marks → get_or counts i 0 + marks_in rows' i t to ≤ 262144
          moved-high i h = omega (arith, g.counts_are i h, marks-le rows i a t, marks-le rows' i t to, g.high, r.short, within)

          pub going_more : (counts' : List ℕ) → ((i : ℕ) → i < marks → get_or counts' i 0 + marks_in rows i t to ≡ get_or counts i 0 + marks_in rows' i t to)
              → Going rows' words' q.at q.word q.kept counts'
          going_more counts' moved = record {
            low = omega (arith, g.low, ran.come.low);
            high = omega (arith, ran.come.high);
            word_is = ran.come.word_is ∙ same_word q.at ran.come.low;
            possible_word = ran.come.possible_word;
            kept_is = ran.come.kept_is ∙ same_kept q.at ran.come.low;
            rows_are = written_on a t q.at rows₀ rows rows' g.low ran.come.low same_row g.rows_are ran.come.rows_are;
            words_are =
                written_on a t q.at words₀ words words' g.low ran.come.low (λ k h. same_word (suc k) (omega arith)) g.words_are
                ran.come.words_are;
            going_on = λ u l h e.
                ⊎_elim (λ (p : ltb u t ≡ true). g.going_on u l (ltb-true u t p) e)
                (λ (p : ltb u t ≡ false).
                let k = ltb-false u t p in ran.come.going_on (stopping u l h) u k h (same_word u k ∙ e ∙ sym (same_kept u k)))
                (either (ltb u t));
            counts_are = λ i h. omega (arith, g.counts_are i h, moved i h, old-marks i, new-marks i, kept-marks i, first_marks i);
          }

    -- the end, at or after b, where the words are the same or the trace ends
    pub going_done : (rows words : List ℕ) (t own kept : ℕ) (counts : List ℕ) → Going rows words t own kept counts → b ≤ t
        → (t < frames trace → own ≡ kept) → Resumed c trace rows₀ words₀ a b rows words t counts
    going_done rows words t own kept counts g low same = record {
      ends = record { low = low; high = g.high; stops = λ l. sym g.word_is ∙ same l ∙ g.kept_is; least = g.going_on };
      rows_are = g.rows_are;
      words_are = g.words_are;
      counts_are = g.counts_are;
    }
