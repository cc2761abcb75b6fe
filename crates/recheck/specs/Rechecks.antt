-- The recheck and demand 3, from document 01, "What the viewer calls" and "The words of demand 3", and document 02, §6. Assumes nothing.
use Rattle.std.specs.Prelude.{ℕ, suc, ◌≤◌, ◌<◌, ◌≡◌, List, T, ℤ, pos, length, get_or}
use Rattle.rules.specs.declared.config.Config.{Config}
use Rattle.rules.specs.Config.{Good}
use Rattle.rules.specs.Rules.{marks, word_before}
use Rattle.trace.specs.Traces.{frames, frame_at, trace_fits}
use Rattle.trace.specs.Runs.{kept_at, Ends, Written}
use Rattle.counts.specs.Counts.{change}
use Rattle.recheck_refusals.specs.Refusals.{Refused}
use Rattle.record.specs.Records.{TrueRecord}
use Rattle.resume.specs.Resumes.{own_word, own_row}

-- What a recheck that is not refused does to any rows and words: "e and the entries from a to e−1 are those that Recheck above gives", and nothing else
-- is altered. The changes are over a to e−1, "which is also that over all N rows".
pub record Rechecked (c : Config) (trace rows words : List ℕ) (a b : ℕ) (rows' words' : List ℕ) (e : ℕ) (changes : List ℤ) : Type 0 where
  pub ends : Ends (own_word c trace words a) (kept_at words) b (frames trace) e
  pub rows_are : Written (own_row c trace words a) a e rows rows'
  pub words_are : Written (λ t. own_word c trace words a (suc t)) a e words words'
  pub changes_are : (i : ℕ) → i < marks → get_or changes i (pos 0) ≡ change rows' rows i a e
  pub changes_all : (i : ℕ) → i < marks → get_or changes i (pos 0) ≡ change rows' rows i 0 (frames trace)

-- Refused: "A refusal writes nothing; every other number answered is 0".
pub record NotRechecked (rows words rows' words' : List ℕ) (e : ℕ) (changes : List ℤ) : Type 0 where
  pub rows_kept : rows' ≡ rows
  pub words_kept : words' ≡ words
  pub end_is : e ≡ 0
  pub changes_are : (i : ℕ) → i < marks → get_or changes i (pos 0) ≡ pos 0

-- An old trace "of N frames that has the same frames outside a to b−1"
pub record Edited (old trace : List ℕ) (a b : ℕ) : Type 0 where
  pub same_length : length old ≡ length trace
  pub before : (t : ℕ) → t < a → frame_at old t ≡ frame_at trace t
  pub behind : (t : ℕ) → b ≤ t → t < frames trace → frame_at old t ≡ frame_at trace t

-- Demand 3: "the recheck is not refused, and rows, words, e and changes are all as demanded". The checks unfinished before a cycle are equal exactly when
-- the open words before it are, so e is the first cycle, not before b, where these are equal in the old and the edited trace, or the end.
pub record Demanded (c : Config) (old trace rows : List ℕ) (b : ℕ) (rows' words' : List ℕ) (refusal e : ℕ) (changes : List ℤ) : Type 0 where
  pub not_refused : refusal ≡ 0
  pub record_is : TrueRecord c trace rows' words'
  pub ends : Ends (word_before c (frame_at trace)) (word_before c (frame_at old)) b (frames trace) e
  pub changes_are : (i : ℕ) → i < marks → get_or changes i (pos 0) ≡ change rows' rows i 0 (frames trace)

-- The recheck: one contract for any rows and words handed in, and demand 3 for every old trace whose true record they are. "Records of a full check are
-- never refused for this": not with 7, whatever the trace is that they are the true record of.
pub record RecheckAnswer
    (c : Config) (trace rows words : List ℕ) (a b : ℕ) (rows' words' : List ℕ) (refusal cycle e : ℕ) (changes : List ℤ) : Type 0 where
  pub tested : Refused c trace rows words a b refusal cycle
  pub all_marks : length changes ≡ marks
  pub done : refusal ≡ 0 → Rechecked c trace rows words a b rows' words' e changes
  pub refused : (refusal ≡ 0 → ⊥) → NotRechecked rows words rows' words' e changes
  pub never_spoiled : Good c → (old : List ℕ) → TrueRecord c old rows words → refusal ≡ 7 → ⊥
  pub demand : Good c → T (trace_fits trace) → a ≤ b → b ≤ frames trace → (old : List ℕ) → Edited old trace a b → TrueRecord c old rows words
      → Demanded c old trace rows b rows' words' refusal e changes
