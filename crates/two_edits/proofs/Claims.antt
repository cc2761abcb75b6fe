-- Taking an edit back, and two edits in either order, from the contract of the recheck alone.
--
-- By demand 3 an edit and its recheck leave the true record of the edited trace, and the changes are the new counts less the old ones (`demanded`). So the second recheck
-- starts from a true record too (`checked-after`), and the changes of both are the last counts less the first (`changes-add`). A trace that is accepted is its frames
-- (`same-trace`), and its true record is settled (`same-record`). What is left is which frames two edits put: `put_back`, `put-apart`. Assumes nothing.
use Prim.Native.Nat.{ℕ, zero, suc, ◌+◌, ◌*◌, ◌/◌, ◌%◌, ◌≤◌, ◌<◌, zero-le}
use mathlib.Core.Path.{◌≡◌, refl, sym, ap, ap₂, ◌∙◌}
use mathlib.Core.Bool.{Bool, true, false, ◌&&◌, cond}
use mathlib.Core.List.{List}
use native.Mathlib.Omega.{arith}
use borrow.Author.Tests.{le-ltb, leb-true, leb-false, ltb-true, ltb-false, eqb-true}
use lib.Dec.{T, eqb, leb, ltb}
use lib.IntN.{ℤ, pos, neg_ℤ, sub_ℕ, ◌+ℤ◌, ◌-ℤ◌, +ℤ_assoc, +ℤ_comm, +ℤ_idl, +ℤ_invl, +ℤ_invr}
use lib.ListN.{length, get_or}
use lib.Seq.{ext_get_or}
use Rattle.bits.proofs.Tests.{is_true, and_left}
use Rattle.rules.specs.declared.config.Config.{Config}
use Rattle.rules.specs.declared.frame.Frame.{Frame}
use Rattle.rules.specs.Frame.{Trace, frame_words}
use Rattle.rules.specs.Rules.{marks}
use Rattle.trace.specs.Traces.{frames, frame_at, trace_fits}
use Rattle.trace.proofs.Frames.{cut_at}
use Rattle.halves.specs.Rows.{marks_in}
use Rattle.counts.specs.Counts.{change}
use Rattle.record.specs.Records.{TrueRecord}
use Rattle.recheck.specs.declared.edit.RecheckResult.{RecheckResult}
use Rattle.recheck.specs.Rechecks.{Demanded}
use Rattle.two_edits.specs.TwoEdits.{Held, Checked, Edit, change_of_both, TakesBack, EitherOrder}

-- ---- changes add up

sub_is : (x y : ℕ) → sub_ℕ x y ≡ pos x -ℤ pos y
sub_is x zero = rw (le-ltb x 0 zero-le) (ap pos (omega arith))
sub_is x (suc y) = refl

sub-adds : (x y z : ℕ) → sub_ℕ y x +ℤ sub_ℕ z y ≡ sub_ℕ z x
sub-adds x y z =
    +ℤ_comm (sub_ℕ y x) (sub_ℕ z y) ∙ ap₂ (λ (m k : ℤ). m +ℤ k) (sub_is z y) (sub_is y x) ∙ +ℤ_assoc (pos z) (neg_ℤ (pos y)) (pos y -ℤ pos x)
    ∙ ap (λ (k : ℤ). pos z +ℤ k)
    (sym (+ℤ_assoc (neg_ℤ (pos y)) (pos y) (neg_ℤ (pos x))) ∙ ap (λ (k : ℤ). k +ℤ neg_ℤ (pos x)) (+ℤ_invl (pos y)) ∙ +ℤ_idl (neg_ℤ (pos x)))
    ∙ sym (sub_is z x)

changes-add : (i n : ℕ) (old mid new : List ℕ) → change mid old i 0 n +ℤ change new mid i 0 n ≡ change new old i 0 n
unfolding change
changes-add i n old mid new = sub-adds (marks_in old i 0 n) (marks_in mid i 0 n) (marks_in new i 0 n)

no_change : (i n : ℕ) (rows : List ℕ) → change rows rows i 0 n ≡ pos 0
unfolding change
no_change i n rows = let m = marks_in rows i 0 n in sub_is m m ∙ +ℤ_invr (pos m)

-- ---- a trace is its frames, and its true record is settled

same-trace : (l l' : List ℕ) → T (trace_fits l) → length l ≡ length l' → ((t : ℕ) → t < frames l → frame_at l t ≡ frame_at l' t) → l ≡ l'
unfolding trace_fits frames frame_at
same-trace l l' fits same frame_is = ext_get_or 0 l l' same entry
  where
    whole : length l % frame_words ≡ 0
    whole = eqb-true (length l % frame_words) 0 (is_true _ (and_left (eqb (length l % frame_words) 0) (leb (frames l) 65536) fits))

    word_of : (m : List ℕ) (j : ℕ) → get_or (frame_at m (j / frame_words)).samples (j % frame_words) 0 ≡ get_or m j 0
    word_of m j =
        let e : frame_words * (j / frame_words) + j % frame_words ≡ j = omega arith in
        cut_at frame_words m (frame_words * (j / frame_words)) (j % frame_words) (omega arith) ∙ ap (λ (k : ℕ). get_or m k 0) e

    entry : (j : ℕ) → j < length l → get_or l j 0 ≡ get_or l' j 0
    entry j h =
        sym (word_of l j) ∙ ap (λ (f : Frame). get_or f.samples (j % frame_words) 0) (frame_is (j / frame_words) (omega (arith, whole))) ∙ word_of l' j

same-record : {c : Config} {trace rows words rows' words' : List ℕ} → TrueRecord c trace rows words → TrueRecord c trace rows' words'
    → (rows ≡ rows') × (words ≡ words')
same-record {rows = rows} {words = words} {rows' = rows'} {words' = words'} r s = (
  ext_get_or 0 rows rows' (r.rows_length ∙ sym s.rows_length)
      (λ t h. let l = rw r.rows_length at h in r.rows_are t l ∙ sym (s.rows_are t l)),
  ext_get_or 0 words words' (r.words_length ∙ sym s.words_length)
      (λ t h. let l = rw r.words_length at h in r.words_are t l ∙ sym (s.words_are t l)),
)

-- ---- one edit and its recheck

same_frames : (l l' : List ℕ) → length l ≡ length l' → frames l ≡ frames l'
unfolding frames
same_frames l l' e = ap (λ (n : ℕ). n / frame_words) e

-- the frames f with the samples in cycles a to b−1
abbrev put : ℕ → ℕ → Trace → Trace → Trace
put a b samples f t = cond (leb a t && ltb t b) (samples t) (f t)

module _ {config : Config} {a b : ℕ} {samples : Trace} {before after : Held} {result : RecheckResult} (edit : Edit config a b samples before after result) where
  frames-after : (t : ℕ) → t < frames after.trace → frame_at after.trace t ≡ put a b samples (frame_at before.trace) t
  frames-after t h = by (leb a t) (ltb t b) refl refl
    where
      by : (u v : Bool) → leb a t ≡ u → ltb t b ≡ v → frame_at after.trace t ≡ cond (u && v) (samples t) (frame_at before.trace t)
      by true true p q = edit.samples_are t (leb-true a t p) (ltb-true t b q)
      by true false p q = sym (edit.edited.behind t (ltb-false t b q) h)
      by false v p q = sym (edit.edited.before t (leb-false a t p))

  module _ (ok : Checked config before) where
    fits_after : T (trace_fits after.trace)
    unfolding trace_fits frames
    fits_after = rw edit.edited.same_length at ok.fits

    demanded : Demanded config before.trace after.trace before.rows b after.rows after.words result.refusal result.end result.changes
    demanded =
        edit.rechecked.demand ok.good fits_after edit.low (omega (arith, edit.high, same_frames before.trace after.trace edit.edited.same_length)) before.trace edit.edited
        ok.record_is

    checked-after : Checked config after
    checked-after = record { good = ok.good; fits = fits_after; record_is = demanded.record_is }

-- ---- one edit and then another

-- what holds then, where the last trace has the frames f
record Twice (config : Config) (f : Trace) (old new : Held) (first second : RecheckResult) : Type 0 where
  checked : Checked config new
  accepted : (first.refusal ≡ 0) × (second.refusal ≡ 0)
  changes_are : (i : ℕ) → i < marks → change_of_both first second i ≡ change new.rows old.rows i 0 (frames old.trace)
  same_length : length new.trace ≡ length old.trace
  frames_are : (t : ℕ) → t < frames new.trace → frame_at new.trace t ≡ f t

twice : {config : Config} {a b c d : ℕ} {samples others : Trace} {old mid new : Held} {r s : RecheckResult} → Checked config old
    → Edit config a b samples old mid r → Edit config c d others mid new s → Twice config (put c d others (put a b samples (frame_at old.trace))) old new r s
twice {c = c} {d = d} {others = others} {old = old} {mid = mid} {new = new} ok first second =
    let met = demanded first ok in
    let met' = demanded second (checked-after first ok) in
    let cycles = same_frames old.trace mid.trace first.edited.same_length in
    let cycles' = same_frames mid.trace new.trace second.edited.same_length in
    record {
      checked = checked-after second (checked-after first ok);
      accepted = (met.not_refused, met'.not_refused);
      changes_are =
          λ i h.
          ap₂ (λ (x y : ℤ). x +ℤ y) (met.changes_are i h) (met'.changes_are i h)
          ∙ rw (← cycles', ← cycles) (changes-add i (frames old.trace) old.rows mid.rows new.rows);
      same_length = sym (first.edited.same_length ∙ second.edited.same_length);
      frames_are =
          λ t h.
          frames-after second t h ∙ ap (λ (f : Frame). cond (leb c t && ltb t d) (others t) f) (frames-after first t (omega (arith, cycles')));
    }

-- ---- the claims

-- what was there, put over what was put there
put_back : (a b t : ℕ) (samples f : Trace) → put a b f (put a b samples f) t ≡ f t
put_back a b t samples f = by (leb a t && ltb t b)
  where
    by : (u : Bool) → cond u (f t) (cond u (samples t) (f t)) ≡ f t
    by true = refl
    by false = refl

pub takes_back : TakesBack
takes_back config a b samples old edited back first second h =
    let both = twice h.from_true h.edit h.restores in
    let same : back.trace ≡ old.trace =
    same-trace back.trace old.trace both.checked.fits both.same_length (λ t l. both.frames_are t l ∙ put_back a b t samples (frame_at old.trace)) in
    let settled = same-record (rw same at both.checked.record_is) h.from_true.record_is in
    record {
      edit_accepted = both.accepted.0;
      back_accepted = both.accepted.1;
      rows_are_old = settled.0;
      words_are_old = settled.1;
      changes_cancel = λ i l. both.changes_are i l ∙ rw settled.0 (no_change i (frames old.trace) old.rows);
    }

-- samples put in cycles that do not meet
put-apart : (a b c d t : ℕ) (samples others f : Trace) → b ≤ c → put c d others (put a b samples f) t ≡ put a b samples (put c d others f) t
put-apart a b c d t samples others f apart = by (leb a t) (ltb t b) (leb c t) (ltb t d) refl refl
  where
    by : (p q u v : Bool) → ltb t b ≡ q → leb c t ≡ u
        → cond (u && v) (others t) (cond (p && q) (samples t) (f t)) ≡ cond (p && q) (samples t) (cond (u && v) (others t) (f t))
    by false q u v _ _ = refl
    by true false u v _ _ = refl
    by true true false v _ _ = refl
    by true true true v before behind = absurd (omega (arith, ltb-true t b before, leb-true c t behind))

pub either_order : EitherOrder
either_order config a b c d samples others old one both other swapped first second first' second' h =
    let x = twice h.from_true h.one_first h.other_second in
    let y = twice h.from_true h.other_first h.one_second in
    let length_is = x.same_length ∙ sym y.same_length in
    let same : both.trace ≡ swapped.trace =
    same-trace both.trace swapped.trace x.checked.fits length_is
    (λ t l.
    x.frames_are t l ∙ put-apart a b c d t samples others (frame_at old.trace) h.apart ∙ sym (y.frames_are t (omega (arith, same_frames both.trace swapped.trace length_is)))) in
    let settled = same-record (rw same at x.checked.record_is) y.checked.record_is in
    record {
      accepted = x.accepted;
      accepted_swapped = y.accepted;
      rows_same = settled.0;
      words_same = settled.1;
      sums_same = λ i l. x.changes_are i l ∙ rw settled.0 (sym (y.changes_are i l));
    }
