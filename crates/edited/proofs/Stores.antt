-- Words stored in the cycles a to b−1 of a trace leave every other frame as it was. Assumes nothing.
use Prim.Native.Nat.{ℕ, suc, ◌+◌, ◌-◌, ◌*◌}
use mathlib.Core.Path.{◌≡◌, sym, ap, ◌∙◌}
use mathlib.Core.List.{List}
use native.Mathlib.Omega.{arith}
use Rattle.rules.specs.declared.frame.Frame.{Frame}
use Rattle.rules.specs.Frame.{frame_words, frame_word}
use Rattle.trace.specs.Traces.{frame_at}
use Rattle.trace.specs.Runs.{Written}
use Rattle.trace.proofs.Frames.{cut-same}
use Rattle.recheck.specs.Rechecks.{Edited}
use Rattle.edited.specs.Edits.{Stored}

pub written-edited : (f : ℕ → ℕ) (a b : ℕ) (l l' : List ℕ) → Written f (frame_words * a) (frame_words * b) l l' → Edited l l' a b
unfolding frame_at
written-edited f a b l l' w = record {
  same_length = sym w.same_length;
  before = λ t h. rw (cut-same frame_words l l' (frame_words * t) (λ i k. sym (w.below (frame_words * t + i) (omega arith))));
  behind = λ t h _. rw (cut-same frame_words l l' (frame_words * t) (λ i k. sym (w.beyond (frame_words * t + i) (omega arith))));
}

-- the word that entry j of the trace gets, where the frame is stored from entry `first` on
abbrev pub word_of : Frame → ℕ → ℕ → ℕ
word_of f first j = frame_word f (j - first)

pub stored : (l l' : List ℕ) (t : ℕ) (f : Frame) → Written (word_of f (frame_words * t)) (frame_words * t) (frame_words * t + frame_words) l l' → Stored l l' t f
stored l l' t f w =
    let next : frame_words * t + frame_words ≡ frame_words * suc t = omega arith in
    record {
      edited = written-edited _ t (suc t) l l' (rw next at w);
      frame_is = λ k h.
          let e : frame_words * t + k - frame_words * t ≡ k = omega arith in
          w.within (frame_words * t + k) (omega arith) (omega arith) ∙ ap (frame_word f) e;
    }
