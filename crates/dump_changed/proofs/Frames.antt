-- A frame is sampled: its eight words are set behind the frames before it, `framed-more`. Assumes nothing.
use mathlib.Core.Path.{◌≡◌, refl, ◌∙◌, sym, ap}
use mathlib.Core.List.{List, [], ◌∷◌, ◌++◌, append_assoc, append-nil}
use Prim.Native.Nat.{ℕ, zero, suc, ◌+◌, ◌*◌, ◌/◌, ◌%◌, ◌^◌, ◌<◌, ◌≤◌}
use native.Mathlib.Omega.{arith}
use native.Mathlib.Nat.{mod-eq_of_lt}
use lib.ListN.{length, get_or, take, drop, set, length-append}
use lib.Seq.{sets, sets-eq, length-sets, take_at, drop_at, drop-drop}
use Rattle.dump.specs.Changes.{frame_of}
use Rattle.dump.specs.Load.{joined_frames, filled}
use Rattle.dump_valued.specs.Valued.{Holds}
use Rattle.dump_valued.proofs.Sample.{sample-is, sample-lt}
use Rattle.dump_change.specs.Change as C
use Rattle.dump_changed.specs.Changed.{Whole, Framed}

-- FRAMES ONE BEHIND THE OTHER
pub joined_length : (fs : List (List ℕ)) → Whole fs → length (joined_frames fs) ≡ 8 * length fs
unfolding joined_frames
joined_length [] h = refl
joined_length (f ∷ fs) (g, h) = length-append f (joined_frames fs) ∙ omega (arith, joined_length fs h)

joined-more : (fs : List (List ℕ)) (f : List ℕ) → joined_frames (fs ++ (f ∷ [])) ≡ joined_frames fs ++ f
unfolding joined_frames
joined-more [] f = append-nil f
joined-more (g ∷ fs) f = ap (λ (l : List ℕ). g ++ l) (joined-more fs f) ∙ sym (append_assoc g (joined_frames fs) f)

whole-more : (fs : List (List ℕ)) (f : List ℕ) → Whole fs → length f ≡ 8 → Whole (fs ++ (f ∷ []))
whole-more [] f h e = (e, tt)
whole-more (g ∷ fs) f (k, h) e = (k, whole-more fs f h e)

-- THE WORDS OF A FRAME, set one after the other
sample-sets : (store : List ℕ) (k m j : ℕ) (frames vs : List ℕ) → length vs ≡ m → ((i : ℕ) → i < m → get_or store (8458 + (j + i)) 0 % 2 ^ 32 ≡ get_or vs i 0) → C.sample_from store frames k j m ≡ sets frames (8 * k + j) vs
unfolding C.sample_from
sample-sets store k zero j frames [] e h = refl
sample-sets store k zero j frames (a ∷ vs) e h = absurd (omega arith)
sample-sets store k (suc m) j frames [] e h = absurd (omega arith)
sample-sets store k (suc m) j frames (a ∷ vs) e h =
    let z : j + 0 ≡ j = omega arith in
    let v : get_or store (8458 + j) 0 % 2 ^ 32 ≡ a = rw z at (h 0 (omega arith)) in
    let n : 8 * k + suc j ≡ suc (8 * k + j) = omega arith in
    rw v (sample-sets store k m (suc j) (set frames (8 * k + j) a) vs (omega arith) (λ i l. let q : suc j + i ≡ j + suc i = omega arith in rw q (h (suc i) (omega arith))) ∙ rw n)

frame-length : (vs : List ℕ) → length (frame_of vs) ≡ 8
unfolding frame_of
frame-length vs = refl

module _ (store vs : List ℕ) (holds : Holds 8458 8467 store vs) where
  abbrev f : List ℕ
  f = frame_of vs

  sampled-words : (k : ℕ) (frames : List ℕ) → C.sample_from store frames k 0 8 ≡ sets frames (8 * k + 0) f
  sampled-words k frames = sample-sets store k 8 0 frames f (frame-length vs) (λ i l. let z : 0 + i ≡ i = omega arith in rw z (mod-eq_of_lt (sample-lt store vs holds i l) ∙ sample-is store vs holds i l))

  module _ (lent frames : List ℕ) (fs : List (List ℕ)) (count : ℕ) (h : Framed count frames lent fs) (room : count < length frames / 8) where
    -- the frames before it, it, and what was lent behind it
    sampled-filled : C.sample_from store frames count 0 8 ≡ filled (fs ++ (f ∷ [])) lent
    unfolding filled
    sampled-filled =
        let l : length (joined_frames fs) ≡ 8 * count + 0 = joined_length fs h.whole ∙ omega (arith, h.count_is) in
        let m : 8 * count + 0 + 8 ≤ length frames = omega arith in
        let a : length (joined_frames fs ++ f) ≡ length (joined_frames fs) + 8 = length-append (joined_frames fs) f ∙ omega (arith, frame-length vs) in
        let front : take (8 * count + 0) frames ≡ joined_frames fs = rw h.frames_are (take_at (joined_frames fs) (drop (length (joined_frames fs)) lent) (8 * count + 0) l) in
        let back : drop (8 * count + 0) frames ≡ drop (length (joined_frames fs)) lent = rw h.frames_are (drop_at (joined_frames fs) (drop (length (joined_frames fs)) lent) (8 * count + 0) l) in
        sampled-words count frames
        ∙ sets-eq f frames (8 * count + 0) (rw (frame-length vs) m)
        ∙ rw (frame-length vs, joined-more fs f, a, front, ← drop-drop 8 (8 * count + 0) frames, back, drop-drop 8 (length (joined_frames fs)) lent)

    pub framed-more : Framed (count + 1) (C.sample_from store frames count 0 8) lent (fs ++ (f ∷ []))
    framed-more = record {
      as_lent = ap length (sampled-words count frames) ∙ length-sets frames (8 * count + 0) f ∙ h.as_lent;
      count_is = simp length-append (omega (arith, h.count_is));
      fits = simp length-append (omega (arith, h.count_is, h.as_lent));
      whole = whole-more fs f h.whole (frame-length vs);
      frames_are = sampled-filled;
    }
