-- A reader leaves the frames as long as they were, from any state. Assumes nothing.
use mathlib.Core.Path.{◌≡◌, refl, ◌∙◌}
use mathlib.Core.Bool.{Bool, true, false, cond}
use mathlib.Core.List.{List, [], ◌∷◌}
use Prim.Native.Nat.{ℕ, zero, suc, ◌+◌, ◌*◌, ◌/◌, ◌%◌, ◌^◌}
use lib.Dec.{eqb, ltb}
use lib.ListN.{length, get_or, set, length-set}
use Rattle.dump.specs.Text.{blank}
use Rattle.dump_words.specs.declared.number.Number.{Number}
use Rattle.dump_change.specs.declared.wave.Wave.{Wave}
use Rattle.dump_change.specs.Change as C
use Rattle.dump_reader.specs.Machine.{All, place_of, refused, begun, continued, continued_digits, with_word, end_declaration, end_last, end_change, end_word, add_byte, lined, closed_word, byte_step, step, feed}

sample-length : (store frames : List ℕ) (k j m : ℕ) → length (C.sample_from store frames k j m) ≡ length frames
unfolding C.sample_from
sample-length store frames k j zero = refl
sample-length store frames k j (suc m) = sample-length store (set frames (8 * k + j) (get_or store (8458 + j) 0 % 2 ^ 32)) k (suc j) m ∙ length-set frames (8 * k + j) (get_or store (8458 + j) 0 % 2 ^ 32)

closed-length : (w : Wave) (store frames : List ℕ) → length (C.closed_frames w store frames) ≡ length frames
unfolding C.closed_frames
closed-length w store frames = go (C.rises w store) (ltb w.frames (length frames / 8))
  where
    go : (t u : Bool) → length (cond t (cond u (C.sample_from store frames w.frames 0 8) frames) frames) ≡ length frames
    go true true = sample-length store frames w.frames 0 8
    go true false = refl
    go false u = refl

word-length : (w : Wave) (class : ℕ) (n : Number) (store frames : List ℕ) → length (C.word_frames w class n store frames) ≡ length frames
unfolding C.word_frames C.change_frames C.on_stamp_frames C.stamp_frames C.next_frames
word-length w class n store frames = go (eqb w.place 20) (eqb class 2) (eqb w.dumping 0) (eqb n.state 1) (eqb (C.stamp_order w n.value) 0)
  where
    go : (p q r s t : Bool) → length (cond p (cond q (cond r (cond s (cond t (C.closed_frames w store frames) frames) frames) frames) frames) frames) ≡ length frames
    go true true true true true = closed-length w store frames
    go true true true true false = refl
    go true true true false t = refl
    go true true false s t = refl
    go true false r s t = refl
    go false q r s t = refl

end-length : (a : All) → length (end_word a).frames ≡ length a.frames
unfolding end_word end_change end_last end_declaration
end-length a = go (eqb a.reader.head.place 20) (eqb a.reader.head.place 13)
  where
    go : (p q : Bool) → length (cond p (end_change a) (cond q (end_last a) (end_declaration a))).frames ≡ length a.frames
    go true q = word-length a.reader.wave a.reader.word.class a.reader.word.number a.store a.frames
    go false true = refl
    go false false = refl

closed-word-length : (a : All) → length (closed_word a).frames ≡ length a.frames
unfolding closed_word
closed-word-length a = go (eqb a.reader.word.class 0)
  where
    go : (t : Bool) → length (cond t a (end_word a)).frames ≡ length a.frames
    go true = refl
    go false = end-length a

add-length : (a : All) (b : ℕ) → length (add_byte a b).frames ≡ length a.frames
unfolding add_byte
add-length a b = go (eqb a.reader.word.class 0)
  where
    go : (t : Bool) → length (cond {A = All} t (record { reader = with_word a.reader (begun (place_of a.reader) b); store = a.store; digits = a.digits; frames = a.frames }) (record { reader = with_word a.reader (continued a.reader.word b); store = a.store; digits = continued_digits a.reader.word b a.digits; frames = a.frames })).frames ≡ length a.frames
    go true = refl
    go false = refl

step-length : (a : All) (b : ℕ) → length (step a b).frames ≡ length a.frames
unfolding step byte_step
step-length a b = go (refused a.reader) (blank b)
  where
    go : (t u : Bool) → length (cond t a (cond u (lined (closed_word a) b) (add_byte a b))).frames ≡ length a.frames
    go true u = refl
    go false true = closed-word-length a
    go false false = add-length a b

pub feed-length : (a : All) (bytes : List ℕ) → length (feed a bytes).frames ≡ length a.frames
unfolding feed
feed-length a [] = refl
feed-length a (b ∷ bytes) = feed-length (step a b) bytes ∙ step-length a b
