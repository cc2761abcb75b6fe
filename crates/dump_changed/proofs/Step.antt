-- One word of the code's changes is one word of the definition's: `changed-step`. A lemma for each word that is due. Assumes nothing.
use mathlib.Core.Path.{◌≡◌, refl, ◌∙◌, ap}
use mathlib.Core.Bool.{Bool, true, false, cond, ◌||◌}
use mathlib.Core.List.{List, ◌∷◌}
use Prim.Native.Nat.{ℕ, ◌/◌, ◌≤◌}
use native.Mathlib.Omega.{arith}
use lib.Dec.{eqb, ltb}
use lib.ListN.{length}
use borrow.Author.Tests.{eqb-true, eqb-false}
use Rattle.dump.specs.State.{State, refuse}
use Rattle.dump.specs.Connections.{Pair}
use Rattle.dump.specs.Changes as D
use Rattle.dump.specs.Load.{step}
use Rattle.dump_words.specs.declared.text.Text.{Text}
use Rattle.dump_words.specs.declared.number.Number.{Number}
use Rattle.dump_change.specs.declared.wave.Wave.{Wave}
use Rattle.dump_change.specs.Change as C
use Rattle.dump_changed.specs.Changed.{Follows, Kept}
use Rattle.dump_changed.proofs.Stamps.{stamp-follows}
use Rattle.dump_changed.proofs.Codes.{real-code-follows, vector-code-follows}
use Rattle.dump_changed.proofs.Words.{vector-follows, comment-follows, text-follows}

-- the first byte of a vector is no dollar
no-dollar : (b : ℕ) → eqb b 98 || eqb b 66 ≡ true → eqb b 36 ≡ false
no-dollar b e = go (eqb b 36) refl
  where
    go : (t : Bool) → eqb b 36 ≡ t → t ≡ false
    go false q = refl
    go true q = let f : b ≡ 36 = eqb-true b 36 q in cc

module _ {n : ℕ} {w : Wave} {store digits frames lent : List ℕ} {table : List Pair} {s : State} {b : ℕ} {v : List ℕ} {class : ℕ} {t : Text} {number : Number} {count wrong : ℕ}
    (h : Follows n w store digits frames lent table s) (kept : Kept w.place b v class t number count wrong digits) where
  abbrev room : ℕ
  room = length lent / 8

  abbrev Done : Type 0
  Done = Follows n (C.word_wave w class t number count wrong n store frames) (C.word_store w class t number n store digits frames) digits (C.word_frames w class number store frames) lent table (step table room s (b ∷ v))

  -- tests of the place
  module _ {p : ℕ} (e : w.place ≡ p) where
    is : (k : ℕ) → eqb w.place k ≡ eqb p k
    is k = ap (λ (m : ℕ). eqb m k) e

    due : (k : ℕ) → eqb s.place k ≡ eqb p k
    due k = ap (λ (m : ℕ). eqb m k) (h.place_is ∙ e)

  -- A CHANGE, by its first byte
  module _ (e : w.place ≡ 20) where
    abbrev Changes : State → Type 0
    Changes z = Follows n (C.change_wave w class t number count wrong n store frames) (C.change_store w class t number n store frames) digits (C.change_frames w class number store frames) lent table z

    stamp : b ≡ 35 → Changes (D.on_stamp table room s v)
    unfolding C.change_wave C.change_store C.change_frames
    stamp q = let (c, m) = kept.stamp_is e q in rw c (stamp-follows h e number v m)

    vector : eqb b 98 || eqb b 66 ≡ true → Changes (D.on_vector table room s v)
    unfolding C.change_wave C.change_store C.change_frames
    vector q = let (c, m) = kept.vector_equals e q in rw c (vector-follows h v count wrong m)

    text : (b ≡ 35 → ⊥) → eqb b 98 || eqb b 66 ≡ false
        → Changes (cond (eqb b 36) (D.on_dollar table room s (b ∷ v)) (cond (eqb b 114 || eqb b 82) (D.on_real table room s v) (cond (ltb (D.value_of b) 3) (D.on_scalar table room s (D.value_of b) v) (refuse s 10))))
    unfolding C.change_wave C.change_store C.change_frames
    text f q = let (c, m) = kept.other_is e f q in rw (c, m) (text-follows h b v kept.bytes)

    change : Changes (D.on_change table room s (b ∷ v))
    unfolding D.on_change
    change = go (eqb b 35) refl (eqb b 98 || eqb b 66) refl
      where
        go : (x : Bool) → eqb b 35 ≡ x → (y : Bool) → eqb b 98 || eqb b 66 ≡ y
            → Changes (cond x (D.on_stamp table room s v) (cond (eqb b 36) (D.on_dollar table room s (b ∷ v)) (cond y (D.on_vector table room s v) (cond (eqb b 114 || eqb b 82) (D.on_real table room s v) (cond (ltb (D.value_of b) 3) (D.on_scalar table room s (D.value_of b) v) (refuse s 10))))))
        go true q y r = stamp (eqb-true b 35 q)
        go false q true r = rw (no-dollar b r) (vector r)
        go false q false r = text (eqb-false b 35 q) r

  -- BY THE WORD THAT IS DUE
  at-20 : w.place ≡ 20 → Done
  unfolding C.word_wave C.word_store C.word_frames step
  at-20 e = simp (is e, due e) (change e)

  at-21 : w.place ≡ 21 → Done
  unfolding C.word_wave C.word_store C.word_frames C.code_wave C.code_store step
  at-21 e = simp (kept.text_equals (λ f. omega arith), is e, due e) (vector-code-follows h b v kept.bytes (h.vector_equals e))

  at-22 : w.place ≡ 22 → Done
  unfolding C.word_wave C.word_store C.word_frames C.code_wave C.code_store step
  at-22 e = simp (kept.text_equals (λ f. omega arith), is e, due e) (real-code-follows h b v kept.bytes)

  at-23 : w.place ≡ 23 → Done
  unfolding C.word_wave C.word_store C.word_frames C.code_wave C.code_store step
  at-23 e = simp (kept.text_equals (λ f. omega arith), is e, due e) (comment-follows h (b ∷ v) kept.bytes)

  pub changed-step : 20 ≤ w.place → w.place ≤ 23
      → Follows n (C.word_wave w class t number count wrong n store frames) (C.word_store w class t number n store digits frames) digits (C.word_frames w class number store frames) lent table (step table (length lent / 8) s (b ∷ v))
  changed-step low high = go (eqb w.place 20) refl (eqb w.place 21) refl (eqb w.place 22) refl
    where
      go : (x : Bool) → eqb w.place 20 ≡ x → (y : Bool) → eqb w.place 21 ≡ y → (z : Bool) → eqb w.place 22 ≡ z → Done
      go true e y f z g = at-20 (eqb-true w.place 20 e)
      go false e true f z g = at-21 (eqb-true w.place 21 f)
      go false e false f true g = at-22 (eqb-true w.place 22 g)
      go false e false f false g =
          let p : (w.place ≡ 20 → ⊥) = eqb-false w.place 20 e in
          let q : (w.place ≡ 21 → ⊥) = eqb-false w.place 21 f in
          let r : (w.place ≡ 22 → ⊥) = eqb-false w.place 22 g in
          at-23 (omega arith)
