-- One word of the code's declarations is one word of the definition's: `declared-step`. A lemma for each place. Assumes nothing.
use mathlib.Core.Path.{◌≡◌, refl, ap}
use mathlib.Core.Bool.{Bool, true, false, cond}
use mathlib.Core.List.{List, ◌∷◌}
use Prim.Native.Nat.{ℕ, suc, ◌<◌, ◌≤◌}
use native.Mathlib.Omega.{arith}
use lib.Dec.{eqb, ltb}
use borrow.Author.Tests.{eqb-true, eqb-false, ltb-true, ltb-false}
use Rattle.dump.specs.Connections.{Pair}
use Rattle.dump.specs.Load.{step}
use Rattle.dump.specs.Declarations as D
use Rattle.dump_words.specs.declared.text.Text.{Text}
use Rattle.dump_words.specs.declared.number.Number.{Number}
use Rattle.dump_words.specs.declared.scan.Scan.{Scan}
use Rattle.dump_words.specs.Gather.{no_text}
use Rattle.dump_gathered.specs.Gathered.{text_of, scan_of, first_of_range}
use Rattle.dump_declare.specs.declared.head.Head.{Head}
use Rattle.dump_declare.specs.Declare as C
use Rattle.dump_declared.specs.Declared.{state_of, Sound, Kept}
use Rattle.dump_declared.proofs.Says.{Says}
use Rattle.dump_declared.proofs.Commands.{command-is, comment-is, scale-is, unit-is, command-end-is, scope-type-is, scope-name-is, var-type-is}
use Rattle.dump_declared.proofs.Vars.{width_is, code_is}
use Rattle.dump_declared.proofs.Ranges.{name_is, range_is, range_none}
use Rattle.dump_declared.proofs.Ends.{var-end-is}

-- a number below suc k is k or less
pub one_less : (P : Type 0) (m k : ℕ) → (m ≡ k → P) → (m < k → P) → m < suc k → P
one_less P m k f g l = go (eqb m k) refl
  where
    go : (t : Bool) → eqb m k ≡ t → P
    go true e = f (eqb-true m k e)
    go false e = g (omega (arith, eqb-false m k e))

module _ (table : List Pair) (room : ℕ) (h : Head) (store : List ℕ) (b : ℕ) (w : List ℕ) (t : Text) (n : Number) (s : Scan) (sound : Sound h store) (kept : Kept h b w t n s) where
  abbrev Done : Type 0
  Done = Says (C.declaration_head h t n s store) (C.declaration_store h t s store) (step table room (state_of h store) (b ∷ w))

  -- in `$var` there is room for one more code
  more : 7 ≤ h.place → h.place ≤ 12 → h.codes < 1024
  more f g = omega (arith, sound.inside f g)

  -- tests of the place
  module _ {p : ℕ} (e : h.place ≡ p) where
    is : (k : ℕ) → eqb h.place k ≡ eqb p k
    is k = ap (λ (m : ℕ). eqb m k) e

    below : (k : ℕ) → ltb h.place k ≡ ltb p k
    below k = ap (λ (m : ℕ). ltb m k) e

  at-0 : h.place ≡ 0 → Done
  unfolding C.declaration_head C.declaration_store C.in_command step
  at-0 e = simp (kept.text_equals (λ f. omega arith), below e, is e) (command-is h store (b ∷ w) kept.bytes)

  at_1 : h.place ≡ 1 → Done
  unfolding C.declaration_head C.declaration_store C.in_command step
  at_1 e = simp (kept.text_equals (λ f. omega arith), below e, is e) (comment-is h store (b ∷ w) kept.bytes)

  at-2 : h.place ≡ 2 → Done
  unfolding C.declaration_head C.declaration_store C.in_command step
  at-2 e = simp (kept.text_equals (λ f. omega arith), below e, is e) (scale-is h store (b ∷ w) kept.bytes)

  at-3 : h.place ≡ 3 → Done
  unfolding C.declaration_head C.declaration_store C.in_command step
  at-3 e = simp (kept.text_equals (λ f. omega arith), below e, is e) (unit-is h store (b ∷ w) kept.bytes)

  at-4 : h.place ≡ 4 → Done
  unfolding C.declaration_head C.declaration_store C.in_command step
  at-4 e = simp (kept.text_equals (λ f. omega arith), below e, is e) (command-end-is h store (b ∷ w) kept.bytes)

  at_5 : h.place ≡ 5 → Done
  unfolding C.declaration_head C.declaration_store C.in_command step
  at_5 e = simp (kept.text_equals (λ f. omega arith), below e, is e) (scope-type-is h store (b ∷ w) kept.bytes)

  at-6 : h.place ≡ 6 → Done
  unfolding C.declaration_head C.declaration_store C.in_command step
  at-6 e = simp (kept.text_equals (λ f. omega arith), below e, is e) (scope-name-is h store (b ∷ w) kept.bytes)

  at_7 : h.place ≡ 7 → Done
  unfolding C.declaration_head C.declaration_store C.in_var C.ends_var step
  at_7 e = simp (kept.text_equals (λ f. omega arith), below e, is e) (var-type-is h store (b ∷ w) kept.bytes)

  at_8 : h.place ≡ 8 → Done
  unfolding C.declaration_head C.declaration_store C.in_var C.ends_var step
  at_8 e = simp (kept.number_is e, below e, is e) (width_is h store b w)

  at_9 : h.place ≡ 9 → Done
  unfolding C.declaration_head C.declaration_store C.in_var C.ends_var step
  at_9 e = simp (kept.text_equals (λ f. omega arith), below e, is e) (code_is h store sound (b ∷ w) kept.bytes)

  at-10 : h.place ≡ 10 → Done
  unfolding C.declaration_head C.declaration_store C.in_var C.ends_var step
  at-10 e = simp (kept.text_equals (λ f. omega arith), kept.name_is e, below e, is e) (name_is h store b w kept.bytes)

  -- a range, or else the end
  at-11 : h.place ≡ 11 → Done
  unfolding C.declaration_head C.declaration_store C.in_var C.ends_var step
  at-11 e = simp (kept.text_equals (λ f. omega arith), kept.range_is e, below e, is e) (go (ltb (scan_of (first_of_range b) w).phase 3) refl)
    where
      go : (y : Bool) → ltb (scan_of (first_of_range b) w).phase 3 ≡ y → Says (cond y (C.end_head h (text_of no_text (b ∷ w)) store) (C.on_range_word h (scan_of (first_of_range b) w))) (cond y (C.end_store h (text_of no_text (b ∷ w)) store) store) (D.on_range (state_of h store) (b ∷ w))
      go true f = rw (range_none h store b w (ltb-true _ 3 f)) (var-end-is h store sound (more (omega arith) (omega arith)) (b ∷ w) kept.bytes)
      go false f = range_is h store b w (ltb-false _ 3 f)

  at-12 : h.place ≡ 12 → Done
  unfolding C.declaration_head C.declaration_store C.in_var C.ends_var step
  at-12 e = simp (kept.text_equals (λ f. omega arith), below e, is e) (var-end-is h store sound (more (omega arith) (omega arith)) (b ∷ w) kept.bytes)

  by_place : h.place < 13 → Done
  by_place =
      or-less 12 at-12
      (or-less 11 at-11
      (or-less 10 at-10
      (or-less 9 at_9
      (or-less 8 at_8
      (or-less 7 at_7
      (or-less 6 at-6
      (or-less 5 at_5
      (or-less 4 at-4
      (or-less 3 at-3
      (or-less 2 at-2
      (or-less 1 at_1
      (or-less 0 at-0
      (λ f. absurd (omega arith))))))))))))))
    where
      or-less : (k : ℕ) → (h.place ≡ k → Done) → (h.place < k → Done) → h.place < suc k → Done
      or-less = one_less Done h.place

pub declared-step : (table : List Pair) (room : ℕ) (h : Head) (store : List ℕ) (b : ℕ) (w : List ℕ) (t : Text) (n : Number) (s : Scan)
    → Sound h store → Kept h b w t n s → h.place < 13 → state_of (C.declaration_head h t n s store) (C.declaration_store h t s store) ≡ step table room (state_of h store) (b ∷ w)
declared-step table room h store b w t n s sound kept k = (by_place table room h store b w t n s sound kept k).same
