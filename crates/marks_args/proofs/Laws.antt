-- Laws of a word that is read byte by byte, and of wires put into the table one by one. Assumes nothing.
use mathlib.Core.Path.{◌≡◌, refl}
use mathlib.Core.List.{List}
use Prim.Native.Nat.{ℕ, suc, ◌+◌, ◌-◌, ◌<◌, ◌≤◌}
use native.Mathlib.Omega.{arith}
use native.Mathlib.Numerals.{add-one}
use lib.ListN.{length, get_or, take}
use lib.Seq.{take-suc}
use Rattle.dump_words.specs.declared.text.Text.{Text}
use Rattle.dump_words.specs.declared.number.Number.{Number}
use Rattle.dump_words.specs.Gather.{no_text, no_number, text_add, number_add}
use Rattle.dump_gathered.specs.Gathered.{text_of, number_of}
use Rattle.dump_gathered.proofs.Folds.{text-snoc, number-snoc}
use Rattle.marks_args.specs.Wires.{with_wire, with_wires}

module _ (w : List ℕ) where
  pub text-none : no_text ≡ text_of no_text (take 0 w)
  unfolding text_of
  text-none = refl

  pub text-more : (i : ℕ) (t u : Text) → t ≡ text_of no_text (take i w) → i < length w → u ≡ text_add t (get_or w i 0) → u ≡ text_of no_text (take (i + 1) w)
  text-more i t u p h q = rw (add-one, take-suc w i 0 h, text-snoc, ← p) q

  pub number-none : no_number ≡ number_of no_number (take 0 w)
  unfolding number_of
  number-none = refl

  pub number_more : (i : ℕ) (n m : Number) → n ≡ number_of no_number (take i w) → i < length w → m ≡ number_add n (get_or w i 0) → m ≡ number_of no_number (take (i + 1) w)
  number_more i n m p h q = rw (add-one, take-suc w i 0 h, number-snoc, ← p) q

module _ (first code low count k : ℕ) where
  pub wires-more : (ws us : List ℕ) → k < count → us ≡ with_wire ws (first + k) code (low + k)
      → with_wires ws (first + k) code (low + k) (count - k) ≡ with_wires us (first + (k + 1)) code (low + (k + 1)) (count - (k + 1))
  unfolding with_wires
  wires-more ws us h e =
      let left : count - k ≡ suc (count - (k + 1)) = omega arith in
      let entry : first + (k + 1) ≡ first + k + 1 = omega arith in
      let index : low + (k + 1) ≡ low + k + 1 = omega arith in
      rw (left, entry, index, e) refl

  pub wires-end : (ws : List ℕ) → count ≤ k → with_wires ws (first + k) code (low + k) (count - k) ≡ ws
  unfolding with_wires
  wires-end ws h = let none : count - k ≡ 0 = omega arith in rw none refl
