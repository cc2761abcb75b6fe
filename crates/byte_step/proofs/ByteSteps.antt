-- The answers of one step on bytes, from the answer of one step by value. Assumes nothing.
use Prim.Native.Nat.{ℕ, ◌*◌}
use mathlib.Core.Path.{◌≡◌, sym, ap, ◌∙◌}
use mathlib.Core.Bool.{true, false, cond}
use mathlib.Core.List.{List}
use native.Mathlib.Nat.{zero-add}
use native.Mathlib.Omega.{arith}
use borrow.Author.Tests.{eq-eqb, ne_eqb}
use lib.Dec.{eqb}
use lib.ListN.{length}
use Rattle.std.specs.Prelude.{Result, IsErrAnd}
use Rattle.std.proofs.lemmas.Result.{err_from_is_err_and}
use Rattle.rules.specs.declared.config.Config.{Config}
use Rattle.rules.specs.declared.frame.Frame.{Frame}
use Rattle.checker.specs.declared.monitor.Monitor.{Monitor}
use Rattle.rules.specs.declared.refusal.Refusal.{Refusal}
use Rattle.rules.specs.Config.{config_refusal, Good}
use Rattle.rules.specs.Refusals.{number_of}
use Rattle.rules.specs.Step.{step_row, step_word}
use Rattle.rules.specs.Possible.{possible, word_refusal}
use Rattle.checker.specs.Calls.{StepAnswer}
use Rattle.word_bytes.specs.Bytes.{word_of, bytes_of}
use Rattle.byte_step.specs.Step.{step_refusal, answer_of, ByteStep}

-- what holds of 256 times the refusal's number holds of the answer that `?` passes up
pub passed-up : (r : Result ℕ Refusal) (e : Refusal) → IsErrAnd r (λ y. y ≡ e) → (P : ℕ → Type 0) → P (256 * number_of e) → P (answer_of r)
passed-up r e h P p = let q = err_from_is_err_and r h in rw (q.1, q.2) p

-- with eight bytes the refusal is that of the step by value
by_word : {c : Config} {f : Frame} {w r row : ℕ} {m : Monitor} (bytes : List ℕ) → Good c → length bytes ≡ 8 → w ≡ word_of bytes → StepAnswer c w f r row m
    → step_refusal c bytes ≡ r
unfolding step_refusal word_refusal
by_word {c = c} bytes good eight loaded s =
    simp (eq-eqb (config_refusal c) 0 good, eq-eqb (length bytes) 8 eight)
    (ap (λ (x : ℕ). cond (possible c x) 0 7) (sym loaded) ∙ sym (simp (eq-eqb (config_refusal c) 0 good) at s.refusal_is))

module _ {c : Config} {f : Frame} {bytes : List ℕ} where
  -- refused: the number times 256, and the bytes as they were
  refused : {r : ℕ} → step_refusal c bytes ≡ r → (r ≡ 0 → ⊥) → ByteStep c f bytes bytes (256 * r)
  refused e h =
      let n : eqb (step_refusal c bytes) 0 ≡ false = ne_eqb (step_refusal c bytes) 0 (λ z. h (sym e ∙ z)) in
      record { answer_is = simp n (omega arith); bytes_are = simp n }

  pub config-refused : {r : ℕ} → r ≡ config_refusal c → (r ≡ 0 → ⊥) → ByteStep c f bytes bytes (256 * r)
  unfolding step_refusal
  config-refused e h = refused (simp (ne_eqb (config_refusal c) 0 (λ z. h (e ∙ z))) (sym e)) h

  pub length-refused : Good c → (length bytes ≡ 8 → ⊥) → ByteStep c f bytes bytes 1280
  unfolding step_refusal
  length-refused good h = refused {r = 5} (simp (eq-eqb (config_refusal c) 0 good, ne_eqb (length bytes) 8 h)) (λ z. omega arith)

  module _ {w r row : ℕ} {m : Monitor} (good : Good c) (eight : length bytes ≡ 8) (loaded : w ≡ word_of bytes) (s : StepAnswer c w f r row m) where
    pub word-refused : (r ≡ 0 → ⊥) → ByteStep c f bytes bytes (256 * r)
    word-refused h = refused (by_word bytes good eight loaded s) h

    pub taken : r ≡ 0 → {after : List ℕ} → after ≡ bytes_of 8 m.word → ByteStep c f bytes after row
    taken z stored =
        let n : step_refusal c bytes ≡ 0 = by_word bytes good eight loaded s ∙ z in
        let k : eqb (word_refusal c w) 0 ≡ true = eq-eqb (word_refusal c w) 0 (sym s.refusal_is ∙ z) in
        let row_is : row ≡ step_row c w f = simp k at s.row_is in
        let word_is : m.word ≡ step_word c w f = simp k at s.word_is in
        record {
          answer_is = simp n (row_is ∙ ap (λ (x : ℕ). step_row c x f) loaded ∙ sym (zero-add (step_row c (word_of bytes) f)));
          bytes_are = simp n (stored ∙ ap (bytes_of 8) (word_is ∙ ap (λ (x : ℕ). step_word c x f) loaded));
        }
