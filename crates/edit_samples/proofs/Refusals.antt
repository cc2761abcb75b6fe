-- The refusals of an edit from the tests of the code, and what an edit that is not refused may go by. Assumes nothing.
use Prim.Native.Nat.{ℕ, ◌-◌, ◌*◌, ◌/◌, ◌%◌, ◌≤◌}
use mathlib.Core.Path.{◌≡◌, refl, sym, ap, ◌∙◌}
use mathlib.Core.Bool.{Bool, true, false, ◌&&◌, cond}
use mathlib.Core.List.{List}
use mathlib.Core.Logic.{⊎_elim}
use native.Mathlib.Omega.{arith}
use borrow.Author.Tests.{eq-eqb, ne_eqb, eqb-true, eqb-false}
use lib.Dec.{eqb, leb, leb→le}
use lib.ListN.{length}
use Rattle.bits.proofs.Tests.{either, of-true, and_left, and_right}
use Rattle.rules.specs.declared.config.Config.{Config}
use Rattle.rules.specs.Frame.{frame_words}
use Rattle.trace.specs.Traces.{frames}
use Rattle.lengths.specs.Lengths.{check_refusal}
use Rattle.lengths.proofs.Refusals.{Accepted, check-accepted}
use Rattle.edit_samples.specs.Samples.{edit_refusal}

-- a number of words is that of k frames exactly where it is a multiple of a frame's, and k of these
pub multiple : (w k : ℕ) → (eqb (w % frame_words) 0 && eqb (w / frame_words) k) ≡ eqb w (frame_words * k)
multiple w k = by (eqb (w % frame_words) 0) (eqb (w / frame_words) k) refl refl
  where
    by : (u v : Bool) → eqb (w % frame_words) 0 ≡ u → eqb (w / frame_words) k ≡ v → (u && v) ≡ eqb w (frame_words * k)
    by true true p q = sym (eq-eqb w (frame_words * k) (omega (arith, eqb-true (w % frame_words) 0 p, eqb-true (w / frame_words) k q)))
    by true false p q = sym (ne_eqb w (frame_words * k) (λ e. eqb-false (w / frame_words) k q (omega arith)))
    by false v p q = sym (ne_eqb w (frame_words * k) (λ e. eqb-false (w % frame_words) 0 p (omega arith)))

-- what an edit that is not refused may go by
pub record Editable (c : Config) (trace rows words : List ℕ) (a b : ℕ) (samples : List ℕ) : Type 0 where
  pub accepted : edit_refusal c trace rows words a b samples ≡ 0
  pub lengths : Accepted c trace rows words
  pub samples-length : length samples ≡ frame_words * (b - a)
  pub low : a ≤ b
  pub high : b ≤ frames trace

module _ (c : Config) (trace rows words : List ℕ) (a b : ℕ) (samples : List ℕ) where
  abbrev check : ℕ
  check = check_refusal c trace rows words

  -- refused as the full check is
  pub refused-first : (check ≡ 0 → ⊥) → edit_refusal c trace rows words a b samples ≡ check
  unfolding edit_refusal
  refused-first h = rw (ne_eqb check 0 h)

  module _ (z : check ≡ 0) where
    -- otherwise the samples decide, and then the range
    pub rest-decides : (u v : Bool) → eqb (length samples) (frame_words * (b - a)) ≡ u → (leb a b && leb b (length rows)) ≡ v
        → edit_refusal c trace rows words a b samples ≡ cond u (cond v 0 6) 5
    unfolding edit_refusal
    rest-decides u v p q =
        let rows_are = (check-accepted c trace rows words z).rows_length in
        rw (eq-eqb check 0 z, p, ap (λ (n : ℕ). leb a b && leb b n) (sym rows_are) ∙ q)

  -- the tests behind a refusal number of 0
  pub editable : edit_refusal c trace rows words a b samples ≡ 0 → Editable c trace rows words a b samples
  editable z = ⊎_elim (λ p. from (eqb-true check 0 p)) (λ p. let h = eqb-false check 0 p in absurd (h (sym (refused-first h) ∙ z))) (either (eqb check 0))
    where
      from : check ≡ 0 → Editable c trace rows words a b samples
      from zero = by (eqb (length samples) (frame_words * (b - a))) (leb a b && leb b (length rows)) refl refl _ (rest-decides zero _ _ refl refl) z
        where
          ok : Accepted c trace rows words
          ok = check-accepted c trace rows words zero

          by : (u v : Bool) → eqb (length samples) (frame_words * (b - a)) ≡ u → (leb a b && leb b (length rows)) ≡ v → (n : ℕ) → n ≡ cond u (cond v 0 6) 5
              → n ≡ 0 → Editable c trace rows words a b samples
          by true true p q n e h = record {
            accepted = z;
            lengths = ok;
            samples-length = eqb-true (length samples) (frame_words * (b - a)) p;
            low = leb→le a b (and_left (leb a b) (leb b (length rows)) (of-true q));
            high = omega (arith, leb→le b (length rows) (and_right (leb a b) (leb b (length rows)) (of-true q)), ok.rows_length);
          }
          by true false p q n e h = absurd (omega arith)
          by false v p q n e h = absurd (omega arith)
