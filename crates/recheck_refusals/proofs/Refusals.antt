-- The refusal of a recheck from the tests of the code, and what one that is not refused may go by. Assumes nothing.
use Prim.Native.Nat.{ℕ, ◌≤◌, ◌<◌, zero-le}
use mathlib.Core.Path.{◌≡◌, refl, sym, ap, ◌∙◌}
use mathlib.Core.Bool.{Bool, true, false, ◌&&◌, cond}
use mathlib.Core.List.{List}
use mathlib.Core.Logic.{⊎_elim}
use native.Mathlib.Omega.{arith}
use borrow.Author.Tests.{eq-eqb, eqb-true, eqb-false}
use lib.Dec.{T, eqb, leb, leb→le, lit≤}
use lib.ListN.{length, get_or}
use Rattle.bits.proofs.Tests.{is_true, is_false, of-true, of-false, either, and_left, and_right, every-elim, every-intro}
use Rattle.rules.specs.declared.config.Config.{Config}
use Rattle.rules.specs.Config.{config_refusal}
use Rattle.rules.specs.Possible.{possible}
use Rattle.rules.proofs.Good.{refusal-low}
use Rattle.trace.specs.Traces.{frames, trace_fits}
use Rattle.lengths.specs.Lengths.{record_fits, check_refusal}
use Rattle.lengths.proofs.Refusals.{Accepted, check-accepted}
use Rattle.kept_words.specs.Spoiled.{all_possible, FirstImpossible}
use Rattle.recheck_refusals.specs.Refusals.{recheck_refusal, Named, Refused}

module _ (c : Config) (trace rows words : List ℕ) (a b : ℕ) where
  -- refused as the full check is
  refused-as-check : (r : ℕ) → r ≡ check_refusal c trace rows words → (r ≡ 0 → ⊥) → r ≡ recheck_refusal c trace rows words a b
  unfolding check_refusal recheck_refusal
  refused-as-check r e h = by (eqb (config_refusal c) 0) (trace_fits trace) (record_fits trace rows words) _ e
    where
      by : (p q s : Bool) (x : ℕ) → r ≡ cond p (cond q (cond s 0 5) 4) (config_refusal c) → r ≡ cond p (cond q (cond s x 5) 4) (config_refusal c)
      by true true true x e = absurd (h e)
      by true true false x e = e
      by true false s x e = e
      by false q s x e = e

  pub check-low : check_refusal c trace rows words ≤ 6
  unfolding check_refusal
  check-low = by (eqb (config_refusal c) 0) (trace_fits trace) (record_fits trace rows words)
    where
      by : (p q s : Bool) → cond p (cond q (cond s 0 5) 4) (config_refusal c) ≤ 6
      by true true true = lit≤ tt
      by true true false = lit≤ tt
      by true false s = lit≤ tt
      by false q s = omega (arith, refusal-low c)

  -- a refusal other than 7 names no cycle
  named_none : (r : ℕ) → r ≤ 6 → Named c words r 0
  named_none r low = record { spoiled = λ n. absurd (omega arith); otherwise = λ _. refl }

  pub refused-first : (r : ℕ) → r ≡ check_refusal c trace rows words → (r ≡ 0 → ⊥) → Refused c trace rows words a b r 0
  refused-first r is h = record { refusal_is = refused-as-check r is h; named = named_none r (omega (arith, check-low)) }

  module _ (z : check_refusal c trace rows words ≡ 0) where
    ok : Accepted c trace rows words
    ok = check-accepted c trace rows words z

    -- otherwise the range decides, and then the words
    range-decides : (u v : Bool) → (leb a b && leb b (length rows)) ≡ u → all_possible c words ≡ v → recheck_refusal c trace rows words a b ≡ cond u (cond v 0 7) 6
    unfolding recheck_refusal record_fits
    range-decides u v f g =
        rw (
          eq-eqb (config_refusal c) 0 ok.good,
          is_true (trace_fits trace) ok.fits,
          eq-eqb (length rows) (frames trace) ok.rows_length,
          eq-eqb (length words) (frames trace) ok.words_length,
          ap (λ (n : ℕ). leb a b && leb b n) (sym ok.rows_length) ∙ f,
          g,
        )

    pub refused-range : (leb a b && leb b (length rows)) ≡ false → Refused c trace rows words a b 6 0
    refused-range f = record { refusal_is = sym (range-decides false _ f refl); named = named_none 6 (lit≤ tt) }

    -- the search of the words for an impossible one decides
    module _ (range : (leb a b && leb b (length rows)) ≡ true) (t : ℕ) (first : FirstImpossible c words 0 (length words) t) where
      pub refused-word : t < length words → Refused c trace rows words a b 7 t
      unfolding all_possible
      refused-word h =
          let spoiled = is_false (all_possible c words) (λ all. of-false (first.impossible h) (every-elim (length words) (λ s. possible c (get_or words s 0)) all t h)) in
          record {
            refusal_is = sym (range-decides true false range spoiled);
            named =
                record {
                  spoiled = λ _. record { in_record = h; impossible = first.impossible h; lower_possible = λ s l. first.lower_possible s zero-le l };
                  otherwise = λ n. absurd (n refl);
                };
          }

      pub not_refused : length words ≤ t → Refused c trace rows words a b 0 0
      unfolding all_possible
      not_refused h =
          let whole = every-intro (length words) (λ s. possible c (get_or words s 0)) (λ s l. first.lower_possible s zero-le (omega arith)) in
          record { refusal_is = sym (range-decides true true range (is_true (all_possible c words) whole)); named = named_none 0 zero-le }

  -- what is not refused with 1 to 6 is a record of the lengths that are due: a refusal of the full check would be the recheck's
  module _ (r : ℕ) (is : r ≡ recheck_refusal c trace rows words a b) (late : r ≤ 6 → r ≡ 0) where
    earlier : (check_refusal c trace rows words ≡ 0 → ⊥) → ⊥
    earlier h =
        let same = refused-as-check (check_refusal c trace rows words) refl h in h (same ∙ sym is ∙ late (omega (arith, is, same, check-low)))

    tested : check_refusal c trace rows words ≡ 0
    tested =
        let n = check_refusal c trace rows words in ⊎_elim (eqb-true n 0) (λ e. absurd (earlier (eqb-false n 0 e))) (either (eqb n 0))

    pub lengths-due : Accepted c trace rows words
    lengths-due = check-accepted c trace rows words tested

-- what a recheck that is not refused may go by
pub record Taken (c : Config) (trace rows words : List ℕ) (a b : ℕ) : Type 0 where
  pub lengths : Accepted c trace rows words
  pub low : a ≤ b
  pub high : b ≤ frames trace
  pub all-possible : T (all_possible c words)

pub taken : (c : Config) (trace rows words : List ℕ) (a b : ℕ) → recheck_refusal c trace rows words a b ≡ 0 → Taken c trace rows words a b
taken c trace rows words a b z =
    by (leb a b && leb b (length rows)) (all_possible c words) refl refl _
    (range-decides c trace rows words a b (tested c trace rows words a b 0 (sym z) (λ _. refl)) _ _ refl refl) z
  where
    fits : Accepted c trace rows words
    fits = lengths-due c trace rows words a b 0 (sym z) (λ _. refl)

    by : (u v : Bool) → (leb a b && leb b (length rows)) ≡ u → all_possible c words ≡ v → (n : ℕ) → n ≡ cond u (cond v 0 7) 6 → n ≡ 0 → Taken c trace rows words a b
    by true true e f n g h = record {
      lengths = fits;
      low = leb→le a b (and_left (leb a b) (leb b (length rows)) (of-true e));
      high = omega (arith, leb→le b (length rows) (and_right (leb a b) (leb b (length rows)) (of-true e)), fits.rows_length);
      all-possible = of-true f;
    }
    by true false e f n g h = absurd (omega arith)
    by false v e f n g h = absurd (omega arith)
