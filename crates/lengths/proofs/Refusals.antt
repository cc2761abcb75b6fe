-- The refusal of a full check and of a recheck, from the tests of the code, which go by the lengths. Assumes nothing.
use Prim.Native.Nat.{ℕ, ◌/◌, ◌%◌, ◌≤◌}
use mathlib.Core.Path.{◌≡◌, refl}
use mathlib.Core.Bool.{Bool, true, false, ◌&&◌, cond}
use mathlib.Core.List.{List}
use native.Mathlib.Omega.{arith}
use borrow.Author.Tests.{eqb-true, eqb-false}
use lib.Dec.{T, eqb, leb, leb→le}
use lib.ListN.{length}
use Rattle.bits.proofs.Tests.{of-true, and_right}
use Rattle.rules.specs.declared.config.Config.{Config}
use Rattle.rules.specs.Config.{config_refusal, Good}
use Rattle.rules.specs.Frame.{frame_words}
use Rattle.trace.specs.Traces.{frames, trace_fits}
use Rattle.lengths.specs.Lengths.{record_fits, check_refusal}

pub check-refusal : (c : Config) (ts rs ws : List ℕ) (trace rows words cycles : ℕ) → length ts ≡ trace → length rs ≡ rows → length ws ≡ words
    → cycles ≡ trace / frame_words → (a b d : Bool) → eqb (config_refusal c) 0 ≡ a → (eqb (trace % frame_words) 0 && leb cycles 65536) ≡ b
    → (eqb rows cycles && eqb words cycles) ≡ d → check_refusal c ts rs ws ≡ cond a (cond b (cond d 0 5) 4) (config_refusal c)
unfolding check_refusal trace_fits record_fits frames
check-refusal c ts rs ws trace rows words cycles p q r k a b d e f g = rw (p, q, r, ← k, e, f, g)

-- what a check that is not refused may go by
pub record Accepted (c : Config) (trace rows words : List ℕ) : Type 0 where
  pub good : Good c
  pub fits : T (trace_fits trace)
  pub rows_length : length rows ≡ frames trace
  pub words_length : length words ≡ frames trace

-- the tests behind a refusal number of 0
pub check-accepted : (c : Config) (trace rows words : List ℕ) → check_refusal c trace rows words ≡ 0 → Accepted c trace rows words
unfolding check_refusal record_fits
check-accepted c trace rows words h =
    by (eqb (config_refusal c) 0) (trace_fits trace) (eqb (length rows) (frames trace)) (eqb (length words) (frames trace)) refl refl refl refl h
  where
    by : (a b d e : Bool) → eqb (config_refusal c) 0 ≡ a → trace_fits trace ≡ b → eqb (length rows) (frames trace) ≡ d → eqb (length words) (frames trace) ≡ e
        → cond a (cond b (cond (d && e) 0 5) 4) (config_refusal c) ≡ 0 → Accepted c trace rows words
    by true true true true p q r s z = record {
      good = eqb-true (config_refusal c) 0 p;
      fits = of-true q;
      rows_length = eqb-true (length rows) (frames trace) r;
      words_length = eqb-true (length words) (frames trace) s;
    }
    by true true true false p q r s z = absurd (omega arith)
    by true true false e p q r s z = absurd (omega arith)
    by true false d e p q r s z = absurd (omega arith)
    by false b d e p q r s z = absurd (eqb-false (config_refusal c) 0 p z)

-- a trace that is accepted has at most 65,536 cycles
pub accepted-short : {c : Config} {trace rows words : List ℕ} → Accepted c trace rows words → frames trace ≤ 65536
unfolding trace_fits
accepted-short {trace = trace} ok = leb→le (frames trace) 65536 (and_right (eqb (length trace % frame_words) 0) (leb (frames trace) 65536) ok.fits)
