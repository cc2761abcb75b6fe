-- What the code of kinds 3 to 5 computes, as the step's definition has it. Assumes nothing.
use Prim.Native.Nat.{ℕ, ◌-◌}
use mathlib.Core.Path.{◌≡◌, refl, sym, ◌∙◌}
use mathlib.Core.Bool.{Bool, true, false, not, ◌&&◌, ◌||◌, cond, and-true, and-false}
use native.Mathlib.Omega.{arith}
use lib.Dec.{eqb, ltb}
use borrow.Author.Tests.{lt-ltb, eqb-true}
use Rattle.bits.proofs.Tests.{of-true}
use Rattle.rules.specs.declared.config.Config.{Config}
use Rattle.rules.specs.declared.frame.Frame.{Frame}
use Rattle.rules.specs.Config.Family.{time}
use Rattle.bus.specs.Range.{width}
use Rattle.bus.proofs.Wires.{one-wire}
use Rattle.rules.specs.Frame.{unknown, P, Q, unknown_q}
use Rattle.rules.specs.Time.{test_missed, test_unknown}
use Rattle.rules.specs.Rules.{Marks, row_of}
use Rattle.rules.specs.Step.{start, pends, restart, left, step_marks_of, step_open_of, StepsTo}

-- from the kind, n, the word, and whether P is 1 (s), and Q is known to be 0 (m) or unknown (u)

abbrev time_marks : ℕ → ℕ → Bool → Bool → Bool → Marks
time_marks kind w s m u = record {
  failure = ltb 0 w && m && not (eqb kind 4 && s && ltb 0 w);
  illegal = eqb kind 5 && s && ltb 0 w;
  opened = (s && not (ltb 0 w)) || (eqb kind 4 && s && ltb 0 w);
  closed = eqb w 1 && not (eqb kind 4 && s && ltb 0 w);
  restarted = eqb kind 4 && s && ltb 0 w;
  unknown = ltb 0 w && u && not (eqb kind 4 && s && ltb 0 w);
}

pub record TimeStep (kind n w : ℕ) (s m u : Bool) (row next : ℕ) : Type 0 where
  pub row_is : row ≡ row_of (time_marks kind w s m u)
  pub word_is : next ≡ cond (s && (not (ltb 0 w) || eqb kind 4)) n (w - 1)

module _ (kind n w : ℕ) (m u : Bool) where
  -- nothing is pending: a start opens a window
  pub time-opens : (s : Bool) → w ≡ 0 → TimeStep kind n w s m u (cond s 4 0) (cond s n 0)
  unfolding row_of
  time-opens true e = record { row_is = simp (e, and-false); word_is = simp e }
  time-opens false e = record { row_is = simp (e, and-false); word_is = simp e }

  module _ (pending : w ≡ 0 → ⊥) where
    some_left : ltb 0 w ≡ true
    some_left = lt-ltb 0 w (omega arith)

    -- a start begins the window of kind 4 again, which opens one, and then nothing is tested
    pub time-restarts : (s : Bool) → (s && eqb kind 4) ≡ true → TimeStep kind n w s m u 20 n
    unfolding row_of
    time-restarts true e = record { row_is = simp (eqb-true kind 4 e, some_left, and-false); word_is = simp (e, some_left) }
    time-restarts false e = absurd (of-true e)

    -- else the check is tested, and one cycle fewer is left
    pub time-tests : (s : Bool) (row : ℕ) → (s && eqb kind 4) ≡ false
        → row ≡ row_of (record { failure = m; illegal = s && eqb kind 5; opened = false; closed = eqb w 1; restarted = false; unknown = u })
        → TimeStep kind n w s m u row (w - 1)
    time-tests true row e r = record { row_is = r ∙ simp (e, some_left, and-true); word_is = simp (e, some_left) }
    time-tests false row e r = record { row_is = r ∙ simp (some_left, and-true, and-false); word_is = refl }

module _ (c : Config) (w : ℕ) (f : Frame) where
  -- from what the ports' wires say
  pub time-steps : (s : Bool) (row next : ℕ) → s ≡ eqb (P c f) 1 → TimeStep c.kind c.n w s (test_missed c f) (test_unknown c f) row next
      → StepsTo time c w f row next
  unfolding step_marks_of step_open_of left pends start restart
  time-steps s row next p h = record { row_is = h.row_is ∙ rw p; word_is = h.word_is ∙ rw p }

  -- the wire of Q is unknown, or known to be 0
  pub test-unknown : width c.q ≡ 1 → (u : Bool) → u ≡ eqb (unknown_q c f) 1 → u ≡ test_unknown c f
  unfolding test_unknown
  test-unknown v u e = e ∙ sym (one-wire c.q (unknown f 2) v)

  pub test-missed : width c.q ≡ 1 → (t u : Bool) → t ≡ eqb (Q c f) 1 → u ≡ eqb (unknown_q c f) 1 → (not t && not u) ≡ test_missed c f
  unfolding test_missed
  test-missed v t u p q =
      rw (p, q, ← one-wire c.q (unknown f 2) v) (by (eqb (unknown_q c f) 0) (eqb (Q c f) 1))
    where
      by : (k t : Bool) → (not t && not (not k)) ≡ (k && not t)
      by true true = refl
      by true false = refl
      by false true = refl
      by false false = refl
