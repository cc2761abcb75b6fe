-- The starts that fail in a cycle, found from the open word before it: what the code goes by. That these are the starts of the rules is `failed-starts` and
-- `illegal-starts` of `proofs/Found.antt`. Assumes nothing.
use Rattle.std.specs.Prelude.{ℕ, suc, ◌+◌, ◌-◌, ◌<◌, ◌≡◌, Bool, false, not, ◌&&◌, ◌||◌, cond, T, ltb, eqb}
use Rattle.bits.specs.Bits.{bit}
use Rattle.rules.specs.declared.config.Config.{Config}
use Rattle.rules.specs.declared.frame.Frame.{Frame}
use Rattle.rules.specs.Config.{Family, family}
use Rattle.rules.specs.Config.Family.{sequence, time, transition, value, stability, none}
use Rattle.rules.specs.Frame.{up}
use Rattle.rules.specs.Sequence.{event_missed}
use Rattle.rules.specs.Step.{left_in, step_marks_of}

module _ (c : Config) (w : ℕ) (f : Frame) (t : ℕ) where
  -- with so many cycles left to s+max, this one included, a trigger was at s with s + max + 1 = left + t; with none left it is in t itself
  unfoldable pub triggered_at : ℕ → ℕ → Bool
  triggered_at left s = cond (eqb left 0) (eqb s t) (eqb (suc (s + c.n)) (left + t))

  -- Bit j of the open word is the attempt from t−1−j. With w pending cycles left, this one included, a time check is from s with s + n + 1 = w + t.
  -- A transition check is from the cycle before.
  unfoldable pub failed_of : Family → ℕ → Bool
  failed_of sequence s =
      ltb s t && ltb (t - s) c.n && bit w (t - suc s) && event_missed c f (c.n - 1 - (t - s)) && (not (eqb c.kind 0) || eqb (t - s) (c.n - 1))
  failed_of time s = eqb (suc (s + c.n)) (w + t) && (step_marks_of c w f time).failure
  failed_of transition s = eqb (suc s) t && (step_marks_of c w f transition).failure
  failed_of value s = triggered_at w s && (step_marks_of c w f value).failure
  failed_of stability s = triggered_at (left_in w) s && (step_marks_of c w f stability).failure
  failed_of none s = false

  unfoldable pub illegal_of : Family → ℕ → Bool
  illegal_of sequence s = false
  illegal_of time s = eqb (suc (s + c.n)) (w + t) && (step_marks_of c w f time).illegal
  illegal_of transition s = false
  illegal_of value s = false
  illegal_of stability s = false
  illegal_of none s = false

  -- the check from s fails in cycle t, and there is an illegal start while it is pending
  unfoldable pub fails : ℕ → Bool
  fails s = up f && failed_of (family c.kind) s

  unfoldable pub starts_illegally : ℕ → Bool
  starts_illegally s = up f && illegal_of (family c.kind) s

-- a word that can stand before cycle t: its checks have starts from cycle 0 on
pub record Placed (c : Config) (w t : ℕ) : Type 0 where
  pub attempts : family c.kind ≡ sequence → (j : ℕ) → T (bit w j) → j < t
  pub window : family c.kind ≡ time → 0 < w → c.n < w + t
  pub stored : family c.kind ≡ transition → 0 < w → 0 < t
  pub tracked : family c.kind ≡ value → 0 < w → c.n < w + t
  pub compared : family c.kind ≡ stability → 0 < left_in w → c.n < left_in w + t
