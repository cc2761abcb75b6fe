-- The loops that run a stretch of a fatal checker by the steps of the same checker made to go on, up to its first failure. Assumes nothing.
use Prim.Native.Nat.{ℕ, suc, ◌+◌, ◌<◌}
use mathlib.Core.Path.{◌≡◌, refl, subst, subst⁻¹}
use mathlib.Core.Bool.{true, false, cond}
use mathlib.Core.List.{List}
use lib.Dec.{T}
use lib.ListN.{get_or, set}
use Rattle.bits.proofs.Tests.{of-true, of-false}
use Rattle.rules.specs.declared.config.Config.{Config}
use Rattle.rules.specs.Config.{Good, fatally}
use Rattle.rules.specs.Rules.{failing, stopped_word}
use Rattle.rules.specs.Step.{Steps}
use Rattle.rules.specs.Possible.{possible}
use Rattle.rules.proofs.Severity.{going-good, open-possible, steps-fatal}
use Rattle.rules.proofs.Reached.{step-open}
use Rattle.trace.specs.declared.stretch.Stretch.{Stretch}
use Rattle.trace.specs.Traces.{frame_at}
use Rattle.trace.specs.Stretches.{kept_from, Runnable, Running}
use Rattle.trace.proofs.Running.{reached, running_more}

module _
    {c : Config} (on : c.severity ≡ 0) {trace rows₀ words₀ : List ℕ} {s : Stretch} (r : Runnable (fatally c) trace rows₀ words₀ s) {rows words : List ℕ}
    {k word kept : ℕ} (run : Running (fatally c) trace rows₀ words₀ s rows words (reached k word kept)) (other : word ≡ stopped_word → ⊥) where
  -- the step may be taken
  pub watch-ready : Good c × T (possible c word)
  watch-ready = (going-good c on r.good, open-possible c on word other run.possible_word)

  module _ (here : k < s.to) (differs : s.stops ≡ true → word ≡ kept → ⊥) {row next : ℕ} (step : Steps c word (frame_at trace (s.from + k)) row next) where
    stepped : (next' : ℕ) → next' ≡ cond (failing row) stopped_word next
        → Running (fatally c) trace rows₀ words₀ s (set rows k row) (set words k next') (reached (suc k) next' (get_or words k 0))
    stepped next' e =
        running_more r run here differs
        (subst⁻¹ (Steps (fatally c) word (frame_at trace (s.from + k)) row) e (steps-fatal c on word other (frame_at trace (s.from + k)) row next step))

    -- a row with mark 1 or 2
    pub watch-fails : failing row ≡ true
        → Running (fatally c) trace rows₀ words₀ s (set rows k row) (set words k stopped_word) (reached (suc k) stopped_word (get_or words k 0))
    watch-fails e = stepped stopped_word (rw e refl)

    -- another one, which leaves a word of a checker that goes on
    pub watch-goes-on : failing row ≡ false
        → (Running (fatally c) trace rows₀ words₀ s (set rows k row) (set words k next) (reached (suc k) next (get_or words k 0))) × (next ≡ stopped_word → ⊥)
    watch-goes-on e = (
      stepped next (rw e refl),
      step-open c on watch-ready.0 word watch-ready.1 (frame_at trace (s.from + k)) row next step,
    )

-- where the kept word is not looked at on the way
module _
    {c : Config} (on : c.severity ≡ 0) {trace rows₀ words₀ : List ℕ} {s : Stretch} (r : Runnable (fatally c) trace rows₀ words₀ s) (off : s.stops ≡ false)
    {rows words : List ℕ} {k word : ℕ} (run : Running (fatally c) trace rows₀ words₀ s rows words (reached k word (kept_from words₀ s.at s.kept k)))
    (other : word ≡ stopped_word → ⊥) (here : k < s.to) {row next : ℕ} (step : Steps c word (frame_at trace (s.from + k)) row next) where
  never : s.stops ≡ true → word ≡ kept_from words₀ s.at s.kept k → ⊥
  never on' _ = of-false off (of-true on')

  pub fill_fails : failing row ≡ true
      → Running (fatally c) trace rows₀ words₀ s (set rows k row) (set words k stopped_word) (reached (suc k) stopped_word (get_or words k 0))
  fill_fails e = watch-fails on r run other here never step e

  pub fill-goes-on : failing row ≡ false
      → (Running (fatally c) trace rows₀ words₀ s (set rows k row) (set words k next) (reached (suc k) next (kept_from words₀ s.at s.kept (suc k))))
      × (next ≡ stopped_word → ⊥)
  fill-goes-on e =
      let more = watch-goes-on on r run other here never step e in
      (subst (λ (x : ℕ). Running (fatally c) trace rows₀ words₀ s (set rows k row) (set words k next) (reached (suc k) next x)) more.0.kept_is more.0, more.1)
