-- `stability::step::tracked_cycle` meets its contract. Assumes nothing.
use Prim.Native.Nat.{ℕ}
use mathlib.Core.Path.{◌≡◌, sym, ◌∙◌}
use mathlib.Core.Bool.{Bool, true, false, not, ◌&&◌, ◌||◌}
use mathlib.Core.Logic.{⊎_elim}
use lib.Dec.{eqb}
use Rattle.bits.proofs.Tests.{either, of-true, is_true, and_left, and_right}
use Rattle.rules.specs.declared.config.Config.{Config}
use Rattle.rules.specs.declared.frame.Frame.{Frame}
use Rattle.rules.specs.Config.{GoesOn}
use Rattle.rules.specs.Config.Family.{stability}
use Rattle.rules.specs.Frame.{up, enabled}
use Rattle.rules.specs.Step.{opens, StepsTo, Steps}
use Rattle.rules.proofs.Severity.{goes-possible}
use Rattle.cycle.specs.declared.outcome.Outcome.{Outcome}
use Rattle.cycle.proofs.Outcomes.{steps-in-reset, steps_of}
use Rattle.trigger.proofs.TriggerCode.{seen-opens, idle-seen}
use Rattle.stability.specs.declared.step.Seen.{Seen}
use Rattle.stability.specs.Tracked.{Sees, is_open_at}
use Rattle.stability.proofs.step.tracked_cycle.Goals as goal

-- a window is opened, and so it is out of reset
running : (k : Config) (word : ℕ) (seen : Seen) (f : Frame) → is_open_at word seen ≡ true → Sees k f seen → up f ≡ true
unfolding is_open_at
running k word seen f opened sees = sym sees.up_is ∙ is_true seen.up (and_left seen.up (not (eqb word 0) || seen.trigger) (of-true opened))

steps : (k : Config) (word : ℕ) (seen : Seen) → GoesOn stability k → (f : Frame) (r : Outcome) → is_open_at word seen ≡ true → Sees k f seen
    → (opens k word f ≡ true → seen.enabled ≡ enabled f → StepsTo stability k word f r.row r.word)
    → Steps k word f r.row r.word
unfolding is_open_at
steps k word seen goes f r opened sees to =
    let u = running k word seen f opened sees in
    let some = is_true (not (eqb word 0) || seen.trigger) (and_right seen.up (not (eqb word 0) || seen.trigger) (of-true opened)) in
    steps_of k word f goes.1 stability r.row r.word u goes.0
    (to (seen-opens k word f seen.trigger (sees.trigger_is u) some) (sees.enabled_is u))

pub returns-then-not-is_open : goal.returns-then-not-is_open
unfolding is_open_at
returns-then-not-is_open c = λ f sees _.
    let s = c in
    let a = s.args in
    let none : is_open_at a.word a.seen ≡ false = sym c.is_open.ensures ∙ c.if-not-is_open.true in
    ⊎_elim
    (λ (u : up f ≡ true).
    steps_of a.c a.word f s.requires.1.1 stability 0 0 u s.requires.1.0
    (idle-seen a.c a.word f a.seen.trigger (sees.trigger_is u) (idle a.seen.up (sees.up_is ∙ u) none)))
    (λ (d : up f ≡ false). steps-in-reset a.c a.word f s.requires.1.1 d) (either (up f))
  where
    idle : (b : Bool) {x : Bool} → b ≡ true → (b && x) ≡ false → x ≡ false
    idle true e n = n
    idle false e n = absurd (of-true e)

pub stability_step-requires : goal.stability_step-requires
stability_step-requires c = (c.requires.0, c.requires.1.0, goes-possible c.args.c c.requires.1.1 c.args.word c.requires.2)

pub returns-then-t : goal.returns-then-t
returns-then-t c = λ f sees tracks.
    let opened = sym c.is_open.ensures ∙ c.if-not-is_open.false in
    let k = tracks opened in
    steps c.args.c c.args.word c.args.seen c.requires.1 f c.stability_step.result opened sees
    (λ o on. c.stability_step.ensures f o on (record { known_is = sym c.if-t.true ∙ k.known_is; value_is = k.value_is }))

pub stability_step-requires-2 : goal.stability_step-requires-2
stability_step-requires-2 c = (c.requires.0, c.requires.1.0, goes-possible c.args.c c.requires.1.1 c.args.word c.requires.2)

pub returns : goal.returns
returns c = λ f sees tracks.
    let opened = sym c.is_open.ensures ∙ c.if-not-is_open.false in
    steps c.args.c c.args.word c.args.seen c.requires.1 f c.stability_step-2.result opened sees
    (λ o on. c.stability_step-2.ensures f o on (tracks opened))
