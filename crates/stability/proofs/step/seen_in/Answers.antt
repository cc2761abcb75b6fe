-- `stability::step::seen_in` meets its contract. Assumes nothing.
use mathlib.Core.Path.{◌≡◌, sym, ◌∙◌}
use mathlib.Core.Bool.{false}
use Rattle.bits.proofs.Tests.{of-true, of-false}
use Rattle.rules.specs.Frame.{up}
use Rattle.rules.proofs.Good.{q-within, stability-config}
use Rattle.stability.proofs.step.seen_in.Goals as goal

pub returns-then-not-out_of_reset : goal.returns-then-not-out_of_reset
returns-then-not-out_of_reset c =
    let down : up c.args.frame ≡ false = sym c.out_of_reset.ensures ∙ c.if-not-out_of_reset.true in
    record { up_is = sym down; enabled_is = λ u. absurd (of-false down (of-true u)); trigger_is = λ u. absurd (of-false down (of-true u)) }

pub is_enabled-requires : goal.is_enabled-requires
is_enabled-requires c = sym c.out_of_reset.ensures ∙ c.if-not-out_of_reset.false

pub sees_trigger-requires : goal.sees_trigger-requires
sees_trigger-requires c =
    let e = c in
    let s = e in
    (q-within s.args.c s.requires.0, (stability-config s.args.c s.requires.0 s.requires.1).q-width, sym c.out_of_reset.ensures ∙ c.if-not-out_of_reset.false)

pub returns : goal.returns
returns c = record { up_is = sym (sym c.out_of_reset.ensures ∙ c.if-not-out_of_reset.false); enabled_is = λ _. c.is_enabled.ensures; trigger_is = λ _. c.sees_trigger.ensures }
