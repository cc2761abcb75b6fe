-- `open_words::words::can_fail` meets its contract: kind 8 alone is of the family of stability. Assumes nothing.
use mathlib.Core.Path.{◌≡◌, refl, sym, ◌∙◌}
use borrow.Author.Tests.{eq-eqb, ne_eqb}
use Rattle.rules.specs.declared.family.Family as code
use Rattle.rules.specs.declared.family.Family.TheVariants.{Sequence, Time, Transition, Value, Stability}
use Rattle.rules.specs.Config.Family.{stability}
use Rattle.rules.specs.Families.{named}
use Rattle.rules.specs.Possible.{can_fail}
use Rattle.rules.proofs.Good.{kind-low, family-stability, stability-kind}
use Rattle.open_words.proofs.words.can_fail.Goals as goal

is-stability : (f : code.Family) → named f ≡ stability → f ≡ Stability
is-stability Sequence e = cc
is-stability Time e = cc
is-stability Transition e = cc
is-stability Value e = cc
is-stability Stability e = refl

pub family-requires : goal.family-requires
family-requires c = kind-low c.args.c c.requires

pub returns-in-Stability : goal.returns-in-Stability
unfolding can_fail
returns-in-Stability c =
    rw (eq-eqb c.args.c.kind 8 (stability-kind c.args.c c.requires (sym (rw c.in-Stability.is at c.family.ensures)))) refl

pub returns-in_default : goal.returns-in_default
unfolding can_fail
returns-in_default c =
    let kind = c.args.c.kind in
    rw (ne_eqb kind 8 (λ e. c.in_default.not-Stability (is-stability c.family.result (c.family.ensures ∙ family-stability kind e)))) refl
