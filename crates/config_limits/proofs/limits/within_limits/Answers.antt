-- `config_limits::limits::within_limits` meets its contract: it asks for all three, and a kind without a family has no n. Assumes nothing.
use mathlib.Core.Path.{refl, sym, ◌∙◌}
use Rattle.rules.specs.Config.{family_limits, severity_fits, limits}
use Rattle.rules.specs.Config.Family.{none}
use Rattle.rules.proofs.Good.{limits-are}
use Rattle.config_limits.proofs.limits.within_limits.Goals as goal

pub returns-in_default : goal.returns-in_default
unfolding limits family_limits
returns-in_default c = rw (sym (limits-are c.args.c none c.in_default.ensures)) refl

pub returns : goal.returns
unfolding limits severity_fits
returns c =
    let a = c.args.c in
    rw (c.n_fits.ensures ∙ limits-are a _ (sym c.in-Ok.ensures), c.min_fits.ensures c.in-Ok.ensures) refl
