-- `config_ports::ports::ports_fit` meets its contract, from what the functions that it calls ensure. Assumes nothing.
use mathlib.Core.Path.{◌≡◌, refl, sym, ◌∙◌}
use mathlib.Core.Bool.{Bool, ◌&&◌}
use Rattle.rules.specs.Config.{widths_of, ports}
use Rattle.rules.specs.Config.Family.{none}
use Rattle.rules.proofs.Good.{widths-are}
use Rattle.config_ports.proofs.ports.ports_fit.Goals as goal

-- whether each of three values is, at what each is
all-are : (x y z a b d : Bool) → x ≡ a → y ≡ b → z ≡ d → (x && (y && z)) ≡ (a && (b && d))
all-are x y z a b d e f g = cc

pub returns-then-not-within : goal.returns-then-not-within
unfolding ports
returns-then-not-within c =
    let indices = all-are _ _ _ _ _ _ c.within.ensures c.within-2.ensures c.within-3.ensures in
    rw (sym indices ∙ c.if-not-within.true) refl

pub returns-in_default : goal.returns-in_default
unfolding ports widths_of
returns-in_default c =
    let indices = all-are _ _ _ _ _ _ c.within.ensures c.within-2.ensures c.within-3.ensures in
    rw (sym indices ∙ c.if-not-within.false, sym (widths-are c.args.c none c.in_default.ensures)) refl

pub returns : goal.returns
unfolding ports
returns c =
    let a = c.args.c in
    let indices = all-are _ _ _ _ _ _ c.within.ensures c.within-2.ensures c.within-3.ensures in
    rw (sym indices ∙ c.if-not-within.false, c.widths_fit.ensures ∙ widths-are a _ (sym c.in-Ok.ensures), c.value_fits.ensures c.in-Ok.ensures) refl
