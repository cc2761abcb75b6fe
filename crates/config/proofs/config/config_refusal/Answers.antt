-- `config::config::config_refusal` meets its contract: the tests come in the order of the refusal numbers. Assumes nothing.
use mathlib.Core.Path.{refl, sym, ◌∙◌}
use mathlib.Core.Bool.{true, false}
use borrow.Author.Tests.{le-leb, lt-leb}
use Rattle.rules.specs.Config.{limits, ports}
use Rattle.rules.proofs.Good.{refusal_is}
use Rattle.config.proofs.config.config_refusal.Goals as goal

pub returns-then-c-gt-MAX_KIND : goal.returns-then-c-gt-MAX_KIND
returns-then-c-gt-MAX_KIND c = let a = c.args.c in sym (refusal_is a false (limits a) (ports a) (lt-leb _ _ c.if-c-gt-MAX_KIND.true) refl refl)

pub returns-then-not-within_limits : goal.returns-then-not-within_limits
returns-then-not-within_limits c =
    let a = c.args.c in
    sym (refusal_is a true false (ports a) (le-leb _ _ c.if-c-gt-MAX_KIND.false) (sym c.within_limits.ensures ∙ c.if-not-within_limits.true) refl)

pub returns-then-not-ports_fit : goal.returns-then-not-ports_fit
returns-then-not-ports_fit c =
    let a = c.args.c in
    let limited = sym c.within_limits.ensures ∙ c.if-not-within_limits.false in
    sym (refusal_is a true true false (le-leb _ _ c.if-c-gt-MAX_KIND.false) limited (sym c.ports_fit.ensures ∙ c.if-not-ports_fit.true))

pub returns : goal.returns
returns c =
    let a = c.args.c in
    let limited = sym c.within_limits.ensures ∙ c.if-not-within_limits.false in
    sym (refusal_is a true true true (le-leb _ _ c.if-c-gt-MAX_KIND.false) limited (sym c.ports_fit.ensures ∙ c.if-not-ports_fit.false))
