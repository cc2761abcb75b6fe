-- `stability::step::tracked_in` meets its contract: where no wire is unknown, the port is known, and a port that is known reads as its wires do. Assumes nothing.
use mathlib.Core.Path.{sym, ◌∙◌}
use Rattle.bits.proofs.Tests.{of-true, of-false}
use Rattle.bus.proofs.Known.{none-known, known_is, read_known}
use Rattle.rules.specs.Frame.{frame_word, unknown}
use Rattle.rules.proofs.Good.{p-within}
use Rattle.stability.proofs.step.tracked_in.Goals as goal

pub returns-then-not-is_open : goal.returns-then-not-is_open
returns-then-not-is_open c = λ o. absurd (of-false (sym c.is_open.ensures ∙ c.if-not-is_open.true) (of-true o))

pub masked_value-value-requires : goal.masked_value-value-requires
masked_value-value-requires c = let s = c in p-within s.args.c s.requires

pub returns-then-unknown-eq0 : goal.returns-then-unknown-eq0
returns-then-unknown-eq0 c = λ _.
    let v = c in
    let a = v.args in
    record {
      known_is = none-known a.c.p (unknown a.frame 1) c.if-unknown-eq0.true;
      value_is = λ e. v.masked_value-value.ensures ∙ read_known a.c.p (frame_word a.frame 1) (unknown a.frame 1) e;
    }

pub has_one-requires : goal.has_one-requires
has_one-requires c = let s = c in p-within s.args.c s.requires

pub returns : goal.returns
returns c = λ _.
    let v = c in
    let a = v.args in
    record {
      known_is = known_is a.c.p (unknown a.frame 1) c.has_one.result c.has_one.ensures;
      value_is = λ e. v.masked_value-value.ensures ∙ read_known a.c.p (frame_word a.frame 1) (unknown a.frame 1) e;
    }
