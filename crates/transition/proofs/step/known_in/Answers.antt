-- `transition::step::known_in` meets its contract: where no word has a one, no port has. Assumes nothing.
use lib.Bits.{bit_or}
use Rattle.bus.proofs.Known.{none-known, known_is}
use Rattle.rules.specs.Frame.{unknown}
use Rattle.rules.proofs.Good.{p-within, q-within, r-within}
use Rattle.transition.proofs.TransitionCode.{none_left, none_right}
use Rattle.transition.proofs.step.known_in.Goals as goal

pub returns-then-p_unknown-q_unknown-eq0 : goal.returns-then-p_unknown-q_unknown-eq0
returns-then-p_unknown-q_unknown-eq0 c =
    let a = c.args in
    let two = none_left (bit_or (unknown a.frame 1) (unknown a.frame 2)) (unknown a.frame 3) c.if-p_unknown-q_unknown-eq0.true in
    record {
      test_known = none-known a.c.p (unknown a.frame 1) (none_left (unknown a.frame 1) (unknown a.frame 2) two);
      start_known = none-known a.c.q (unknown a.frame 2) (none_right (unknown a.frame 1) (unknown a.frame 2) two);
      next_known = none-known a.c.r (unknown a.frame 3) (none_right (bit_or (unknown a.frame 1) (unknown a.frame 2)) (unknown a.frame 3) c.if-p_unknown-q_unknown-eq0.true);
    }

pub has_one-requires : goal.has_one-requires
has_one-requires c = let s = c in p-within s.args.c s.requires

pub has_one-requires-2 : goal.has_one-requires-2
has_one-requires-2 c = let s = c in q-within s.args.c s.requires

pub has_one-requires-3 : goal.has_one-requires-3
has_one-requires-3 c = let s = c in r-within s.args.c s.requires

pub returns : goal.returns
returns c =
    let a = c.args in
    record {
      test_known = known_is a.c.p (unknown a.frame 1) c.has_one.result c.has_one.ensures;
      start_known = known_is a.c.q (unknown a.frame 2) c.has_one-2.result c.has_one-2.ensures;
      next_known = known_is a.c.r (unknown a.frame 3) c.has_one-3.result c.has_one-3.ensures;
    }
