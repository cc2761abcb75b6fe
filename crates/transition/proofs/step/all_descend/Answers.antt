-- `transition::step::all_descend` meets its contract: each part of the test is read as what it says of the ends. Assumes nothing.
use mathlib.Core.Bool.{◌&&◌}
use lib.Dec.{T, leb, leb→le}
use Rattle.bits.proofs.Tests.{of-true, and_left, and_right}
use Rattle.transition.proofs.step.all_descend.Goals as goal

pub returns : goal.returns
returns c = λ h.
    let a = c.args.c in
    let all : T (leb a.p.right a.p.left && (leb a.q.right a.q.left && leb a.r.right a.r.left)) =
    of-true (rw (c.descends.ensures, c.descends-2.ensures, c.descends-3.ensures) at h) in
    let rest = and_right (leb a.p.right a.p.left) (leb a.q.right a.q.left && leb a.r.right a.r.left) all in
    record {
      p_descends =
          leb→le a.p.right a.p.left (and_left (leb a.p.right a.p.left) (leb a.q.right a.q.left && leb a.r.right a.r.left) all);
      q_descends = leb→le a.q.right a.q.left (and_left (leb a.q.right a.q.left) (leb a.r.right a.r.left) rest);
      r_descends = leb→le a.r.right a.r.left (and_right (leb a.q.right a.q.left) (leb a.r.right a.r.left) rest);
    }
