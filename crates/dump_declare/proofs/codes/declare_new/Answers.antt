use lib.ListN.{length-set}
use Rattle.dump_declare.specs.Declare.{declare_new}
use native.Mathlib.Omega.{arith}
use Rattle.dump_declare.proofs.codes.declare_new.Goals as goal

pub bounds-store-n-2 : goal.bounds-store-n-2
bounds-store-n-2 c = simp length-set (omega (arith, c.requires.0, c.requires.1))

pub bounds-store-n-3 : goal.bounds-store-n-3
bounds-store-n-3 c = simp length-set (omega (arith, c.requires.0, c.requires.1))

pub bounds-store-n-4 : goal.bounds-store-n-4
bounds-store-n-4 c = simp length-set (omega (arith, c.requires.0, c.requires.1))

pub bounds-store-n-5 : goal.bounds-store-n-5
bounds-store-n-5 c = simp length-set (omega (arith, c.requires.0, c.requires.1))

pub bounds-store-s : goal.bounds-store-s
bounds-store-s c = simp length-set (omega (arith, c.requires.0, c.requires.1, c.slot_of-s.ensures.1))

pub returns : goal.returns
unfolding declare_new
returns c = simp (c.slot_of-s.ensures.0, c.right_of-right.ensures, c.left_of-left.ensures, c.sort_of-sort.ensures)
