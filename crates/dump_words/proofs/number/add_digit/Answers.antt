use Rattle.dump_words.specs.Gather.{digit_add, number_add}
use borrow.Author.Tests.{le-ltb, lt-ltb}
use Prim.Native.Nat.{◌-◌}
use native.Mathlib.Omega.{arith}
use Rattle.dump_words.proofs.Laws as laws
use Rattle.dump_words.proofs.number.add_digit.Goals as goal

pub returns-then-b-lt48 : goal.returns-then-b-lt48
unfolding digit_add number_add
returns-then-b-lt48 c = simp (lt-ltb _ _ c.if-b-lt48.true)

pub returns-then-b-gt57 : goal.returns-then-b-gt57
unfolding digit_add number_add
returns-then-b-gt57 c = simp (lt-ltb _ _ c.if-b-gt57.true, le-ltb _ _ c.if-b-lt48.false)

pub returns-then-n-gt1 : goal.returns-then-n-gt1
unfolding digit_add number_add
returns-then-n-gt1 c = simp (lt-ltb _ _ c.if-n-gt1.true, le-ltb _ _ c.if-b-gt57.false, le-ltb _ _ c.if-b-lt48.false)

pub returns-then-n-gt1844674407370955161 : goal.returns-then-n-gt1844674407370955161
unfolding digit_add number_add
returns-then-n-gt1844674407370955161 c = simp (laws.far-above _ (c.args.b - 48) c.if-n-gt1844674407370955161.true, le-ltb _ _ c.if-n-gt1.false, le-ltb _ _ c.if-b-gt57.false, le-ltb _ _ c.if-b-lt48.false)

pub returns-then-ten-d : goal.returns-then-ten-d
unfolding digit_add number_add
returns-then-ten-d c = simp (laws.above _ _ (omega (arith, c.if-b-gt57.false)) c.if-ten-d.true, le-ltb _ _ c.if-n-gt1.false, le-ltb _ _ c.if-b-gt57.false, le-ltb _ _ c.if-b-lt48.false)

pub returns : goal.returns
unfolding digit_add number_add
returns c = simp (laws.within _ _ (omega (arith, c.if-b-gt57.false)) c.if-ten-d.false, le-ltb _ _ c.if-n-gt1.false, le-ltb _ _ c.if-b-gt57.false, le-ltb _ _ c.if-b-lt48.false)
