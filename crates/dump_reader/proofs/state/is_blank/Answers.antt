use Rattle.dump_reader.proofs.Laws as laws
use borrow.Author.Tests.{le-ltb, lt-ltb, le-leb, lt-leb, eq-eqb, ne_eqb}
use Rattle.dump_reader.proofs.state.is_blank.Goals as goal

pub returns-then-b-gt32 : goal.returns-then-b-gt32
returns-then-b-gt32 c = laws.above-blanks _ c.if-b-gt32.true

pub returns-then-b-eq32 : goal.returns-then-b-eq32
returns-then-b-eq32 c = simp (eq-eqb _ _ c.if-b-eq32.true, le-ltb _ _ c.if-b-gt32.false, le-leb _ _ c.if-b-gt32.false)

pub returns-then-b-lt9 : goal.returns-then-b-lt9
returns-then-b-lt9 c = simp (lt-ltb _ _ c.if-b-lt9.true, lt-leb _ _ c.if-b-lt9.true, ne_eqb _ _ c.if-b-eq32.false, le-ltb _ _ c.if-b-gt32.false, le-leb _ _ c.if-b-gt32.false)

pub returns : goal.returns
returns c = simp (le-ltb _ _ c.if-b-lt9.false, le-leb _ _ c.if-b-lt9.false, ne_eqb _ _ c.if-b-eq32.false, le-ltb _ _ c.if-b-gt32.false, le-leb _ _ c.if-b-gt32.false)
