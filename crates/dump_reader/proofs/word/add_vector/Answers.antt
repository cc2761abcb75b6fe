use Rattle.dump_reader.specs.Machine.{vector_add, vector_digits}
use mathlib.Core.Path.{sym}
use borrow.Author.Tests.{le-ltb, lt-ltb, le-leb, lt-leb}
use Rattle.dump_reader.proofs.word.add_vector.Goals as goal

pub returns-then-w-lt4096 : goal.returns-then-w-lt4096
unfolding vector_add vector_digits
returns-then-w-lt4096 c = (simp (c.add_value.ensures, lt-ltb _ _ c.if-w-lt4096.true, lt-leb _ _ c.if-w-lt4096.true, sym c.value_of-v.ensures), simp (c.add_value.ensures, lt-ltb _ _ c.if-w-lt4096.true, lt-leb _ _ c.if-w-lt4096.true, sym c.value_of-v.ensures))

pub returns : goal.returns
unfolding vector_add vector_digits
returns c = (simp (c.add_value-2.ensures, le-ltb _ _ c.if-w-lt4096.false, le-leb _ _ c.if-w-lt4096.false, sym c.value_of-v.ensures), simp (c.add_value-2.ensures, le-ltb _ _ c.if-w-lt4096.false, le-leb _ _ c.if-w-lt4096.false, sym c.value_of-v.ensures))
