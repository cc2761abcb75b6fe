use Rattle.dump_reader.specs.Machine.{vector_add}
use borrow.Author.Tests.{le-ltb, lt-ltb, eq-eqb, ne_eqb}
use Rattle.dump_reader.proofs.word.add_value.Goals.{then-v-eq3, else-v-eq3}
use Rattle.dump_reader.proofs.word.add_value.Goals as goal

pub returns-then-w-lt4096 : goal.returns-then-w-lt4096
unfolding vector_add
returns-then-w-lt4096 c = elim c.if-v-eq3.branch [
  | then-v-eq3 j ↦ simp (j.wrong-is, eq-eqb _ _ j.if-v-eq3.true, lt-ltb _ _ c.if-w-lt4096.true)
  | else-v-eq3 j ↦ simp (j.wrong-is, ne_eqb _ _ j.if-v-eq3.false, lt-ltb _ _ c.if-w-lt4096.true)
]

pub returns : goal.returns
unfolding vector_add
returns c = elim c.if-v-eq3.branch [
  | then-v-eq3 j ↦ simp (j.wrong-is, eq-eqb _ _ j.if-v-eq3.true, le-ltb _ _ c.if-w-lt4096.false)
  | else-v-eq3 j ↦ simp (j.wrong-is, ne_eqb _ _ j.if-v-eq3.false, le-ltb _ _ c.if-w-lt4096.false)
]
