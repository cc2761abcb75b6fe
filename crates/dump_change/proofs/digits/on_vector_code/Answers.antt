use Rattle.dump_change.specs.Change.{on_vector_code, vector_change, vector_store}
use mathlib.Core.Path.{◌∙◌, sym}
use borrow.Author.Tests.{le-ltb, lt-ltb, eq-eqb, ne_eqb}
use native.Mathlib.Omega.{arith}
use Rattle.dump_change.proofs.digits.on_vector_code.Goals as goal

pub returns-then-t-gt8 : goal.returns-then-t-gt8
unfolding on_vector_code vector_change vector_store
returns-then-t-gt8 c = (simp (c.wave_at.ensures, lt-ltb _ _ c.if-t-gt8.true), simp (lt-ltb _ _ c.if-t-gt8.true))

pub returns-then-text_is : goal.returns-then-text_is
unfolding on_vector_code vector_change vector_store
returns-then-text_is c = (simp (c.wave_at-then-text_is.ensures, sym c.text_is.ensures ∙ c.if-text_is.true, le-ltb _ _ c.if-t-gt8.false), simp (sym c.text_is.ensures ∙ c.if-text_is.true, le-ltb _ _ c.if-t-gt8.false))

pub returns-then-r-ne20 : goal.returns-then-r-ne20
unfolding on_vector_code vector_change vector_store
returns-then-r-ne20 c = (simp (sym c.vector_test-r.ensures, sym c.find-i.ensures, sym c.text_is.ensures ∙ c.if-text_is.false, sym c.text_is.ensures, le-ltb _ _ c.if-t-gt8.false), simp (ne_eqb _ _ c.if-r-ne20.true, sym c.vector_test-r.ensures, sym c.find-i.ensures, sym c.text_is.ensures ∙ c.if-text_is.false, sym c.text_is.ensures, le-ltb _ _ c.if-t-gt8.false))

pub returns-then-i-n : goal.returns-then-i-n
unfolding on_vector_code vector_change vector_store
returns-then-i-n c = (simp (sym c.vector_test-r.ensures, sym c.find-i.ensures, sym c.text_is.ensures ∙ c.if-text_is.false, sym c.text_is.ensures, le-ltb _ _ c.if-t-gt8.false), simp (le-ltb _ _ c.if-i-n.true, eq-eqb _ _ c.if-r-ne20.false, sym c.vector_test-r.ensures, sym c.find-i.ensures, sym c.text_is.ensures ∙ c.if-text_is.false, sym c.text_is.ensures, le-ltb _ _ c.if-t-gt8.false))

pub returns-then-w-eq0 : goal.returns-then-w-eq0
unfolding on_vector_code vector_change vector_store
returns-then-w-eq0 c = (simp (sym c.vector_test-r.ensures, sym c.find-i.ensures, sym c.text_is.ensures ∙ c.if-text_is.false, sym c.text_is.ensures, le-ltb _ _ c.if-t-gt8.false), simp (eq-eqb _ _ c.if-w-eq0.true, lt-ltb _ _ c.if-i-n.false, eq-eqb _ _ c.if-r-ne20.false, sym c.vector_test-r.ensures, sym c.find-i.ensures, sym c.text_is.ensures ∙ c.if-text_is.false, sym c.text_is.ensures, le-ltb _ _ c.if-t-gt8.false))

pub returns-then-w-gt4096 : goal.returns-then-w-gt4096
unfolding on_vector_code vector_change vector_store
returns-then-w-gt4096 c = (simp (sym c.vector_test-r.ensures, sym c.find-i.ensures, sym c.text_is.ensures ∙ c.if-text_is.false, sym c.text_is.ensures, le-ltb _ _ c.if-t-gt8.false), simp (lt-ltb _ _ c.if-w-gt4096.true, ne_eqb _ _ c.if-w-eq0.false, lt-ltb _ _ c.if-i-n.false, eq-eqb _ _ c.if-r-ne20.false, sym c.vector_test-r.ensures, sym c.find-i.ensures, sym c.text_is.ensures ∙ c.if-text_is.false, sym c.text_is.ensures, le-ltb _ _ c.if-t-gt8.false))

pub change_bits-requires : goal.change_bits-requires
change_bits-requires c = (c.requires.0, omega (arith, c.if-w-eq0.false), omega (arith, c.if-w-gt4096.false, c.requires.2), omega (arith, c.if-i-n.false, c.requires.1))

pub returns : goal.returns
unfolding on_vector_code vector_change vector_store
returns c = (simp (sym c.vector_test-r.ensures, sym c.find-i.ensures, sym c.text_is.ensures ∙ c.if-text_is.false, sym c.text_is.ensures, le-ltb _ _ c.if-t-gt8.false), simp (c.change_bits.ensures, le-ltb _ _ c.if-w-gt4096.false, ne_eqb _ _ c.if-w-eq0.false, lt-ltb _ _ c.if-i-n.false, eq-eqb _ _ c.if-r-ne20.false, sym c.vector_test-r.ensures, sym c.find-i.ensures, sym c.text_is.ensures ∙ c.if-text_is.false, sym c.text_is.ensures, le-ltb _ _ c.if-t-gt8.false))
