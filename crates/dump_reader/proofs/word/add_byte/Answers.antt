use Rattle.dump_reader.specs.Machine.{continued, continued_digits}
use mathlib.Core.Path.{sym}
use borrow.Author.Tests.{eq-eqb, ne_eqb}
use Rattle.dump_reader.proofs.word.add_byte.Goals as goal

pub returns-then-w-eq4 : goal.returns-then-w-eq4
unfolding continued continued_digits
returns-then-w-eq4 c = (simp (sym c.add_vector.ensures.0, c.add_vector.ensures.1, eq-eqb _ _ c.if-w-eq4.true), simp (sym c.add_vector.ensures.0, c.add_vector.ensures.1, eq-eqb _ _ c.if-w-eq4.true))

pub returns-then-w-eq2 : goal.returns-then-w-eq2
unfolding continued continued_digits
returns-then-w-eq2 c = (simp (c.add_digit.ensures, eq-eqb _ _ c.if-w-eq2.true, ne_eqb _ _ c.if-w-eq4.false), simp (c.add_digit.ensures, eq-eqb _ _ c.if-w-eq2.true, ne_eqb _ _ c.if-w-eq4.false))

pub returns-then-w-eq3 : goal.returns-then-w-eq3
unfolding continued continued_digits
returns-then-w-eq3 c = (simp (c.add_scan.ensures, eq-eqb _ _ c.if-w-eq3.true, sym c.add_text-text.ensures, ne_eqb _ _ c.if-w-eq2.false, ne_eqb _ _ c.if-w-eq4.false), simp (c.add_scan.ensures, eq-eqb _ _ c.if-w-eq3.true, sym c.add_text-text.ensures, ne_eqb _ _ c.if-w-eq2.false, ne_eqb _ _ c.if-w-eq4.false))

pub returns : goal.returns
unfolding continued continued_digits
returns c = (simp (ne_eqb _ _ c.if-w-eq3.false, sym c.add_text-text.ensures, ne_eqb _ _ c.if-w-eq2.false, ne_eqb _ _ c.if-w-eq4.false), simp (ne_eqb _ _ c.if-w-eq3.false, sym c.add_text-text.ensures, ne_eqb _ _ c.if-w-eq2.false, ne_eqb _ _ c.if-w-eq4.false))
