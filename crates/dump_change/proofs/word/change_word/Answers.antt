use Rattle.dump_change.specs.Change.{word_wave, word_store, word_frames}
use mathlib.Core.Path.{sym}
use borrow.Author.Tests.{eq-eqb, ne_eqb}
use Rattle.dump_change.proofs.word.change_word.Goals as goal

pub returns-then-w-eq20 : goal.returns-then-w-eq20
unfolding word_wave word_store word_frames
returns-then-w-eq20 c = (simp (sym c.on_change.ensures.0, eq-eqb _ _ c.if-w-eq20.true), simp (c.on_change.ensures.1, eq-eqb _ _ c.if-w-eq20.true), simp (c.on_change.ensures.2, eq-eqb _ _ c.if-w-eq20.true))

pub returns : goal.returns
unfolding word_wave word_store word_frames
returns c = (simp (sym c.on_code.ensures.0, ne_eqb _ _ c.if-w-eq20.false), simp (c.on_code.ensures.1, ne_eqb _ _ c.if-w-eq20.false), simp (ne_eqb _ _ c.if-w-eq20.false))
