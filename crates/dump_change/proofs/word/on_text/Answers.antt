use Rattle.dump_change.specs.Change.{text_wave, text_store}
use mathlib.Core.Path.{sym}
use borrow.Author.Tests.{le-ltb, lt-ltb, eq-eqb, ne_eqb}
use Rattle.dump_change.proofs.word.on_text.Goals as goal

pub returns-then-v-lt3 : goal.returns-then-v-lt3
unfolding text_wave text_store
returns-then-v-lt3 c = (simp (sym c.on_scalar.ensures.0, lt-ltb _ _ c.if-v-lt3.true, sym c.value_of-v.ensures), simp (c.on_scalar.ensures.1, lt-ltb _ _ c.if-v-lt3.true, sym c.value_of-v.ensures))

pub returns-then-b-eq36 : goal.returns-then-b-eq36
unfolding text_wave text_store
returns-then-b-eq36 c = (simp (c.on_dollar.ensures, eq-eqb _ _ c.if-b-eq36.true, le-ltb _ _ c.if-v-lt3.false, sym c.value_of-v.ensures), simp (le-ltb _ _ c.if-v-lt3.false, sym c.value_of-v.ensures))

pub returns-then-b-eq114 : goal.returns-then-b-eq114
unfolding text_wave text_store
returns-then-b-eq114 c = (simp (c.on_real.ensures, eq-eqb _ _ c.if-b-eq114.true, ne_eqb _ _ c.if-b-eq36.false, le-ltb _ _ c.if-v-lt3.false, sym c.value_of-v.ensures), simp (le-ltb _ _ c.if-v-lt3.false, sym c.value_of-v.ensures))

pub returns-then-b-eq82 : goal.returns-then-b-eq82
unfolding text_wave text_store
returns-then-b-eq82 c = (simp (c.on_real-then-b-eq82.ensures, eq-eqb _ _ c.if-b-eq82.true, ne_eqb _ _ c.if-b-eq114.false, ne_eqb _ _ c.if-b-eq36.false, le-ltb _ _ c.if-v-lt3.false, sym c.value_of-v.ensures), simp (le-ltb _ _ c.if-v-lt3.false, sym c.value_of-v.ensures))

pub returns : goal.returns
unfolding text_wave text_store
returns c = (simp (c.wave_at.ensures, ne_eqb _ _ c.if-b-eq82.false, ne_eqb _ _ c.if-b-eq114.false, ne_eqb _ _ c.if-b-eq36.false, le-ltb _ _ c.if-v-lt3.false, sym c.value_of-v.ensures), simp (le-ltb _ _ c.if-v-lt3.false, sym c.value_of-v.ensures))
