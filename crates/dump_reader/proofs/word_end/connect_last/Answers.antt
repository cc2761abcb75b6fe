use Rattle.dump_reader.proofs.Laws as laws
use Rattle.dump_reader.specs.Machine.{last_place, last_store}
use mathlib.Core.Path.{◌∙◌, sym}
use borrow.Author.Tests.{ne_eqb}
use Rattle.dump_reader.proofs.word_end.connect_last.Goals as goal

pub returns-then-place-eq20 : goal.returns-then-place-eq20
unfolding last_place last_store
returns-then-place-eq20 c = (c.last_place-place.ensures, c.connect.ensures ∙ laws.connected c.args.h c.args.t c.args.store.now _ _ c.last_place-place.ensures c.if-place-eq20.true c.bounded_count-n.ensures.0)

pub returns : goal.returns
unfolding last_place last_store
returns c = (simp (ne_eqb _ _ c.if-place-eq20.false, sym c.last_place-place.ensures), simp (ne_eqb _ _ c.if-place-eq20.false, sym c.last_place-place.ensures))
