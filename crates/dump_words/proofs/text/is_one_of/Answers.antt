use mathlib.Core.Path.{◌∙◌, sym}
use Rattle.dump_words.proofs.Laws as laws
use Rattle.dump_words.proofs.text.is_one_of.Goals as goal

pub returns-then-text_is : goal.returns-then-text_is
returns-then-text_is c = laws.found c.args.t c.args.list.now _ c.loop-k.invariant _ c.loop-k-test.true (sym c.text_is.ensures ∙ c.if-text_is.true)

pub loop-k-preserved : goal.loop-k-preserved
loop-k-preserved c = laws.further c.args.t c.args.list.now _ c.loop-k.invariant _ c.loop-k-test.true (sym c.text_is.ensures ∙ c.if-text_is.false)

pub returns : goal.returns
returns c = laws.at-end c.args.t c.args.list.now _ c.loop-k.invariant c.loop-k-test.false
