use mathlib.Core.Path.{◌∙◌, sym}
use native.Mathlib.Omega.{arith}
use Rattle.dump_words.proofs.Laws as laws
use Rattle.dump_words.proofs.text.one_of.Goals as goal

pub returns-then-text_is : goal.returns-then-text_is
returns-then-text_is c =
    let s = c.in-Some.ensures.steps in
    laws.word-found c.args.t c.args.list.now _ c.loop-k.invariant.3 _ _ s.1.0 (s.1.1 ∙ c.loop-k.invariant.2) (sym c.text_is.ensures ∙ c.if-text_is.true)

pub loop-k-preserved : goal.loop-k-preserved
loop-k-preserved c =
    let s = c.in-Some.ensures.steps in
    let three = c.loop-k.invariant.2 in
    (omega (arith, s.0, three), tt, s.0 ∙ three, laws.word-passed c.args.t c.args.list.now _ c.loop-k.invariant.3 _ _ s.1.0 (s.1.1 ∙ three) (sym c.text_is.ensures ∙ c.if-text_is.false))

pub returns : goal.returns
returns c =
    let s = c.in-None.ensures.steps in
    laws.none-left c.args.t c.args.list.now _ c.loop-k.invariant.3 (omega (arith, s.1.0, c.loop-k.invariant.2))
