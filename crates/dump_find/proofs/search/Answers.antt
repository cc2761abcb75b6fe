use native.Mathlib.Nat.{zero-add}
use mathlib.Core.Path.{sym}
use Rattle.dump_find.proofs.Laws as laws
use Rattle.dump_find.proofs.search.Goals as goal

pub loop-i-init : goal.loop-i-init
loop-i-init c = sym (zero-add _)

pub returns-then-store-i : goal.returns-then-store-i
returns-then-store-i c = laws.search-here c.args.store.now c.requires.0 _ c.requires.1 _ _ c.loop-i.invariant c.loop-i-test.true c.if-store-i.true

pub loop-i-preserved : goal.loop-i-preserved
loop-i-preserved c = laws.search-more c.args.store.now c.requires.0 _ c.requires.1 _ _ c.loop-i.invariant c.loop-i-test.true c.if-store-i.false

pub returns : goal.returns
returns c = laws.search-end c.args.store.now c.requires.0 _ c.requires.1 _ _ c.loop-i.invariant c.loop-i-test.false c.loop-i.auto.i-end
