use Rattle.dump_declare.proofs.Laws as laws
use Rattle.dump_declare.specs.Declare.{found_at, declared_head, declared_store}
use mathlib.Core.Path.{◌∙◌}
use Rattle.dump_declare.proofs.codes.declare.Goals as goal

pub returns-then-i-n : goal.returns-then-i-n
unfolding found_at declared_head declared_store
returns-then-i-n c = let l = laws.again c.args.h c.args.store.now _ _ c.bounded_count-n.ensures.0 c.find-i.ensures c.if-i-n.true in (c.at_command.ensures ∙ l.0, c.declare_again.ensures ∙ l.1)

pub returns-then-n-ge1024 : goal.returns-then-n-ge1024
unfolding found_at declared_head declared_store
returns-then-n-ge1024 c = let l = laws.full c.args.h c.args.store.now _ _ c.bounded_count-n.ensures.0 c.find-i.ensures c.if-i-n.false c.if-n-ge1024.true in (c.at_place.ensures ∙ l.0, l.1)

pub returns : goal.returns
unfolding found_at declared_head declared_store
returns c = let l = laws.fresh c.args.h c.args.store.now _ _ c.bounded_count-n.ensures.0 c.find-i.ensures c.if-i-n.false c.if-n-ge1024.false in (c.at_command-2.ensures ∙ l.0, c.declare_new.ensures ∙ l.1)
