-- `passes::count::CountVisit::visit` meets its contract: it adds the entries of the block. Assumes nothing.
use Rattle.std.proofs.Common.{refl, arith}
use Rattle.passes.proofs.count.CountVisit.visit.Goals as goal

pub overflow_add-result : goal.overflow_add-result
overflow_add-result c = let asks = c.requires.2 in omega (arith, asks.few, asks.short, c.count_block.ensures.few)

pub returns : goal.returns
returns c = record { added = c.count_block.result; next_is = refl; counted = c.count_block.ensures; list_is = refl }

pub count_block-requires : goal.count_block-requires
count_block-requires c = (c.requires.0, c.requires.1)
