-- `passes::write::WriteVisit::visit` meets its contract: it hands on what it asks for. Assumes nothing.
use Rattle.passes.proofs.write.WriteVisit.visit.Goals as goal

pub write_block-requires : goal.write_block-requires
write_block-requires c = c.requires
