use Rattle.dump_declare.proofs.vars.with_width.Goals as goal

pub returns : goal.returns
returns c = simp c.at_range.ensures
