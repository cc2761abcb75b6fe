use Rattle.dump_declare.proofs.vars.with_type.Goals as goal

pub returns : goal.returns
returns c = simp c.at_command.ensures
