use Rattle.dump_reader.proofs.word.scan_word.Goals as goal

pub returns : goal.returns
returns c = simp c.text_word.ensures
