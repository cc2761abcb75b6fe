use Rattle.dump_reader.proofs.word.text_word.Goals as goal

pub returns : goal.returns
returns c = simp c.add_text.ensures
