use Rattle.dump_reader.proofs.RunLaws as runs
use Rattle.dump_reader.proofs.piece.all_changes.Goals as goal

-- src/piece.rt:107:1
pub returns : goal.returns
returns c = (c.past_all-c.ensures.0, c.past_all-c.ensures.1, runs.carried _ _ _ _ _ _ _ c.requires.3 c.requires.6 c.requires.7 c.requires.4 c.requires.5 c.bounded_count-n.ensures.0 c.past_all-c.result _ _ _ _ c.open_word-word.ensures c.past_all-c.ensures.2)
