use Rattle.dump_reader.proofs.piece.ahead.Goals as goal

-- src/piece.rt:128:9
pub all_changes-requires : goal.all_changes-requires
all_changes-requires c = (c.requires.0, c.requires.1, c.requires.2, c.requires.3, (c.begins_change.ensures c.if-begins_change.true).0, (c.begins_change.ensures c.if-begins_change.true).1, (c.begins_change.ensures c.if-begins_change.true).2, (c.begins_change.ensures c.if-begins_change.true).3)
