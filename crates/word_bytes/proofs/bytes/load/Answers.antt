-- `word_bytes::bytes::load` meets its contract: the library's word of eight bytes is theirs. Assumes nothing.
use mathlib.Core.Path.{◌∙◌}
use Rattle.word_bytes.proofs.Words.{word_is}
use Rattle.word_bytes.proofs.bytes.load.Goals as goal

pub returns : goal.returns
returns c = c.from_le_bytes.ensures ∙ rw c.copy_from_slice.ensures.after (word_is c.args.bytes.now c.requires)
