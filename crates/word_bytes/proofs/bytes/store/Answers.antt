-- `word_bytes::bytes::store` meets its contract: the library's bytes of a word are its own. Assumes nothing.
use mathlib.Core.Path.{◌∙◌}
use Rattle.word_bytes.proofs.Words.{bytes_are}
use Rattle.word_bytes.proofs.bytes.store.Goals as goal

pub returns : goal.returns
returns c = c.copy_from_slice.ensures.after ∙ c.to_le_bytes.ensures ∙ bytes_are c.args.word
