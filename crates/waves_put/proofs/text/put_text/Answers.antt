-- `waves_put::text::put_text` meets its contract: the text takes the place of as many bytes. Assumes nothing.
use Rattle.waves_put.proofs.Putting.{put-middle}
use Rattle.waves_put.proofs.text.put_text.Goals as goal

pub returns : goal.returns
returns c = let a = c.args in rw c.copy_from_slice.ensures.after (put-middle a.text.now a.out.now a.at c.requires)
