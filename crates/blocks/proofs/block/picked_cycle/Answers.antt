-- `blocks::block::picked_cycle` meets its contract: the word before the block's first cycle is the block's, and before any other cycle k it is the one of cycle
-- k - 1. Assumes nothing.
use mathlib.Core.Path.{refl, ◌∙◌}
use Rattle.blocks.proofs.Cycles.{word_first, word-later}
use Rattle.blocks.proofs.block.picked_cycle.Goals as goal
use Rattle.blocks.proofs.block.picked_cycle.Goals.{then-k-eq0, else-k-eq0}

pub returns : goal.returns
returns c =
    let a = c.args in
    record {
      t_is = refl;
      word_is =
          elim c.if-k-eq0.branch [
            | then-k-eq0 w ↦ w.before-is ∙ word_first a.word a.buffers.now.words a.k w.if-k-eq0.true
            | else-k-eq0 w ↦ w.before-is ∙ word-later a.word a.buffers.now.words a.k w.if-k-eq0.false
          ];
      frame_is = c.frame_at-frame.ensures;
      row_is = refl;
    }
