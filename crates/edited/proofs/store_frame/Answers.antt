-- `edited::store_frame` meets its contract: a cycle of the trace has all its words in it, and the frame's words are stored from the first of them on. Assumes
-- nothing.
use Rattle.std.proofs.Common.{◌+◌, ◌*◌, ◌≤◌, length, rules, arith}
use Rattle.std.proofs.lemmas.Grind.{common_steps}
use Rattle.rules.specs.Frame.{frame_words}
use Rattle.trace.specs.Traces.{frames}
use Rattle.edited.proofs.Stores.{stored}
use Rattle.edited.proofs.store_frame.Goals as goal

pub overflow_mul-first : goal.overflow_mul-first
unfolding frames
overflow_mul-first c = omega arith

pub overflow_add-first : goal.overflow_add-first
unfolding frames
overflow_add-first c = omega arith

pub offset_bounds-trace-first : goal.offset_bounds-trace-first
unfolding frames
offset_bounds-trace-first c = omega arith

pub slice_bounds-copy_from_slice-end : goal.slice_bounds-copy_from_slice-end
unfolding frames
slice_bounds-copy_from_slice-end c = search rules

pub returns : goal.returns
unfolding frames
returns c =
    let a = c.args in
    let within : frame_words * a.t + frame_words ≤ length a.trace.now = omega arith in
    stored a.trace.now _ a.t a.frame
    (record {
      same_length = search rules;
      below = λ k h. grind (arith, common_steps);
      within = λ k h g. grind (arith, common_steps);
      beyond = λ k h. grind (arith, common_steps);
    })
