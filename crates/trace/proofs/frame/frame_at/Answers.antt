-- `trace::frame::frame_at` meets its contract: a cycle of the trace has all its words in it. Assumes nothing.
use Prim.Native.Nat.{ℕ, ◌+◌, ◌-◌, ◌*◌, ◌≤◌}
use mathlib.Core.Path.{◌≡◌, refl, ◌∙◌}
use native.Mathlib.Omega.{arith}
use lib.ListN.{length}
use Rattle.rules.specs.Frame.{frame_words}
use Rattle.trace.specs.Traces.{frames, cut, frame_at}
use Rattle.trace.proofs.Frames.{cut-part}
use Rattle.trace.proofs.frame.frame_at.Goals as goal

pub overflow_mul-first : goal.overflow_mul-first
unfolding frames
overflow_mul-first c = omega arith

pub overflow_add-first : goal.overflow_add-first
unfolding frames
overflow_add-first c = omega arith

pub offset_bounds-trace-first : goal.offset_bounds-trace-first
unfolding frames
offset_bounds-trace-first c = omega arith

pub slice_bounds-as_array-end : goal.slice_bounds-as_array-end
unfolding frames
slice_bounds-as_array-end c =
    let inside : frame_words * c.args.t + frame_words ≤ length c.args.trace.now = omega arith in
    inside

pub returns : goal.returns
unfolding frames frame_at
returns c =
    let a = c.args in
    let first : ℕ = frame_words * a.t in
    let k : first + frame_words - first ≡ frame_words = omega arith in
    let whole = rw c.unwrap-samples.ensures at c.as_array.ensures.cases in
    let all : c.unwrap-samples.result.now ≡ cut frame_words a.trace.now first = whole.same ∙ rw k (cut-part frame_words a.trace.now first (omega arith)) in
    rw all refl
