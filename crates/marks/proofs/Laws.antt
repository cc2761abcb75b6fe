-- A law of the first frames of a trace. Assumes nothing.
use mathlib.Core.Path.{◌≡◌}
use mathlib.Core.List.{List}
use Prim.Native.Nat.{ℕ, ◌*◌, ◌≤◌}
use native.Mathlib.Omega.{arith}
use lib.ListN.{length, take}
use lib.Seq.{length-take-le}
use Rattle.trace.specs.Traces.{frames}

-- the first n rows are as many as the frames of the first 8 n words
pub part-frames : (n : ℕ) (trace rows : List ℕ) → 8 * n ≤ length trace → n ≤ length rows → length (take n rows) ≡ frames (take (8 * n) trace)
unfolding frames
part-frames n trace rows h k =
    let r : length (take n rows) ≡ n = length-take-le n rows k in
    let t : length (take (8 * n) trace) ≡ 8 * n = length-take-le (8 * n) trace h in
    omega arith
