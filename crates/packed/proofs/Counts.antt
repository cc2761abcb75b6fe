-- The open count of a word is small. Assumes nothing.
use Prim.Native.Nat.{ℕ, ◌≤◌, ◌<◌, ◌^◌}
use mathlib.Core.Bool.{Bool, true, false, cond}
use native.Mathlib.Omega.{arith}
use lib.Dec.{eqb}
use lib.Count.{ones-le}
use Rattle.rules.specs.declared.config.Config.{Config}
use Rattle.rules.specs.Config.{Family, family}
use Rattle.rules.specs.Config.Family.{sequence, time, transition, value, stability, none}
use Rattle.rules.specs.Rules.{stopped_word}
use Rattle.rules.specs.Possible.{open_count, open_count_of, word_refusal}
use Rattle.checker.specs.Calls.{CountAnswer}

at_most_one : (b : Bool) → cond b 0 1 ≤ 64
at_most_one true = omega arith
at_most_one false = omega arith

count-of-low : (k : Family) (w : ℕ) → w < 2 ^ 64 → open_count_of k w ≤ 64
unfolding open_count_of
count-of-low sequence w h = ones-le 64 w h
count-of-low time w h = at_most_one (eqb w 0)
count-of-low transition w h = at_most_one (eqb w 0)
count-of-low value w h = at_most_one (eqb w 0)
count-of-low stability w h = at_most_one (eqb w 0)
count-of-low none w h = omega arith

pub count_low : (c : Config) (w refusal count : ℕ) → w < 2 ^ 64 → CountAnswer c w refusal count → count ≤ 64
unfolding open_count
count_low c w refusal count h a = rw a.count_is (by (eqb (word_refusal c w) 0) (eqb w stopped_word))
  where
    by : (b s : Bool) → cond b (cond s 0 (open_count_of (family c.kind) w)) 0 ≤ 64
    by true true = omega arith
    by true false = count-of-low (family c.kind) w h
    by false s = omega arith
