-- Which open words are possible, the refusal of another to go on from, and how many checks one says are unfinished, from document 01 and document 02, §4,
-- §7 and §8. Assumes nothing.
use Rattle.std.specs.Prelude.{ℕ, suc, ◌-◌, ◌^◌, ◌<◌, ◌≤◌, ◌≡◌, Bool, false, not, ◌&&◌, ◌||◌, cond, leb, ltb, eqb}
use Rattle.std.specs.Int.Count.{ones}
use Rattle.bus.specs.Range.{width}
use Rattle.rules.specs.declared.config.Config.{Config}
use Rattle.rules.specs.Config.{Family, family, fatal, config_refusal}
use Rattle.rules.specs.Config.Family.{sequence, time, transition, value, stability, none}
use Rattle.rules.specs.Frame.{Trace, Proper}
use Rattle.rules.specs.Rules.{going_row, going_word, failing, stopped_word, word}
use Rattle.rules.specs.Step.{left_in, holds, reference_in}

-- kind 8: 1 to max cycles left without a reference, for min 0 where the tracked value was unknown; or 1 to max−min with a reference below 2^width(P)
unfoldable pub without_reference : Config → ℕ → Bool
without_reference c w = leb w c.n

unfoldable pub with_a_reference : Config → ℕ → Bool
with_a_reference c w = holds w && (ltb 0 (left_in w) && leb (left_in w) (c.n - c.min)) && ltb (reference_in w) (2 ^ width c.p)

-- "A word is possible when: kinds 0 and 1, below 2^(n−1); kind 2, also at most one bit set; kinds 3 to 5, at most n; kind 6, 0 or 2^32 plus a value
-- that fits the width." Of kinds 7 and 8 "a word is possible exactly when some trace leaves it": `words-possible` and `possible-left` of
-- `proofs/Claims.antt`.
unfoldable pub possible_of : Family → Config → ℕ → Bool
possible_of sequence c w = ltb w (2 ^ (c.n - 1)) && (not (eqb c.kind 2) || leb (ones w) 1)
possible_of time c w = leb w c.n
possible_of transition c w = eqb w 0 || (leb (2 ^ 32) w && ltb (w - 2 ^ 32) (2 ^ width c.p))
possible_of value c w = leb w c.n
possible_of stability c w = eqb w 0 || without_reference c w || with_a_reference c w
possible_of none c w = false

-- of a checker that goes on
unfoldable pub going_possible : Config → ℕ → Bool
going_possible c w = possible_of (family c.kind) c w

-- "2^63 is possible exactly for a fatal checker that can fail (all but kind 8 with min equal to max)"
unfoldable pub can_fail : Config → Bool
can_fail c = not (eqb c.kind 8 && eqb c.min c.n)

unfoldable pub possible : Config → ℕ → Bool
possible c w = going_possible c w || (fatal c && can_fail c && eqb w stopped_word)

-- "7: the word to go on from is not possible"; tested "by number", so after 1 to 3
unfoldable pub word_refusal : Config → ℕ → ℕ
word_refusal c w = cond (eqb (config_refusal c) 0) (cond (possible c w) 0 7) (config_refusal c)

-- "Some trace leaves each such word": the word is the open word after some cycle of some trace of at most 65,536 frames
pub record Left (c : Config) (w : ℕ) : Type 0 where
  pub trace : Trace
  pub cycle : ℕ
  pub short : cycle < 65536
  pub proper : (t : ℕ) → Proper (trace t)
  pub leaves : word c trace cycle ≡ w

-- the same of a checker that goes on, by a trace in which nothing fails up to that cycle, so that a fatal checker leaves the word too; a word other than 0 with room for a
-- frame more
pub record LeftPassing (c : Config) (w : ℕ) : Type 0 where
  pub trace : Trace
  pub cycle : ℕ
  pub short : cycle < 65536
  pub early : 0 < w → suc cycle < 65536
  pub proper : (t : ℕ) → Proper (trace t)
  pub leaves : going_word c trace cycle ≡ w
  pub passes : (t : ℕ) → t ≤ cycle → failing (going_row c trace t) ≡ false

-- "Open count of a possible word: the number of its ones for kinds 0 to 2, otherwise 1 when a check is unfinished, else 0."
unfoldable pub open_count_of : Family → ℕ → ℕ
open_count_of sequence w = ones w
open_count_of time w = cond (eqb w 0) 0 1
open_count_of transition w = cond (eqb w 0) 0 1
open_count_of value w = cond (eqb w 0) 0 1
open_count_of stability w = cond (eqb w 0) 0 1
open_count_of none w = 0

-- of 2^63 "its open count is 0"
unfoldable pub open_count : Config → ℕ → ℕ
open_count c w = cond (eqb w stopped_word) 0 (open_count_of (family c.kind) w)
