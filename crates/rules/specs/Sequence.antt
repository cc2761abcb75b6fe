-- Kinds 0 to 2, from document 01, "Cycle sequence", and document 02, §8. Assumes nothing.
use Rattle.std.specs.Prelude.{ℕ, suc, ◌+◌, ◌-◌, Bool, not, ◌&&◌, ◌||◌, leb, ltb, eqb}
use Rattle.bits.specs.Bits.{bit, some, every, number}
use Rattle.rules.specs.declared.config.Config.{Config}
use Rattle.rules.specs.declared.frame.Frame.{Frame}
use Rattle.rules.specs.Frame.{Trace, up, P, unknown_p}
use Rattle.rules.specs.Checks.{Checks, accepted}

-- event bit i is known to be 0, and is unknown
unfoldable pub event_missed : Config → Frame → ℕ → Bool
event_missed c f i = not (bit (P c f) i) && not (bit (unknown_p c f) i)

unfoldable pub event_unknown : Config → Frame → ℕ → Bool
event_unknown c f i = bit (unknown_p c f) i

module _ (c : Config) (tr : Trace) where
  -- event bit i is 1 in cycle t, which is out of reset
  unfoldable pub event : ℕ → ℕ → Bool
  event i t = up (tr t) && bit (P c (tr t)) i

  -- "It is alive through s+j when event bit n−1−i was 1 at s+i for each i from 0 to j, with no reset between." With k = j+1 for the number of
  -- events: the attempt from s is alive through s+k−1.
  unfoldable pub alive : ℕ → ℕ → Bool
  alive s k = every k (λ i. event (c.n - 1 - i) (s + i))

  -- In cycle t = s+j, j from 1 to n−1, the attempt from s is being tested when it was alive through s+j−1.
  unfoldable pub attempt_tested : ℕ → ℕ → Bool
  attempt_tested s t = ltb (t - s) c.n && alive s (t - s)

  -- In cycle t the attempt from s is tested on an event bit that is found to be so, where that has a mark: "Kinds 1 and 2 fail at s+j […] when the attempt was alive
  -- through s+j−1 and bit n−1−j is 0. Kind 0 fails only for j = n−1"; and "For kind 0 an unknown bit before the last event reads as 0, without mark".
  unfoldable pub attempt_finds : (Frame → ℕ → Bool) → ℕ → ℕ → Bool
  attempt_finds found s t =
      up (tr t) && attempt_tested s t && found (tr t) (c.n - 1 - (t - s)) && (not (eqb c.kind 0) || eqb (t - s) (c.n - 1))

  -- "An attempt starts at s when event bit n−1 is 1." "Kinds 0 and 1 accept every start. Kind 2 ignores a start in any cycle where an accepted attempt
  -- alive through the cycle before is still being tested, also its last cycle and also the cycle where it fails". "An unknown
  -- start or trigger bit, or one in a start comparison, is no start." "An unknown bit in a tested value is neither pass nor failure", and "ends that sequence attempt", which is then not alive.
  unfoldable pub sequence_checks : Checks
  sequence_checks = record {
    starts = λ s. event (c.n - 1) s;
    pending = attempt_tested;
    violated = attempt_finds (event_missed c);
    doubtful = attempt_finds (event_unknown c);
    ignores = eqb c.kind 2;
  }

  -- "Mark 4: […] kind 0 when an attempt is alive through s+n−2", that is in cycle t = s+n−2
  unfoldable pub most_seen : ℕ → Bool
  most_seen t = some (suc t) (λ s. accepted sequence_checks s && alive s (c.n - 1) && eqb (suc t) (s + (c.n - 1)))

  -- "Bit j of the open word after t, j from 0 to n−2, is 1 exactly when an accepted attempt from t−j is alive through t."
  unfoldable pub attempts : ℕ → ℕ
  attempts t = number (c.n - 1) (λ j. leb j t && accepted sequence_checks (t - j) && alive (t - j) (suc j))
