-- The entries of one cycle, from the open word before it, and what the code that counts and writes them may go by. Assumes nothing.
use Rattle.std.specs.Prelude.{ℕ, suc, ◌<◌, ◌≡◌, List, ◌++◌, map, T}
use Rattle.rules.specs.declared.config.Config.{Config}
use Rattle.rules.specs.declared.frame.Frame.{Frame}
use Rattle.rules.specs.Config.{Good}
use Rattle.rules.specs.Step.{going_step_row}
use Rattle.rules.specs.Possible.{going_possible}
use Rattle.listed.specs.Lists.{Entry, entry, chosen}
use Rattle.listed.specs.Starts.{fails, starts_illegally, Placed}

-- the entries of a cycle
unfoldable pub step_entries : Config → ℕ → Frame → ℕ → List Entry
step_entries c w f t = map (entry t 1) (chosen (suc t) (fails c w f t)) ++ map (entry t 2) (chosen (suc t) (starts_illegally c w f t))

-- a cycle of a run that was not refused and has not failed, with its row
pub record Ready (c : Config) (w : ℕ) (f : Frame) (row t : ℕ) : Type 0 where
  pub good : Good c
  pub possible_word : T (going_possible c w)
  pub placed : Placed c w t
  pub row_is : row ≡ going_step_row c w f
  pub low : t < 65536
