-- Blocks of cycles, in which the failure list goes through a trace: their entries, and what is known of a block that was run. Assumes nothing.
use Rattle.std.specs.Prelude.{ℕ, zero, suc, ◌+◌, ◌*◌, ◌≤◌, ◌<◌, ◌≡◌, List, [], ◌++◌, length, get_or}
use Rattle.rules.specs.declared.config.Config.{Config}
use Rattle.rules.specs.Config.{Good}
use Rattle.rules.specs.Frame.{Trace}
use Rattle.rules.specs.Rules.{row, word_before}
use Rattle.trace.specs.Traces.{frames, frame_at}
use Rattle.listed.specs.Lists.{Entry, failures_at}
use Rattle.marked.specs.Picks.{block_cycles, Picks}
use Rattle.blocks.specs.declared.block.Cycle.{Cycle}

-- the entries of the m cycles from t on
unfoldable pub entries_from : Config → Trace → ℕ → ℕ → List Entry
entries_from c tr t zero = []
entries_from c tr t (suc m) = entries_from c tr t m ++ failures_at c tr (t + m)

-- so many entries they have; no cycle has more than 64
pub record Counted (c : Config) (tr : Trace) (t m count : ℕ) : Type 0 where
  pub is : count ≡ length (entries_from c tr t m)
  pub few : count ≤ 64 * m

-- where a pass over a trace stands: at cycle t, with the word before it
pub record Passing (c : Config) (trace : List ℕ) (t word : ℕ) : Type 0 where
  pub good : Good c
  pub short : frames trace ≤ 65536
  pub word_is : word ≡ word_before c (frame_at trace) t

-- a block that was run, the m cycles from t on: its rows and words, and the n rows that have mark 1 or 2
pub record Block (c : Config) (trace : List ℕ) (t m : ℕ) (rows words picked : List ℕ) (n : ℕ) : Type 0 where
  pub in_trace : t + m ≤ frames trace
  pub short : m ≤ block_cycles
  pub rows_are : (k : ℕ) → k < m → get_or rows k 0 ≡ row c (frame_at trace) (t + k)
  pub words_are : (k : ℕ) → k < m → get_or words k 0 ≡ word_before c (frame_at trace) (t + suc k)
  pub picks : Picks rows m picked n

-- the word before cycle k of a block: `word` before the first one
unfoldable pub word_in : ℕ → List ℕ → ℕ → ℕ
word_in word words zero = word
word_in word words (suc k) = get_or words k 0

-- cycle k of a block from t on: its number, the word before it, its frame and its row
pub record CycleIn (trace : List ℕ) (t word : ℕ) (rows words : List ℕ) (k : ℕ) (r : Cycle) : Type 0 where
  pub t_is : r.t ≡ t + k
  pub word_is : r.word ≡ word_in word words k
  pub frame_is : r.frame ≡ frame_at trace (t + k)
  pub row_is : r.row ≡ get_or rows k 0
