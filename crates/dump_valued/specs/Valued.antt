-- What a reader's store holds: the values of the definition, its declarations and its table. Assumes nothing.
use Rattle.std.specs.Prelude.{◌≡◌, List, ℕ, ◌+◌, ◌*◌, ◌/◌, ◌%◌, ◌<◌, ◌≤◌, length, get_or}
use Rattle.dump.specs.State.{Declared}
use Rattle.dump.specs.Declarations.{index_of}
use Rattle.dump.specs.Connections.{Pair, digit_place}
use Rattle.dump.specs.Changes.{word_of}
use Rattle.dump_find.specs.Find.{lookup}
use Rattle.dump_values.specs.Values.{span_end}

-- the values vs, each 0, 1 or 2: their frame in the words from `frame` on, the clock in word `clock`. 8450 and 8466 have the values now, 8458 and 8467 those before the stamp.
pub record Holds (frame clock : ℕ) (store vs : List ℕ) : Type 0 where
  pub size : length vs ≡ 129
  pub each : (e : ℕ) → get_or vs e 0 < 3
  pub clock_is : get_or store clock 0 ≡ get_or vs 0 2
  pub values_are : (w : ℕ) → w < 4 → get_or store (frame + w) 0 ≡ word_of (λ v. v % 2) vs w
  pub unknown_are : (w : ℕ) → w < 4 → get_or store (frame + 4 + w) 0 ≡ word_of (λ v. v / 2) vs w

-- the n declarations
pub record Declares (store : List ℕ) (n : ℕ) (d : Declared) : Type 0 where
  pub few : n ≤ 1024
  pub count : length d.codes ≡ n
  pub finds : (x : ℕ) → lookup store n x ≡ index_of d.codes x
  pub code_is : (i : ℕ) → i < n → get_or store i 0 ≡ get_or d.codes i 0
  pub width_is : (i : ℕ) → i < n → get_or store (1024 + i) 0 ≡ get_or d.widths i 0
  pub sort_is : (i : ℕ) → i < n → get_or store (2048 + i) 0 ≡ get_or d.sorts i 0
  pub left_is : (i : ℕ) → i < n → get_or store (3072 + i) 0 ≡ get_or d.lefts i 0
  pub right_is : (i : ℕ) → i < n → get_or store (4096 + i) 0 ≡ get_or d.rights i 0

-- the table as it is given
pub record Wired (store wires : List ℕ) : Type 0 where
  pub size : length wires ≡ 258
  pub wire_is : (k : ℕ) → k < 258 → get_or store (8192 + k) 0 ≡ get_or wires k 0

abbrev pub entry_at : List Pair → ℕ → Pair
entry_at table e = get_or table e (record { code = 0; index = 0 })

-- the table connected: of an entry with code 0 nothing is said but that; the span of a code's place has the entries of that code
pub record Connected (store : List ℕ) (n : ℕ) (d : Declared) (table : List Pair) : Type 0 where
  pub size : length table ≡ 129
  pub code_is : (e : ℕ) → e < 129 → get_or store (8192 + 2 * e) 0 ≡ (entry_at table e).code
  pub place_is : (e : ℕ) → e < 129 → 0 < (entry_at table e).code → get_or store (8193 + 2 * e) 0 ≡ digit_place d (entry_at table e)
  pub spans : (e i : ℕ) → e < 129 → 0 < (entry_at table e).code → index_of d.codes (entry_at table e).code ≡ i → i < n
      → (get_or store (5120 + i) 0 % 256 ≤ e) × (e < span_end (get_or store (5120 + i) 0))

-- the store t is s but for the words of the values now
pub record Kept (s t : List ℕ) : Type 0 where
  pub as_long : length t ≡ length s
  pub below : (k : ℕ) → k < 8450 → get_or t k 0 ≡ get_or s k 0
  pub before : (k : ℕ) → k < 8 → get_or t (8458 + k) 0 ≡ get_or s (8458 + k) 0
  pub clock : get_or t 8467 0 ≡ get_or s 8467 0
