-- What holds between two words of the declarations, of the numbers and the store of a reader with this table. Assumes nothing.
use Rattle.std.specs.Prelude.{◌≡◌, List, ℕ, ◌+◌, ◌<◌, ◌≤◌, length, get_or}
use Rattle.dump_declare.specs.declared.head.Head.{Head}
use Rattle.dump.specs.Connections.{pairs, at_first}
use Rattle.dump_declared.specs.Declared.{declared_of, Sound}
use Rattle.dump_valued.specs.Valued.{Holds, Declares, Wired, Connected}

pub record Declaring (h : Head) (store wires : List ℕ) : Type 0 where
  pub sound : Sound h store
  pub wired : Wired store wires
  -- nothing is connected, and no wire has a value
  pub no_spans : (i : ℕ) → i < 1024 → get_or store (5120 + i) 0 ≡ 0
  pub no_values : (k : ℕ) → k < 18 → get_or store (8450 + k) 0 ≡ 0
  -- no width is above 4,096, nor is that of the variable that is declared
  pub narrow : (i : ℕ) → i < h.codes → get_or store (1024 + i) 0 ≤ 4096
  pub width : 9 ≤ h.place → h.place ≤ 12 → h.width ≤ 4096

-- a store in which nothing is declared, with the table
pub record Fresh (store wires : List ℕ) : Type 0 where
  pub long : length store ≡ 8468
  pub size : length wires ≡ 258
  pub below : (k : ℕ) → k < 8192 → get_or store k 0 ≡ 0
  pub wire_is : (k : ℕ) → k < 258 → get_or store (8192 + k) 0 ≡ get_or wires k 0
  pub behind : (k : ℕ) → k < 18 → get_or store (8450 + k) 0 ≡ 0

-- the store s behind the declarations: it has what `store` had, with the table connected, and no wire has a value yet
pub record Linked (h : Head) (store wires s : List ℕ) : Type 0 where
  pub long : length s ≡ 8468
  pub declares_them : Declares s h.codes (declared_of h store)
  pub connected : Connected s h.codes (declared_of h store) (pairs wires)
  pub holds : Holds 8450 8466 s (at_first (pairs wires))
  pub narrow : (i : ℕ) → i < h.codes → get_or s (1024 + i) 0 ≤ 4096
