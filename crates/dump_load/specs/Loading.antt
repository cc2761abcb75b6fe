-- A load as a machine over bytes: its first state, and what it answers. Assumes nothing.
use Rattle.std.specs.Prelude.{Bool, false, cond, List, ℕ, zero, suc, ◌+◌, ◌-◌, ◌/◌, ◌%◌, ◌^◌, eqb, leb, length, get_or, set, replicate}
use Rattle.dump.specs.Load.{Answer}
use Rattle.dump_declare.specs.Declare as D
use Rattle.dump_reader.specs.declared.state.Reader.{Reader}
use Rattle.dump_reader.specs.Machine.{All, no_word, place_of, refused, feed, finish}
use Rattle.dump_load.specs.declared.answer.Loaded.{Loaded}

-- frames that are a trace: a multiple of eight words, at most 65,536 frames
unfoldable pub fits : ℕ → Bool
fits words = cond (eqb (words % 8) 0) (leb (words / 8) 65536) false

abbrev pub refused_with : ℕ → Loaded
refused_with r = record { refusal = r; frames = 0; line = 0; identifier = 0 }

-- what the definition answers, as the struct that the call gives
abbrev pub loaded_of : Answer → Loaded
loaded_of a = record { refusal = a.refusal; frames = length a.frames; line = a.line; identifier = a.identifier }

unfoldable pub answered : Reader → Loaded
answered r =
    cond (refused r)
    (record { refusal = (place_of r - 100) % 2 ^ 32; frames = r.wave.frames; line = r.shown; identifier = r.wave.identifier })
    (record { refusal = 0; frames = r.wave.frames; line = 0; identifier = 0 })

abbrev pub first_reader : Reader
first_reader = record { line = 1; started = 0; shown = 0; word = no_word; head = D.commanded 0 0 0 0; wave = record { place = 0; identifier = 0; dumping = 0; count = 0; stamped = 0; stamp = 0; frames = 0 } }

-- the table of connections, from word k on
unfoldable pub table_from : List ℕ → List ℕ → ℕ → ℕ → List ℕ
table_from store wires k zero = store
table_from store wires k (suc m) = table_from (set store (8192 + k) (get_or wires k 0)) wires (suc k) m

abbrev pub first_all : List ℕ → List ℕ → All
first_all wires frames = record { reader = first_reader; store = table_from (replicate 8468 0) wires 0 258; digits = replicate 4096 0; frames = frames }

-- the whole text, and its end
unfoldable pub read_all : List ℕ → List ℕ → List ℕ → All
read_all dump wires frames = finish (feed (first_all wires frames) dump)
