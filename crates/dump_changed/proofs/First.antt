-- Behind `$enddefinitions` nothing has changed yet: `follows-first`. Assumes nothing.
use mathlib.Core.Path.{◌≡◌, refl}
use mathlib.Core.List.{List, []}
use Prim.Native.Nat.{ℕ}
use native.Mathlib.Omega.{arith}
use lib.ListN.{length}
use Rattle.dump.specs.State.{State, with_changed, none_changed}
use Rattle.dump.specs.Connections.{Pair, at_first}
use Rattle.dump.specs.Load.{joined_frames, filled}
use Rattle.dump_valued.specs.Valued.{Holds}
use Rattle.dump_changed.specs.Changed.{Tabled, Framed, Follows}

pub framed-none : (lent : List ℕ) → Framed 0 lent lent []
unfolding filled joined_frames
framed-none lent = record { as_lent = refl; count_is = refl; fits = omega arith; whole = tt; frames_are = refl }

pub follows-first : (n : ℕ) (store digits lent : List ℕ) (table : List Pair) (s : State) (count : ℕ) → Tabled n store table s.declared → Holds 8450 8466 store (at_first table) → length digits ≡ 4096
    → Follows n (record { place = 20; identifier = s.identifier; dumping = 0; count = count; stamped = 0; stamp = 0; frames = 0 }) store digits lent lent table (with_changed s 20 (none_changed (at_first table)))
follows-first n store digits lent table s count tabled holds many = record {
  place_is = refl;
  identifier_is = refl;
  many = many;
  tabled = tabled;
  holds = holds;
  before = λ f. absurd (f refl);
  dumping_is = refl;
  stamped_is = refl;
  stamp_is = refl;
  framed = framed-none lent;
  vector_equals = λ e. absurd (omega arith);
}
