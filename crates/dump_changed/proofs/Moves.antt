-- Words after which only the place differs: `moved` and `unknown`. Assumes nothing.
use mathlib.Core.Path.{◌≡◌, refl}
use mathlib.Core.List.{List}
use Prim.Native.Nat.{ℕ}
use native.Mathlib.Omega.{arith}
use lib.ListN.{length}
use Rattle.dump.specs.State.{State, goto, undeclared}
use Rattle.dump.specs.Connections.{Pair}
use Rattle.dump_change.specs.declared.wave.Wave.{Wave}
use Rattle.dump_change.specs.Change as C
use Rattle.dump_changed.specs.Changed.{Follows}

-- where no vector's code is due, the digits are any
pub digits-any : (n : ℕ) (w : Wave) (store digits frames lent : List ℕ) (table : List Pair) (s : State) (other : List ℕ) → (w.place ≡ 21 → ⊥) → length other ≡ 4096
    → Follows n w store digits frames lent table s → Follows n w store other frames lent table s
digits-any n w store digits frames lent table s other out many h = record {
  place_is = h.place_is;
  identifier_is = h.identifier_is;
  many = many;
  tabled = h.tabled;
  holds = h.holds;
  before = h.before;
  dumping_is = h.dumping_is;
  stamped_is = h.stamped_is;
  stamp_is = h.stamp_is;
  framed = h.framed;
  vector_equals = λ e. absurd (out e);
}

module _ {n : ℕ} {w : Wave} {store digits frames lent : List ℕ} {table : List Pair} {s : State} (h : Follows n w store digits frames lent table s) where
  -- another word is due, or the word is refused
  pub moved : (m : ℕ) → (m ≡ 21 → ⊥) → Follows n (C.at w m) store digits frames lent table (goto s m)
  moved m out = record {
    place_is = refl;
    identifier_is = h.identifier_is;
    many = h.many;
    tabled = h.tabled;
    holds = h.holds;
    before = h.before;
    dumping_is = h.dumping_is;
    stamped_is = h.stamped_is;
    stamp_is = h.stamp_is;
    framed = h.framed;
    vector_equals = λ e. absurd (out e);
  }

  pub unknown : (x : ℕ) → Follows n (C.unknown_code w x) store digits frames lent table (undeclared s x)
  unknown x = record {
    place_is = refl;
    identifier_is = refl;
    many = h.many;
    tabled = h.tabled;
    holds = h.holds;
    before = h.before;
    dumping_is = h.dumping_is;
    stamped_is = h.stamped_is;
    stamp_is = h.stamp_is;
    framed = h.framed;
    vector_equals = λ e. absurd (omega arith);
  }

  pub ill : Follows n (C.at w 110) store digits frames lent table (goto s 110)
  ill = moved 110 (λ e. omega arith)

  pub long-code : Follows n (C.at w 112) store digits frames lent table (goto s 112)
  long-code = moved 112 (λ e. omega arith)
