-- `entries::entry::write_entry` meets its contract: three stores, one behind the other. Assumes nothing.
use Prim.Native.Nat.{ℕ, ◌+◌}
use mathlib.Core.Path.{refl, ap₂}
use native.Mathlib.Omega.{arith}
use native.Mathlib.Numerals.{add-one, add-two}
use lib.ListN.{set, length-set}
use Rattle.listed.specs.Lists.{words_of}
use Rattle.entries.proofs.entry.write_entry.Goals as goal

pub bounds-list-at-2 : goal.bounds-list-at-2
bounds-list-at-2 c = let a = c.args in omega (arith, c.requires, length-set a.list.now a.at a.t)

pub bounds-list-at-3 : goal.bounds-list-at-3
bounds-list-at-3 c =
    let a = c.args in
    omega (arith, c.requires, length-set (set a.list.now a.at a.t) (a.at + 1) a.mark, length-set a.list.now a.at a.t)

pub shape_of-list : goal.shape_of-list
shape_of-list c = simp length-set

pub returns : goal.returns
unfolding words_of
returns c =
    let a = c.args in
    record {
      next_is = refl;
      list_is = ap₂ (λ (i j : ℕ). set (set (set a.list.now a.at a.t) i a.mark) j a.start) (add-one a.at) (add-two a.at);
    }
