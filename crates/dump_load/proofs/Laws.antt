-- Laws that the proofs of the load cite. Assumes nothing.
use mathlib.Core.Path.{◌≡◌, refl, ◌∙◌, sym, ap}
use mathlib.Core.Bool.{Bool, true, false, cond, ◌&&◌}
use mathlib.Core.List.{List}
use Prim.Native.Nat.{ℕ, suc, ◌+◌, ◌-◌, ◌/◌, ◌%◌, ◌<◌, ◌≤◌}
use native.Mathlib.Omega.{arith}
use lib.Dec.{eqb, leb}
use borrow.Author.Tests.{eq-eqb, ne_eqb, eqb-true, leb-true}
use lib.ListN.{length, get_or, set, replicate}
use Rattle.trace.specs.Traces.{frames, trace_fits}
use Rattle.dump.specs.Connections.{pairs}
use Rattle.dump.specs.Load.{Answer, read, load, joined_frames, filled}
use Rattle.dump_reader.specs.declared.state.Reader.{Reader}
use Rattle.dump_reader.specs.Machine.{All, feed, finish}
use Rattle.dump_load.specs.declared.answer.Loaded.{Loaded}
use Rattle.dump_load.specs.Loading.{fits, refused_with, loaded_of, answered, first_reader, table_from, read_all}

-- the loop over the table: one more word, and none left
module _ (store wires : List ℕ) (k : ℕ) where
  pub table_more : k < 258 → table_from store wires k (258 - k) ≡ table_from (set store (8192 + k) (get_or wires k 0)) wires (k + 1) (258 - (k + 1))
  unfolding table_from
  table_more h =
      let one : k + 1 ≡ suc k = omega arith in
      let left : 258 - k ≡ suc (258 - (k + 1)) = omega arith in
      rw (left, one) refl

  pub table-end : 258 ≤ k → table_from store wires k (258 - k) ≡ store
  unfolding table_from
  table-end h = let none : 258 - k ≡ 0 = omega arith in rw none refl

false-true : false ≡ true → ⊥
false-true e = let z : ◌≡◌ {A = ℕ} 0 1 = ap (λ (b : Bool). cond b 1 0) e in omega (arith, z)

pub fits-most : (words : ℕ) → fits words ≡ true → words ≤ 524288
unfolding fits
fits-most words e = go (eqb (words % 8) 0) refl (leb (words / 8) 65536) refl e
  where
    go : (t : Bool) → eqb (words % 8) 0 ≡ t → (u : Bool) → leb (words / 8) 65536 ≡ u → cond (eqb (words % 8) 0) (leb (words / 8) 65536) false ≡ true → words ≤ 524288
    go true p true q h = omega (arith, eqb-true (words % 8) 0 p, leb-true (words / 8) 65536 q)
    go true p false q h = absurd (false-true (sym q ∙ sym (simp p) ∙ h))
    go false p u q h = absurd (false-true (sym (simp p) ∙ h))

-- begin, one piece, end
module _ (dump wires frames : List ℕ) (r : Reader) (store digits : List ℕ) (er : r ≡ first_reader) (es : store ≡ table_from (replicate 8468 0) wires 0 258) (ed : digits ≡ replicate 4096 0)
    (s t : All) (fed : s ≡ feed (record { reader = r; store = store; digits = digits; frames = frames }) dump) (ends : t ≡ finish s) where
  all : t ≡ read_all dump wires frames
  unfolding read_all
  all = ends ∙ ap finish (fed ∙ rw (er, es, ed) refl)

  pub answers : (a : Loaded) → a ≡ answered t.reader → a ≡ answered (read_all dump wires frames).reader
  answers a e = e ∙ ap (λ (x : All). answered x.reader) all

  pub leaves : t.frames ≡ (read_all dump wires frames).frames
  leaves = ap (λ (x : All). x.frames) all

-- THE CALL: the two refusals by length, and what is read
pub same-fit : (lent : List ℕ) → trace_fits lent ≡ fits (length lent)
unfolding trace_fits frames fits
same-fit lent = go (eqb (length lent % 8) 0) (leb (length lent / 8) 65536)
  where
    go : (s t : Bool) → (s && t) ≡ cond s t false
    go true t = refl
    go false t = refl

module _ (dump wires lent : List ℕ) where
  pub wrong-frames : fits (length lent) ≡ false → (refused_with 4 ≡ loaded_of (load dump wires lent)) × (lent ≡ filled (load dump wires lent).frames lent)
  unfolding load filled joined_frames
  wrong-frames e = let f : trace_fits lent ≡ false = same-fit lent ∙ e in rw f (refl, refl)

  pub wrong-table : fits (length lent) ≡ true → (length wires ≡ 258 → ⊥) → (refused_with 5 ≡ loaded_of (load dump wires lent)) × (lent ≡ filled (load dump wires lent).frames lent)
  unfolding load filled joined_frames
  wrong-table e h = let f : trace_fits lent ≡ true = same-fit lent ∙ e in rw (f, ne_eqb (length wires) 258 h) (refl, refl)

  good-call : fits (length lent) ≡ true → length wires ≡ 258 → load dump wires lent ≡ read (pairs wires) (length lent / 8) dump
  unfolding load
  good-call e h = let f : trace_fits lent ≡ true = same-fit lent ∙ e in rw (f, eq-eqb (length wires) 258 h) refl

  pub good-answer : fits (length lent) ≡ true → length wires ≡ 258 → (a : Loaded) → a ≡ loaded_of (read (pairs wires) (length lent / 8) dump) → a ≡ loaded_of (load dump wires lent)
  good-answer e h a p = p ∙ ap loaded_of (sym (good-call e h))

  pub good-frames : fits (length lent) ≡ true → length wires ≡ 258 → (fs : List ℕ) → fs ≡ filled (read (pairs wires) (length lent / 8) dump).frames lent → fs ≡ filled (load dump wires lent).frames lent
  good-frames e h fs p = p ∙ ap (λ (x : Answer). filled x.frames lent) (sym (good-call e h))
