-- What a reader answers before the end is what the words say that have ended: `meets-so-far`. Assumes nothing.
use mathlib.Core.Path.{◌≡◌, refl, ◌∙◌, sym, ap}
use mathlib.Core.Bool.{Bool, true, false, cond, ◌||◌}
use mathlib.Core.List.{List, [], ◌∷◌}
use Prim.Native.Nat.{ℕ, ◌-◌, ◌/◌, ◌^◌, ◌≤◌}
use native.Mathlib.Omega.{arith}
use lib.ListN.{length}
use borrow.Author.Tests.{le-leb, lt-leb}
use Rattle.dump.specs.Text.{blank}
use Rattle.dump.specs.State.{State}
use Rattle.dump.specs.Connections.{Pair, pairs}
use Rattle.dump.specs.Load as L
use Rattle.dump_gathered.specs.Gathered.{Bytes}
use Rattle.dump_changed.specs.Changed.{Framed}
use Rattle.dump_changed.proofs.First.{framed-none}
use Rattle.dump_reader.specs.Machine.{All, feed}
use Rattle.dump_read.proofs.Words.{M, m₀, closed, word_byte, fed, fed-words}
use Rattle.dump_read.proofs.Lines.{started_of}
use Rattle.dump_load.specs.Loading.{answered, first_all}
use Rattle.dump_load.proofs.Cores.{Core, all_of, not_refused}
use Rattle.dump_load.proofs.Between.{Live, in-declarations, in-changes, Dead, live-due}
use Rattle.dump_load.proofs.Bytes.{Alike, alive, gone, fed-alike}
use Rattle.dump_load.proofs.Meets.{Meets, dead-meets, alike-first}
use Rattle.dump_cut.specs.SoFar.{spaced, arrived, so_far}

-- THE WORDS THAT HAVE ENDED
false-true : false ≡ true → ⊥
false-true e = let z : ◌≡◌ {A = ℕ} 0 1 = ap (λ (b : Bool). cond b 1 0) e in omega (arith, z)

none-arrived : (bs : List ℕ) → spaced bs ≡ false → arrived bs ≡ []
unfolding arrived
none-arrived [] e = refl
none-arrived (b ∷ bs) e = rw e refl

or_left : (t u : Bool) → (t || u) ≡ false → t ≡ false
or_left true u e = e
or_left false u e = refl

or_right : (t u : Bool) → (t || u) ≡ false → u ≡ false
or_right true u e = absurd (false-true (sym e))
or_right false u e = e

or-first : (t u : Bool) → u ≡ false → (t || u) ≡ true → t ≡ true
or-first true u f e = refl
or-first false u f e = absurd (false-true (sym f ∙ e))

module _ (table : List Pair) (room : ℕ) where
  more-reading : (m : M) (b : ℕ) → blank b ≡ false → (word_byte table room m b).reading ≡ m.reading
  unfolding word_byte
  more-reading m b e = rw e refl

  blank-closed : (m : M) (b : ℕ) → blank b ≡ true → (word_byte table room m b).text ≡ []
  unfolding word_byte
  blank-closed m b e = rw e refl

  -- bytes without white space say nothing yet
  unspaced-reading : (bs : List ℕ) (m : M) → spaced bs ≡ false → (fed table room m bs).reading ≡ m.reading
  unfolding fed spaced
  unspaced-reading [] m e = refl
  unspaced-reading (b ∷ bs) m e = unspaced-reading bs (word_byte table room m b) (or_right (blank b) (spaced bs) e) ∙ more-reading m b (or_left (blank b) (spaced bs) e)

  arrived-reading : (bs : List ℕ) (m : M) → (fed table room m (arrived bs)).reading ≡ (fed table room m bs).reading
  unfolding fed arrived
  arrived-reading [] m = refl
  arrived-reading (b ∷ bs) m = go (spaced (b ∷ bs)) refl (arrived-reading bs (word_byte table room m b))
    where
      go : (t : Bool) → spaced (b ∷ bs) ≡ t → (fed table room (word_byte table room m b) (arrived bs)).reading ≡ (fed table room (word_byte table room m b) bs).reading
          → (fed table room m (cond t (b ∷ arrived bs) [])).reading ≡ (fed table room m (b ∷ bs)).reading
      go true e ih = ih
      go false e ih = sym (unspaced-reading (b ∷ bs) m e)

  -- behind white space no word is open
  spaced-closed : (bs : List ℕ) (m : M) → spaced bs ≡ true → (fed table room m (arrived bs)).text ≡ []
  unfolding fed arrived spaced
  spaced-closed [] m e = absurd (false-true e)
  spaced-closed (b ∷ bs) m e = rw e (go (spaced bs) refl (spaced-closed bs (word_byte table room m b)))
    where
      go : (t : Bool) → spaced bs ≡ t → (spaced bs ≡ true → (fed table room (word_byte table room m b) (arrived bs)).text ≡ []) → (fed table room (word_byte table room m b) (arrived bs)).text ≡ []
      go true f ih = ih f
      go false f ih = rw (none-arrived bs f) (blank-closed m b (or-first (blank b) (spaced bs) f e))

  arrived-closed : (bs : List ℕ) → (fed table room m₀ (arrived bs)).text ≡ []
  unfolding fed
  arrived-closed bs = go (spaced bs) refl
    where
      go : (t : Bool) → spaced bs ≡ t → (fed table room m₀ (arrived bs)).text ≡ []
      go true e = spaced-closed bs m₀ e
      go false e = rw (none-arrived bs e) refl

  closed_none : (m : M) → m.text ≡ [] → closed table room m ≡ m.reading
  unfolding closed
  closed_none m e = rw e refl

  arrived-words : (dump : List ℕ) → (fed table room m₀ dump).reading ≡ L.reading table room (arrived dump)
  arrived-words dump = sym (arrived-reading dump m₀) ∙ sym (closed_none (fed table room m₀ (arrived dump)) (arrived-closed dump)) ∙ fed-words table room (arrived dump)

-- THE ANSWER
live-framed : (wires lent : List ℕ) (c : Core) (s : State) → Live wires lent c s → Framed c.wave.frames c.frames lent s.changed.frames
live-framed wires lent c s (in-declarations d) = let g : s.changed.frames ≡ [] = ap (λ (z : State). z.changed.frames) d.state-is in rw (d.no_frames, d.frames_are, g) (framed-none lent)
live-framed wires lent c s (in-changes d) = d.follows.framed

module _ (wires lent : List ℕ) where
  alive-so-far : (c : Core) (q : List ℕ) (r : L.Reading) → Live wires lent c r.state → Meets lent (all_of c q) (so_far r)
  unfolding answered
  alive-so-far c q r h =
      let (l, m) = live-due wires lent c r.state h in
      let f : Framed c.wave.frames c.frames lent r.state.changed.frames = live-framed wires lent c r.state h in
      rw (lt-leb 100 r.state.place m) (record { answer_is = rw (not_refused c l q, f.count_is); frames_are = f.frames_are })

  gone-so-far : (c : Core) (r : L.Reading) → Dead lent c r → Meets lent (all_of c []) (so_far r)
  gone-so-far c r d = let h : 100 ≤ r.state.place = omega (arith, d.low, d.place_is) in rw (le-leb 100 r.state.place h) (dead-meets lent c r d)

  alike-so-far : (a : All) (m : M) (s : ℕ) → Alike wires lent a m s → Meets lent a (so_far m.reading)
  alike-so-far a m s (alive h) = rw h.all-is (alive-so-far h.core m.text m.reading h.lives)
  alike-so-far a m s (gone h) = rw h.all-is (gone-so-far h.core m.reading h.is-dead)

  pub meets-so-far : (dump : List ℕ) → Bytes dump → length dump ≤ 2 ^ 64 - 2 → length wires ≡ 258
      → Meets lent (feed (first_all wires lent) dump) (so_far (L.reading (pairs wires) (length lent / 8) (arrived dump)))
  meets-so-far dump g l e =
      rw (← arrived-words (pairs wires) (length lent / 8) dump)
      (alike-so-far (feed (first_all wires lent) dump) (fed (pairs wires) (length lent / 8) m₀ dump) (started_of 0 dump) (fed-alike wires lent dump (first_all wires lent) m₀ 0 g (omega arith) (alike-first wires lent e)))
