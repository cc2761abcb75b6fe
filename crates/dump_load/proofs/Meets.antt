-- What the code computes of a dump is what document 02 says of it: `meets`. Assumes nothing.
--
-- Reader and definition are alike behind every byte; here they end alike.
-- The end ends a word that is open. Then it closes the last stamp where the text is complete, and else refuses with 10 and the line count.
use mathlib.Core.Path.{◌≡◌, refl, ◌∙◌, sym, ap, ap₂}
use mathlib.Core.Bool.{Bool, true, false, cond, not, ◌&&◌}
use mathlib.Core.List.{List, [], ◌∷◌}
use Prim.Native.Nat.{ℕ, ◌-◌, ◌/◌, ◌%◌, ◌^◌, ◌<◌, ◌≤◌}
use native.Mathlib.Omega.{arith}
use native.Mathlib.Nat.{mod-eq_of_lt}
use lib.Dec.{eqb}
use lib.ListN.{length, replicate, length-replicate}
use borrow.Author.Tests.{eqb-true, eq-eqb, ne_eqb, le-leb, lt-leb}
use Rattle.dump.specs.State.{State, refuse}
use Rattle.dump.specs.Connections.{Pair, pairs}
use Rattle.dump.specs.Changes as S
use Rattle.dump.specs.Load as L
use Rattle.dump_gathered.specs.Gathered.{Bytes}
use Rattle.dump_declare.specs.Declare as D
use Rattle.dump_declared.specs.Declared.{part}
use Rattle.dump_change.specs.declared.wave.Wave.{Wave}
use Rattle.dump_change.specs.Change as C
use Rattle.dump_changed.specs.Changed.{Framed, Follows}
use Rattle.dump_changed.proofs.First.{framed-none}
use Rattle.dump_changed.proofs.Stamps.{closed-end}
use Rattle.dump_reader.specs.Machine.{All, place_of, refused, feed, complete, unfinished, closing, finish_at, finish}
use Rattle.dump_read.specs.Declaring.{Fresh}
use Rattle.dump_read.proofs.Words.{M, m₀, closed, fed, fed-words}
use Rattle.dump_read.proofs.Lines.{started_of, count_of, count_is}
use Rattle.dump_read.proofs.Declaring.{declaring-start}
use Rattle.dump_load.specs.Loading.{answered, first_reader, first_all, table_from, read_all}
use Rattle.dump_load.proofs.Cores.{Core, due, all_of, end_core, not_refused, closed_none, closed_some, count_none, count-some}
use Rattle.dump_load.proofs.Places.{Place, near, far, closed-stays}
use Rattle.dump_load.proofs.Start.{fresh_start}
use Rattle.dump_load.proofs.Between.{Declares, Changes, Live, in-declarations, in-changes, Dead, Between, live, dead, live-due, end_live}
use Rattle.dump_load.proofs.Bytes.{Alike, alive, gone, dead-closed, fed-alike}

-- what the code answers and leaves, as the definition has it
pub record Meets (lent : List ℕ) (z : All) (a : L.Answer) : Type 0 where
  pub answer_is : answered z.reader ≡ record { refusal = a.refusal; frames = length a.frames; line = a.line; identifier = a.identifier }
  pub frames_are : z.frames ≡ L.filled a.frames lent

-- REFUSED
abbrev answer_to : L.Reading → L.Answer
answer_to r = record { refusal = r.state.place - 100; line = r.line; identifier = r.state.identifier; frames = r.state.changed.frames }

pub dead-meets : (lent : List ℕ) (c : Core) (r : L.Reading) → Dead lent c r → Meets lent (all_of c []) (answer_to r)
unfolding answered refused place_of
dead-meets lent c r d =
    let small : due c - 100 < 2 ^ 32 = omega (arith, d.high) in
    let e : (due c - 100) % 2 ^ 32 ≡ r.state.place - 100 = mod-eq_of_lt small ∙ ap (λ (k : ℕ). k - 100) (sym d.place_is) in
    record {
      answer_is = rw (le-leb 100 (due c) d.low, e, ← d.identifier_is, ← d.line_is, d.framed.count_is);
      frames_are = d.framed.frames_are;
    }

module _ (wires lent : List ℕ) (count : ℕ) where
  abbrev room : ℕ
  room = length lent / 8

  abbrev table : List Pair
  table = pairs wires

  abbrev answer_behind : L.Reading → L.Answer
  answer_behind r = L.answer_of table room count r (L.finish table room r.state)

  -- THE DEFINITION'S END
  finish-refused : (s : State) → 100 ≤ s.place → L.finish table room s ≡ s
  unfolding L.finish
  finish-refused s h = rw (le-leb 100 s.place h)

  finish-live : (s : State) → s.place < 100 → L.finish table room s ≡ cond (eqb s.place 20 && not s.changed.dumping) (S.closing table room s (λ z. z)) (refuse s 10)
  unfolding L.finish
  finish-live s h = rw (lt-leb 100 s.place h)

  -- refused before the end
  dead-answer : (c : Core) (r : L.Reading) → Dead lent c r → Meets lent (all_of c []) (answer_behind r)
  dead-answer c r d = let h : 100 ≤ r.state.place = omega (arith, d.low, d.place_is) in rw (finish-refused r.state h, le-leb 100 r.state.place h) (dead-meets lent c r d)

  -- THE END of what is live
  module _ (c : Core) (r : L.Reading) where
    abbrev s : State
    s = r.state

    -- the numbers behind the end
    abbrev ended_at : ℕ → Wave → List ℕ → Core
    ended_at place wave frames = record { line = c.line; started = c.started; shown = count; head = D.at c.head place; wave = wave; store = c.store; digits = c.digits; frames = frames }

    -- refused by it: the line is the line count
    shown : (z : State) (x : Core) → s.place < 100 → Dead lent x (record { state = z; line = count }) → Meets lent (all_of x []) (L.answer_of table room count r z)
    shown z x l d =
        let h : 100 ≤ z.place = omega (arith, d.low, d.place_is) in
        rw (lt-leb 100 s.place l, le-leb 100 z.place h) (dead-meets lent x (record { state = z; line = count }) d)

    -- not refused
    whole : (z : State) (x : Core) → due x < 100 → z.place < 100 → Framed x.wave.frames x.frames lent z.changed.frames → Meets lent (all_of x []) (L.answer_of table room count r z)
    unfolding answered
    whole z x l m f = rw (lt-leb 100 z.place m) (record { answer_is = rw (not_refused x l [], f.count_is); frames_are = f.frames_are })

    -- in the declarations
    declares-answer : Declares wires lent c s → Meets lent (finish_at (all_of c []) count) (answer_behind r)
    unfolding finish_at closing complete unfinished
    declares-answer d =
        let (l, m) = live-due wires lent c s (in-declarations d) in
        let p : s.place ≡ c.head.place = ap (λ (z : State). z.place) d.state-is in
        let q : eqb c.head.place 20 ≡ false = ne_eqb c.head.place 20 (λ z. omega (arith, d.low)) in
        let e : eqb s.place 20 ≡ false = ne_eqb s.place 20 (λ z. omega (arith, d.low)) in
        let f : L.finish table room s ≡ refuse s 10 = finish-live s m ∙ rw e in
        let i : s.identifier ≡ c.wave.identifier = ap (λ (z : State). z.identifier) d.state-is ∙ sym d.no_identifier in
        let g : s.changed.frames ≡ [] = ap (λ (z : State). z.changed.frames) d.state-is in
        rw (not_refused c l [], q, f)
        (shown (refuse s 10) (ended_at 110 c.wave c.frames) m
        (record { low = omega arith; high = omega arith; place_is = refl; identifier_is = i; framed = rw (d.no_frames, d.frames_are, g) (framed-none lent); line_is = refl }))

    -- in the changes: complete on both sides or on neither
    module _ (d : Changes wires lent c s) where
      abbrev w : Wave
      w = c.wave

      abbrev closes : Core
      closes = ended_at c.head.place (C.closed w c.store c.frames) (C.closed_frames w c.store c.frames)

      closed-answer : w.place ≡ 20 → Meets lent (all_of closes []) (L.answer_of table room count r (S.closing table room s (λ z. z)))
      closed-answer e =
          let (l, m) = live-due wires lent c s (in-changes d) in
          go m (closed-end d.follows e) (closed-stays w d.low d.high (record { length = 0; low = 0; high = 0; plain = 0 }) (record { value = 0; state = 0 }) 0 c.store c.frames)
        where
          go : s.place < 100 → Follows c.head.codes (C.closed w c.store c.frames) c.store c.digits (C.closed_frames w c.store c.frames) lent table (S.closing table room s (λ z. z))
              → Place (C.closed w c.store c.frames).place → Meets lent (all_of closes []) (L.answer_of table room count r (S.closing table room s (λ z. z)))
          go k f (near l m) =
              let out : due closes ≡ (C.closed w c.store c.frames).place = rw (eq-eqb c.head.place 20 d.head-is) in
              whole (S.closing table room s (λ z. z)) closes (rw out (omega arith)) (rw f.place_is (omega arith)) f.framed
          go k f (far l m) =
              let out : due closes ≡ (C.closed w c.store c.frames).place = rw (eq-eqb c.head.place 20 d.head-is) in
              shown (S.closing table room s (λ z. z)) closes k (record { low = rw out l; high = rw out m; place_is = f.place_is ∙ sym out; identifier_is = f.identifier_is; framed = f.framed; line_is = refl })

      broken-answer : Meets lent (all_of (ended_at 20 (C.at w 110) c.frames) []) (L.answer_of table room count r (refuse s 10))
      broken-answer =
          let (l, m) = live-due wires lent c s (in-changes d) in
          shown (refuse s 10) (ended_at 20 (C.at w 110) c.frames) m (record { low = omega arith; high = omega arith; place_is = refl; identifier_is = d.follows.identifier_is; framed = d.follows.framed; line_is = refl })

      same : (eqb s.place 20 && not s.changed.dumping) ≡ (eqb w.place 20 && not (not (eqb w.dumping 0)))
      same = ap₂ (λ (x y : Bool). x && not y) (ap (λ (k : ℕ). eqb k 20) d.follows.place_is) d.follows.dumping_is

      changes-answer : Meets lent (finish_at (all_of c []) count) (answer_behind r)
      unfolding finish_at closing complete unfinished
      changes-answer =
          let (l, m) = live-due wires lent c s (in-changes d) in
          rw (not_refused c l [], eq-eqb c.head.place 20 d.head-is, finish-live s m ∙ ap (λ (t : Bool). cond t (S.closing table room s (λ z. z)) (refuse s 10)) same) (go (eqb w.place 20) refl (eqb w.dumping 0))
        where
          go : (x : Bool) → eqb w.place 20 ≡ x → (y : Bool) → Meets lent (cond (x && y) (all_of closes []) (all_of (ended_at 20 (C.at w 110) c.frames) [])) (L.answer_of table room count r (cond (x && not (not y)) (S.closing table room s (λ z. z)) (refuse s 10)))
          go true e true = closed-answer (eqb-true w.place 20 e)
          go true e false = broken-answer
          go false e y = broken-answer

    between-answer : Between wires lent c r → Meets lent (finish_at (all_of c []) count) (answer_behind r)
    unfolding finish_at refused place_of
    between-answer (live (in-declarations d)) = declares-answer d
    between-answer (live (in-changes d)) = changes-answer d
    between-answer (dead d) = rw (le-leb 100 (due c) d.low) (dead-answer c r d)

-- THE END, with a word that is open or none
module _ (wires lent : List ℕ) where
  abbrev reading_of : M → L.Reading
  reading_of m = closed (pairs wires) (length lent / 8) m

  abbrev answer_at : ℕ → L.Reading → L.Answer
  answer_at count r = L.answer_of (pairs wires) (length lent / 8) count r (L.finish (pairs wires) (length lent / 8) r.state)

  alive-ends : (c : Core) (r : L.Reading) (q : List ℕ) (l : ℕ) → Live wires lent c r.state → c.line ≡ l → Bytes q
      → Meets lent (finish (all_of c q)) (answer_at (count_of (record { reading = r; text = q; line = l }) c.started) (reading_of (record { reading = r; text = q; line = l })))
  unfolding finish count_of closed
  alive-ends c r [] l h e g =
      rw (not_refused c (live-due wires lent c r.state h).0 [], closed_none c, count_none c, ← e) (between-answer wires lent (cond (eqb c.started 0) (c.line - 1) c.line) c r (live h))
  alive-ends c r (b ∷ v) l h e g =
      rw (not_refused c (live-due wires lent c r.state h).0 (b ∷ v), closed_some c b v, count-some c b v, ← e)
      (between-answer wires lent c.line (end_core c b v) (L.read_word (pairs wires) (length lent / 8) r (record { line = c.line; text = b ∷ v })) (end_live wires lent c b v g r h))

  gone-ends : (c : Core) (m : M) (count : ℕ) → Dead lent c m.reading → Meets lent (finish (all_of c [])) (answer_at count (reading_of m))
  unfolding finish refused place_of closed
  gone-ends c m count d = rw (le-leb 100 (due c) d.low) (dead-answer wires lent count c (reading_of m) (dead-closed (pairs wires) (length lent / 8) lent c m.reading m.line m.text d))

  ends : (a : All) (m : M) (s : ℕ) → Alike wires lent a m s → Meets lent (finish a) (answer_at (count_of m s) (reading_of m))
  ends a m s (alive h) = rw (h.all-is, ← h.started-is) (alive-ends h.core m.reading m.text m.line h.lives h.line_is h.bytes)
  ends a m s (gone h) = rw h.all-is (gone-ends h.core m (count_of m s) h.is-dead)

  -- THE START, with any store in which nothing is declared and any digits, so that none is computed
  module _ (store digits : List ℕ) (fresh : Fresh store wires) (many : length digits ≡ 4096) where
    abbrev first : Core
    first = record { line = 1; started = 0; shown = 0; head = D.commanded 0 0 0 0; wave = record { place = 0; identifier = 0; dumping = 0; count = 0; stamped = 0; stamp = 0; frames = 0 }; store = store; digits = digits; frames = lent }

    first-declares : Declares wires lent first m₀.reading.state
    unfolding part
    first-declares = record { low = omega arith; state-is = refl; declaring = declaring-start store wires fresh; many = many; frames_are = refl; no_identifier = refl; no_frames = refl }

    starts : Alike wires lent (record { reader = first_reader; store = store; digits = digits; frames = lent }) m₀ 0
    starts = alive (record { core = first; all-is = refl; lives = in-declarations first-declares; line_is = refl; started-is = refl; bytes = tt })

  pub alike-first : length wires ≡ 258 → Alike wires lent (first_all wires lent) m₀ 0
  alike-first e = starts (table_from (replicate 8468 0) wires 0 258) (replicate 4096 0) (fresh_start wires e) (length-replicate {A = ℕ} 4096 0)

  pub read_meets : (dump : List ℕ) → Bytes dump → length dump ≤ 2 ^ 64 - 2 → length wires ≡ 258 → Meets lent (read_all dump wires lent) (L.read (pairs wires) (length lent / 8) dump)
  unfolding read_all L.read
  read_meets dump g l e =
      rw (← count_is (pairs wires) (length lent / 8) dump, ← fed-words (pairs wires) (length lent / 8) dump)
      (ends (feed (first_all wires lent) dump) (fed (pairs wires) (length lent / 8) m₀ dump) (started_of 0 dump) (fed-alike wires lent dump (first_all wires lent) m₀ 0 g (omega arith) (alike-first e)))

-- THE THEOREM
pub meets : (dump wires lent : List ℕ) → Bytes dump → length dump ≤ 2 ^ 64 - 2 → length wires ≡ 258 → length lent ≤ 524288
    → let a = L.read (pairs wires) (length lent / 8) dump in
    (answered (read_all dump wires lent).reader ≡ record { refusal = a.refusal; frames = length a.frames; line = a.line; identifier = a.identifier })
    × ((read_all dump wires lent).frames ≡ L.filled a.frames lent)
meets dump wires lent g l e f = let m : Meets lent (read_all dump wires lent) (L.read (pairs wires) (length lent / 8) dump) = read_meets wires lent dump g l e in (m.answer_is, m.frames_are)
