-- One byte, and then all of them: the reader and the definition, read byte by byte, stay alike: `fed-alike`. Assumes nothing.
use mathlib.Core.Path.{◌≡◌, refl, ◌∙◌, subst}
use mathlib.Core.Bool.{Bool, true, false, cond}
use mathlib.Core.List.{List, [], ◌∷◌, ◌++◌}
use Prim.Native.Nat.{ℕ, ◌+◌, ◌/◌, ◌<◌, ◌≤◌}
use native.Mathlib.Omega.{arith}
use lib.Dec.{eqb, ltb}
use lib.ListN.{length}
use borrow.Author.Tests.{ne_eqb, le-leb, lt-ltb, ltb-true}
use Rattle.dump.specs.Text.{blank, ended}
use Rattle.dump.specs.State.{State}
use Rattle.dump.specs.Connections.{Pair, pairs}
use Rattle.dump.specs.Load as L
use Rattle.dump_gathered.specs.Gathered.{Bytes}
use Rattle.dump_reader.specs.Machine.{All, place_of, refused, step, feed}
use Rattle.dump_read.proofs.Words.{M, closed_at, closed, word_byte, fed}
use Rattle.dump_read.proofs.Lines.{byte-line, started_by, started_of}
use Rattle.dump_load.proofs.Cores.{Core, due, all_of, end_core, lined_core, next_line, end_line, step-more, step-none, step-some}
use Rattle.dump_load.proofs.Between.{Live, in-declarations, in-changes, Dead, Between, live, dead, live-due, end_live}

-- REFUSED STAYS REFUSED, in the definition
module _ (table : List Pair) (room : ℕ) where
  pub refused-stays : (s : State) (w : List ℕ) → 100 ≤ s.place → L.step table room s w ≡ s
  unfolding L.step
  refused-stays s w h =
      rw (off 20 refl, off 21 refl, off 22 refl, off 23 refl, off 0 refl, off 1 refl, off 2 refl, off 3 refl, off 4 refl, off 5 refl, off 6 refl, off 7 refl, off 8 refl, off 9 refl, off 10 refl, off 11 refl, off 12 refl, off 13 refl)
    where
      off : (k : ℕ) → ltb k 100 ≡ true → eqb s.place k ≡ false
      off k e = ne_eqb s.place k (λ z. omega (arith, ltb-true k 100 e))

  pub dead-closed : (lent : List ℕ) (c : Core) (r : L.Reading) (l : ℕ) (q : List ℕ) → Dead lent c r → Dead lent c (closed_at table room r l q)
  unfolding L.read_word
  dead-closed lent c r l [] d = d
  dead-closed lent c r l (b ∷ v) d =
      let h : 100 ≤ r.state.place = omega (arith, d.low, d.place_is) in
      rw (refused-stays r.state (b ∷ v) h, le-leb 100 r.state.place h) d

-- A LINE'S END changes nothing between two words
pub lined-live : (wires lent : List ℕ) (c : Core) (s : State) (b : ℕ) → Live wires lent c s → Live wires lent (lined_core c b) s
unfolding lined_core
lined-live wires lent c s b (in-declarations d) =
    in-declarations (record { low = d.low; state-is = d.state-is; declaring = d.declaring; many = d.many; frames_are = d.frames_are; no_identifier = d.no_identifier; no_frames = d.no_frames })
lined-live wires lent c s b (in-changes d) = in-changes (record { head-is = d.head-is; low = d.low; high = d.high; few = d.few; follows = d.follows })

pub lined-dead : (lent : List ℕ) (c : Core) (r : L.Reading) (b : ℕ) → Dead lent c r → Dead lent (lined_core c b) r
unfolding lined_core
lined-dead lent c r b d = record { low = d.low; high = d.high; place_is = d.place_is; identifier_is = d.identifier_is; framed = d.framed; line_is = d.line_is }

-- BETWEEN TWO BYTES: s says what the last white space was
pub record Alive (wires lent : List ℕ) (a : All) (m : M) (s : ℕ) : Type 0 where
  pub core : Core
  pub all-is : a ≡ all_of core m.text
  pub lives : Live wires lent core m.reading.state
  pub line_is : core.line ≡ m.line
  pub started-is : core.started ≡ s
  pub bytes : Bytes m.text

pub record Gone (lent : List ℕ) (a : All) (m : M) : Type 0 where
  pub core : Core
  pub all-is : a ≡ all_of core []
  pub is-dead : Dead lent core m.reading

pub data Alike (wires lent : List ℕ) (a : All) (m : M) (s : ℕ) : Type 0 where
  alive : Alive wires lent a m s → Alike wires lent a m s
  gone : Gone lent a m → Alike wires lent a m s

bytes-snoc : (q : List ℕ) (b : ℕ) → Bytes q → b < 256 → Bytes (q ++ (b ∷ []))
bytes-snoc [] b h l = (l, tt)
bytes-snoc (x ∷ q) b (g, h) l = (g, bytes-snoc q b h l)

next-line : (l b : ℕ) → l < 18446744073709551615 → next_line l b ≡ ended b + l
next-line l b h = rw (lt-ltb l 18446744073709551615 h) (go (eqb b 10))
  where
    go : (t : Bool) → cond t (l + 1) l ≡ cond t 1 0 + l
    go true = omega arith
    go false = omega arith

module _ (wires lent : List ℕ) where
  abbrev room : ℕ
  room = length lent / 8

  abbrev table : List Pair
  table = pairs wires

  -- WHITE SPACE behind a word, and behind none
  module _ (b : ℕ) (white : blank b ≡ true) (l : ℕ) (least : l < 18446744073709551615) (s : ℕ) where
    abbrev Behind : Core → L.Reading → Type 0
    Behind c r = Alike wires lent (all_of (lined_core c b) []) (record { reading = r; text = []; line = ended b + l }) (cond (eqb b 10) 0 1)

    lined-alike : (c : Core) (r : L.Reading) → c.line ≡ l → Between wires lent c r → Behind c r
    unfolding lined_core
    lined-alike c r e (live h) = alive (record { core = lined_core c b; all-is = refl; lives = lined-live wires lent c r.state b h; line_is = rw e (next-line l b least); started-is = refl; bytes = tt })
    lined-alike c r e (dead h) = gone (record { core = lined_core c b; all-is = refl; is-dead = lined-dead lent c r b h })

    abbrev Goes : L.Reading → List ℕ → Core → Type 0
    Goes r q c = Alike wires lent (step (all_of c q) b) (word_byte table room (record { reading = r; text = q; line = l }) b) (started_by s b)

    white-alike : (r : L.Reading) (q : List ℕ) (c : Core) → Live wires lent c r.state → c.line ≡ l → Bytes q → Goes r q c
    unfolding word_byte started_by closed
    white-alike r [] c h e g = rw (white, step-none c (live-due wires lent c r.state h).0 b white) (lined-alike c r e (live h))
    white-alike r (x ∷ v) c h e g =
        rw (white, step-some c (live-due wires lent c r.state h).0 x v b white)
        (lined-alike (end_core c x v) (L.read_word table room r (record { line = l; text = x ∷ v })) ((end_line c x v).0 ∙ e) (subst (λ (k : ℕ). Between wires lent (end_core c x v) (L.read_word table room r (record { line = k; text = x ∷ v }))) e (end_live wires lent c x v g r h)))

  -- ONE MORE BYTE of a word
  black-alike : (b : ℕ) → blank b ≡ false → b < 256 → (r : L.Reading) (q : List ℕ) (l s : ℕ) (c : Core) → Live wires lent c r.state → c.line ≡ l → c.started ≡ s → Bytes q
      → Alike wires lent (step (all_of c q) b) (word_byte table room (record { reading = r; text = q; line = l }) b) (started_by s b)
  unfolding word_byte started_by
  black-alike b black small r q l s c h e f g =
      rw (black, step-more c (live-due wires lent c r.state h).0 q b black) (alive (record { core = c; all-is = refl; lives = h; line_is = e; started-is = f; bytes = bytes-snoc q b g small }))

  gone-byte : (a : All) (m : M) (s b : ℕ) → Gone lent a m → Alike wires lent (step a b) (word_byte table room m b) (started_by s b)
  unfolding step refused place_of word_byte closed
  gone-byte a m s b h = rw (h.all-is, le-leb 100 (due h.core) h.is-dead.low) (gone (record { core = h.core; all-is = refl; is-dead = go (blank b) }))
    where
      go : (t : Bool) → Dead lent h.core (cond {A = M} t (record { reading = closed table room m; text = []; line = ended b + m.line }) (record { reading = m.reading; text = m.text ++ (b ∷ []); line = m.line })).reading
      go true = dead-closed table room lent h.core m.reading m.line m.text h.is-dead
      go false = h.is-dead

  one_byte : (a : All) (m : M) (s b : ℕ) → b < 256 → m.line < 18446744073709551615 → Alike wires lent a m s → Alike wires lent (step a b) (word_byte table room m b) (started_by s b)
  one_byte a m s b small least (gone h) = gone-byte a m s b h
  one_byte a m s b small least (alive h) = rw h.all-is (go (blank b) refl)
    where
      go : (t : Bool) → blank b ≡ t → Alike wires lent (step (all_of h.core m.text) b) (word_byte table room m b) (started_by s b)
      go true e = white-alike b e m.line least s m.reading m.text h.core h.lives h.line_is h.bytes
      go false e = black-alike b e small m.reading m.text m.line s h.core h.lives h.line_is h.started-is h.bytes

  -- ALL BYTES
  ended-most : (b : ℕ) → ended b ≤ 1
  ended-most b = go (eqb b 10)
    where
      go : (t : Bool) → cond t 1 0 ≤ 1
      go true = omega arith
      go false = omega arith

  pub fed-alike : (bs : List ℕ) (a : All) (m : M) (s : ℕ) → Bytes bs → m.line + length bs ≤ 18446744073709551615 → Alike wires lent a m s → Alike wires lent (feed a bs) (fed (pairs wires) (length lent / 8) m bs) (started_of s bs)
  unfolding feed fed started_of
  fed-alike [] a m s g l h = h
  fed-alike (b ∷ bs) a m s (x, g) l h =
      fed-alike bs (step a b) (word_byte table room m b) (started_by s b) g (omega (arith, byte-line table room m b, ended-most b)) (one_byte a m s b x (omega arith) h)
