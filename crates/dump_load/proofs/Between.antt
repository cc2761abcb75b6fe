-- What holds between two words of the reader's numbers and the definition's state, and that a word's end keeps it: `end_live`. Assumes nothing.
--
-- The text is in the declarations, in the changes, or refused.
-- In the declarations the state is read off the numbers and the store; the `$end` of `$enddefinitions` connects the table.
use mathlib.Core.Path.{◌≡◌, refl, ◌∙◌, sym, ap}
use mathlib.Core.Bool.{Bool, true, false, cond}
use mathlib.Core.List.{List, ◌∷◌}
use mathlib.Core.Logic.{◌⊎◌, inl, inr}
use Prim.Native.Nat.{ℕ, ◌/◌, ◌<◌, ◌≤◌}
use native.Mathlib.Omega.{arith}
use lib.Dec.{eqb}
use lib.ListN.{length}
use borrow.Author.Tests.{eqb-true, eqb-false, eq-eqb, ne_eqb, lt-leb}
use Rattle.dump.specs.Text.{is_end}
use Rattle.dump.specs.State.{State, none_changed, with_changed, refuse, goto}
use Rattle.dump.specs.Connections.{pairs, good_table, at_first}
use Rattle.dump.specs.Changes.{on_last_end}
use Rattle.dump.specs.Load as L
use Rattle.dump_words.specs.Gather.{no_text, no_number}
use Rattle.dump_words.specs.declared.text.Text.{Text}
use Rattle.dump_gathered.specs.Gathered.{text_of, number_of, Bytes}
use Rattle.dump_find.specs.Find.{bounded}
use Rattle.dump_values.specs.Values.{connect_from}
use Rattle.dump_declare.specs.declared.head.Head.{Head}
use Rattle.dump_declare.specs.Declare as D
use Rattle.dump_declared.specs.Declared.{state_of, declared_of}
use Rattle.dump_declared.proofs.Commands.{end_is}
use Rattle.dump_declared.proofs.Lookup.{codes-bounded}
use Rattle.dump_declared.proofs.Sounds.{declared-stays}
use Rattle.dump_declared.proofs.Step.{declared-step}
use Rattle.dump_change.specs.declared.wave.Wave.{Wave}
use Rattle.dump_change.specs.Change as C
use Rattle.dump_changed.specs.Changed.{Framed, Follows, Spelled, Kept}
use Rattle.dump_changed.proofs.First.{framed-none, follows-first}
use Rattle.dump_changed.proofs.Moves.{digits-any}
use Rattle.dump_changed.proofs.Step.{changed-step}
use Rattle.dump_reader.specs.declared.word.Word.{Word as Gathered}
use Rattle.dump_reader.specs.Machine.{first_wave, end_word, end_change, end_last, end_declaration, last_place, last_store}
use Rattle.dump_read.specs.Gathers.{word_of, digits_of, is_vector}
use Rattle.dump_read.specs.Declaring.{Declaring, Linked}
use Rattle.dump_read.proofs.Gathers.{word_kept, word-stamp, word-change, word-other, vector-class, vector-count, vector-wrong, vector-digits, digits-length, digits_same}
use Rattle.dump_read.proofs.Declaring.{declaring-step, last-good, last_end}
use Rattle.dump_load.proofs.Cores.{Core, due, end_core}
use Rattle.dump_load.proofs.Places.{Place, near, far, head-low, changed-stays}

-- BETWEEN TWO WORDS
pub record Declares (wires lent : List ℕ) (c : Core) (s : State) : Type 0 where
  pub low : c.head.place < 14
  pub state-is : s ≡ state_of c.head c.store
  pub declaring : Declaring c.head c.store wires
  pub many : length c.digits ≡ 4096
  pub frames_are : c.frames ≡ lent
  pub no_identifier : c.wave.identifier ≡ 0
  pub no_frames : c.wave.frames ≡ 0

pub record Changes (wires lent : List ℕ) (c : Core) (s : State) : Type 0 where
  pub head-is : c.head.place ≡ 20
  pub low : 20 ≤ c.wave.place
  pub high : c.wave.place ≤ 23
  pub few : bounded c.head.codes ≡ c.head.codes
  pub follows : Follows c.head.codes c.wave c.store c.digits c.frames lent (pairs wires) s

pub data Live (wires lent : List ℕ) (c : Core) (s : State) : Type 0 where
  in-declarations : Declares wires lent c s → Live wires lent c s
  in-changes : Changes wires lent c s → Live wires lent c s

pub record Dead (lent : List ℕ) (c : Core) (r : L.Reading) : Type 0 where
  pub low : 100 ≤ due c
  pub high : due c ≤ 116
  pub place_is : r.state.place ≡ due c
  pub identifier_is : r.state.identifier ≡ c.wave.identifier
  pub framed : Framed c.wave.frames c.frames lent r.state.changed.frames
  pub line_is : r.line ≡ c.shown

pub data Between (wires lent : List ℕ) (c : Core) (r : L.Reading) : Type 0 where
  live : Live wires lent c r.state → Between wires lent c r
  dead : Dead lent c r → Between wires lent c r

-- what is live is not refused, on either side
pub live-due : (wires lent : List ℕ) (c : Core) (s : State) → Live wires lent c s → (due c < 100) × (s.place < 100)
live-due wires lent c s (in-declarations d) =
    let e : s.place ≡ c.head.place = ap (λ (z : State). z.place) d.state-is in
    rw (ne_eqb c.head.place 20 (λ z. omega arith)) (omega arith, omega arith)
live-due wires lent c s (in-changes d) = rw (eq-eqb c.head.place 20 d.head-is) (omega arith, omega (arith, d.follows.place_is))

module _ (wires lent : List ℕ) (c : Core) (b : ℕ) (v : List ℕ) (bytes : Bytes (b ∷ v)) where
  abbrev room : ℕ
  room = length lent / 8

  -- the reading behind the word, as what is live shows it
  abbrev after : State → L.Reading
  after s = record { state = L.step (pairs wires) room s (b ∷ v); line = c.line }

  -- IN THE DECLARATIONS
  module _ (s : State) (d : Declares wires lent c s) where
    abbrev h : Head
    h = c.head

    abbrev kept : Gathered
    kept = word_of h.place b v

    abbrev many : List ℕ
    many = digits_of h.place b v c.digits

    not-20 : eqb h.place 20 ≡ false
    not-20 = ne_eqb h.place 20 (λ z. omega (arith, d.low))

    -- a word before the last
    module _ (less : h.place < 13) where
      abbrev next : Head
      next = D.declaration_head h kept.text kept.number kept.scan c.store

      abbrev next_store : List ℕ
      next_store = D.declaration_store h kept.text kept.scan c.store

      abbrev declared : Core
      declared = record { line = c.line; started = c.started; shown = c.line; head = next; wave = c.wave; store = next_store; digits = many; frames = c.frames }

      declared-is : end_core c b v ≡ declared
      unfolding end_core end_word end_declaration
      declared-is = rw (not-20, ne_eqb h.place 13 (λ z. omega arith))

      says : L.step (pairs wires) room s (b ∷ v) ≡ state_of next next_store
      says = rw d.state-is (sym (declared-step (pairs wires) room h c.store b v kept.text kept.number kept.scan d.declaring.sound (word_kept h b v bytes (omega arith)) less))

      declared-between : Between wires lent declared (after s)
      declared-between = go (declared-stays h c.store kept.text kept.number kept.scan less)
        where
          go : (next.place < 14) ⊎ (100 ≤ next.place) → Between wires lent declared (after s)
          go (inl l) =
              live
              (in-declarations
              (record {
                low = l;
                state-is = says;
                declaring = declaring-step h c.store wires kept.text kept.number kept.scan d.declaring;
                many = digits-length h.place b v c.digits ∙ d.many;
                frames_are = d.frames_are;
                no_identifier = d.no_identifier;
                no_frames = d.no_frames;
              }))
          go (inr l) =
              let out : due declared ≡ next.place = rw (ne_eqb next.place 20 (λ z. omega arith)) in
              let top : next.place ≤ 116 = head-low h (omega arith) kept.text kept.number kept.scan c.store in
              dead
              (record {
                low = rw out l;
                high = rw out top;
                place_is = ap (λ (z : State). z.place) says ∙ sym out;
                identifier_is = ap (λ (z : State). z.identifier) says ∙ sym d.no_identifier;
                framed = rw (d.no_frames, d.frames_are, ap (λ (z : State). z.changed.frames) says) (framed-none lent);
                line_is = refl;
              })

    -- the last: the `$end` of `$enddefinitions`
    module _ (last : h.place ≡ 13) where
      abbrev t : Text
      t = text_of no_text (b ∷ v)

      abbrev last_core : ℕ → List ℕ → Core
      last_core place store = record { line = c.line; started = c.started; shown = c.line; head = D.at h place; wave = first_wave; store = store; digits = many; frames = c.frames }

      text_equals : kept.text ≡ t
      text_equals = ap (λ (w : Gathered). w.text) (word-other h.place b v (λ z. omega arith) (λ z. omega arith) (λ z. omega arith) (λ z. omega arith))

      last-is : end_core c b v ≡ last_core (last_place h t c.store) (last_store h t c.store)
      unfolding end_core end_word end_last
      last-is = rw (not-20, eq-eqb h.place 13 last, text_equals)

      due-is : (k : ℕ) → eqb h.place k ≡ eqb 13 k
      due-is k = ap (λ (m : ℕ). eqb m k) last

      last_says : L.step (pairs wires) room s (b ∷ v) ≡ on_last_end (pairs wires) room (state_of h c.store) (b ∷ v)
      unfolding L.step
      last_says = rw d.state-is (simp due-is)

      -- refused: nothing has changed
      none : (place : ℕ) (store : List ℕ) → 100 ≤ place → place ≤ 116 → eqb place 20 ≡ false → Between wires lent (last_core place store) (record { state = goto (state_of h c.store) place; line = c.line })
      none place store l m e =
          let out : due (last_core place store) ≡ place = rw e in
          dead (record { low = rw out l; high = rw out m; place_is = sym out; identifier_is = refl; framed = rw d.frames_are (framed-none lent); line_is = refl })

      connected : good_table (declared_of h c.store) (pairs wires) ≡ true
          → Between wires lent (last_core 20 (connect_from c.store (bounded h.codes) 0 129)) (record { state = with_changed (state_of h c.store) 20 (none_changed (at_first (pairs wires))); line = c.line })
      connected good =
          let z : Linked h c.store wires (connect_from c.store (bounded h.codes) 0 129) = last_end h c.store wires d.declaring good in
          live
          (in-changes
          (record {
            head-is = refl;
            low = omega arith;
            high = omega arith;
            few = codes-bounded h c.store d.declaring.sound;
            follows =
                rw d.frames_are
                (follows-first h.codes (connect_from c.store (bounded h.codes) 0 129) many lent (pairs wires) (state_of h c.store) 0 (record { long = z.long; declares = z.declares_them; connected = z.connected; narrow = z.narrow }) z.holds
                (digits-length h.place b v c.digits ∙ d.many));
          }))

      abbrev Last : Bool → Bool → Type 0
      Last x y =
          Between wires lent (last_core (cond x (cond y 20 113) 110) (cond (eqb (cond x (cond y 20 113) 110) 20) (connect_from c.store (bounded h.codes) 0 129) c.store))
          (record { state = cond x (cond y (with_changed (state_of h c.store) 20 (none_changed (at_first (pairs wires)))) (refuse (state_of h c.store) 13)) (refuse (state_of h c.store) 10); line = c.line })

      last-cases : Last (is_end (b ∷ v)) (good_table (declared_of h c.store) (pairs wires))
      last-cases = go (is_end (b ∷ v)) (good_table (declared_of h c.store) (pairs wires)) refl
        where
          go : (x y : Bool) → good_table (declared_of h c.store) (pairs wires) ≡ y → Last x y
          go true true e = connected e
          go true false e = none 113 c.store (omega arith) (omega arith) refl
          go false y e = none 110 c.store (omega arith) (omega arith) refl

      last-between : Between wires lent (last_core (last_place h t c.store) (last_store h t c.store)) (after s)
      unfolding last_place last_store on_last_end
      last-between = rw (last_says, end_is h c.store (b ∷ v) bytes, last-good h c.store wires d.declaring) last-cases

    declares-end : Between wires lent (end_core c b v) (after s)
    declares-end = go (eqb h.place 13) refl
      where
        go : (x : Bool) → eqb h.place 13 ≡ x → Between wires lent (end_core c b v) (after s)
        go true e = rw (last-is (eqb-true h.place 13 e)) (last-between (eqb-true h.place 13 e))
        go false e = let l : h.place < 13 = omega (arith, eqb-false h.place 13 e, d.low) in rw (declared-is l) (declared-between l)

  -- IN THE CHANGES
  module _ (s : State) (d : Changes wires lent c s) where
    abbrev w : Wave
    w = c.wave

    abbrev n : ℕ
    n = c.head.codes

    abbrev word : Gathered
    word = word_of w.place b v

    abbrev spelled : List ℕ
    spelled = digits_of w.place b v c.digits

    abbrev changed : Core
    changed =
        record { line = c.line; started = c.started; shown = c.line; head = c.head; wave = C.word_wave w word.class word.text word.number word.count word.wrong n c.store c.frames; store = C.word_store w word.class word.text word.number n c.store spelled c.frames; digits = spelled; frames = C.word_frames w word.class word.number c.store c.frames }

    changed-is : end_core c b v ≡ changed
    unfolding end_core end_word end_change
    changed-is = rw (eq-eqb c.head.place 20 d.head-is, d.few)

    -- what is kept of the word, by the word that is due
    at-stamp : (p : ℕ) → p ≡ 20 → b ≡ 35 → ((word_of p b v).class ≡ 2) × ((word_of p b v).number ≡ number_of no_number v)
    at-stamp p e f = rw (e, word-stamp b v f) (refl, refl)

    at-vector : (p : ℕ) → p ≡ 20 → is_vector b ≡ true → ((word_of p b v).class ≡ 4) × Spelled v (word_of p b v).count (word_of p b v).wrong (digits_of p b v c.digits)
    at-vector p e f = rw e (vector-class b v f, record { count_is = vector-count b v f; wrong_is = vector-wrong b v f; digits_are = vector-digits b v f c.digits d.follows.many })

    at_other : (p : ℕ) → p ≡ 20 → (b ≡ 35 → ⊥) → is_vector b ≡ false → ((word_of p b v).class ≡ 1) × ((word_of p b v).text ≡ text_of no_text (b ∷ v))
    at_other p e f g = rw (e, word-change b v (ne_eqb b 35 f) g) (refl, refl)

    whole : (p : ℕ) → 20 ≤ p → (p ≡ 20 → ⊥) → ((word_of p b v).class ≡ 1) × ((word_of p b v).text ≡ text_of no_text (b ∷ v))
    whole p l f = rw (word-other p b v f (λ z. omega arith) (λ z. omega arith) (λ z. omega arith)) (refl, refl)

    kept_is : Kept w.place b v word.class word.text word.number word.count word.wrong spelled
    kept_is = record {
      bytes = bytes;
      stamp_is = at-stamp w.place;
      vector_equals = at-vector w.place;
      other_is = at_other w.place;
      text_equals = λ f. (whole w.place d.low f).1;
    }

    -- only a vector changes the digits, and it is none where a vector's code is due
    follows-spelled : Follows n w c.store spelled c.frames lent (pairs wires) s
    follows-spelled = go (eqb w.place 20) refl
      where
        go : (x : Bool) → eqb w.place 20 ≡ x → Follows n w c.store spelled c.frames lent (pairs wires) s
        go true e = let f : w.place ≡ 20 = eqb-true w.place 20 e in digits-any n w c.store c.digits c.frames lent (pairs wires) s spelled (λ z. omega arith) (digits-length w.place b v c.digits ∙ d.follows.many) d.follows
        go false e =
            let f : eqb word.class 4 ≡ false = ne_eqb word.class 4 (λ z. omega (arith, (whole w.place d.low (eqb-false w.place 20 e)).0)) in
            rw (digits_same w.place b v c.digits f) d.follows

    follows_next : Follows n changed.wave changed.store spelled changed.frames lent (pairs wires) (L.step (pairs wires) room s (b ∷ v))
    follows_next = changed-step follows-spelled kept_is d.low d.high

    changed-between : Between wires lent changed (after s)
    changed-between = go (changed-stays w d.low d.high word.text word.number n c.store c.frames word.class word.count word.wrong)
      where
        go : Place changed.wave.place → Between wires lent changed (after s)
        go (near l m) = live (in-changes (record { head-is = d.head-is; low = l; high = m; few = d.few; follows = follows_next }))
        go (far l m) =
            let out : due changed ≡ changed.wave.place = rw (eq-eqb c.head.place 20 d.head-is) in
            dead (record { low = rw out l; high = rw out m; place_is = follows_next.place_is ∙ sym out; identifier_is = follows_next.identifier_is; framed = follows_next.framed; line_is = refl })

    changes-end : Between wires lent (end_core c b v) (after s)
    changes-end = rw changed-is changed-between

  -- EITHER, with the definition's line
  pub end_live : (r : L.Reading) → Live wires lent c r.state → Between wires lent (end_core c b v) (L.read_word (pairs wires) room r (record { line = c.line; text = b ∷ v }))
  unfolding L.read_word
  end_live r l = rw (lt-leb 100 r.state.place (live-due wires lent c r.state l).1) (go l)
    where
      go : Live wires lent c r.state → Between wires lent (end_core c b v) (after r.state)
      go (in-declarations d) = declares-end r.state d
      go (in-changes d) = changes-end r.state d
