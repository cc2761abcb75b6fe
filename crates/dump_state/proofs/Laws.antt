-- Laws of the state and of what a call tests, which the proofs of the calls cite. Assumes nothing.
use mathlib.Core.Path.{◌≡◌, refl, ◌∙◌, sym, ap}
use mathlib.Core.Bool.{Bool, true, false, cond}
use mathlib.Core.List.{List}
use Prim.Native.Nat.{ℕ, ◌≤◌}
use native.Mathlib.Omega.{arith}
use lib.Dec.{eqb}
use lib.ListN.{length, replicate}
use borrow.Author.Tests.{eq-eqb, ne_eqb}
use Rattle.std.specs.Prelude.{Result, Ok, Err}
use Rattle.rules.specs.declared.refusal.Refusal.{Refusal}
use Rattle.rules.specs.Refusals.{number_of, refusal_of}
use Rattle.rules.proofs.Refusals.{is-refused}
use Rattle.dump_reader.specs.declared.state.Reader.{Reader}
use Rattle.dump_load.specs.declared.answer.Loaded.{Loaded}
use Rattle.dump_load.specs.Loading.{fits, refused_with, first_reader, table_from}
use Rattle.dump_load.proofs.Laws.{fits-most}
use Rattle.dump_state.specs.declared.state.State.{State}
use Rattle.dump_state.specs.declared.state.Read.{Read}
use Rattle.dump_state.specs.Pieces.{first_state, begun, Given, answering, again, length_refusal, refusing, tested, Repeated}

-- BEGIN
pub first_made : (table : ℕ) (store : List ℕ) (r : Reader) → r ≡ first_reader
    → record { refusal = 0; table = table; frames = 0; line = 0; identifier = 0; reader = r; store = store; digits = replicate 4096 0 } ≡ first_state table store
first_made table store r e = rw e refl

pub begun-good : (wires store : List ℕ) (s : State) → length wires ≡ 258 → store ≡ table_from (replicate 8468 0) wires 0 258 → s ≡ first_state 0 store → s ≡ begun wires
unfolding begun
begun-good wires store s e f g = g ∙ rw (f, eq-eqb (length wires) 258 e) refl

pub begun-wrong : (wires : List ℕ) (s : State) → (length wires ≡ 258 → ⊥) → s ≡ first_state 1 (replicate 8468 0) → s ≡ begun wires
unfolding begun
begun-wrong wires s h g = g ∙ rw (ne_eqb (length wires) 258 h) refl

-- A REFUSAL BY LENGTH, in a piece or in the end
module _ (s : State) (frames : List ℕ) (free : s.refusal ≡ 0) where
  abbrev due : ℕ
  due = length_refusal s.table (length frames)

  pub tested-refuses : (reads : Given) → (due ≡ 0 → ⊥) → tested s frames reads ≡ record { read = refusing s due; frames = frames }
  unfolding tested
  tested-refuses reads h = rw (eq-eqb s.refusal 0 free, ne_eqb due 0 h) refl

  pub tested_reads : (reads : Given) → due ≡ 0 → tested s frames reads ≡ reads
  unfolding tested
  tested_reads reads h = rw (eq-eqb s.refusal 0 free, eq-eqb due 0 h) refl

-- and it stands
pub refusal-stands : (s t : State) (a : Loaded) (r : ℕ) → a ≡ refused_with r → t ≡ answering s a → record { state = t; answer = a } ≡ refusing s r
refusal-stands s t a r e f = rw (f, e) refl

-- A CALL, by its tests
pub fit-most : (table words : ℕ) (r : Result (Unit {0}) Refusal) (x : Unit {0}) → refusal_of r ≡ length_refusal table words → r ≡ Ok x → words ≤ 524288
unfolding length_refusal
fit-most table words r x e z = go (fits words) refl (sym e ∙ ap refusal_of z)
  where
    go : (t : Bool) → fits words ≡ t → ◌≡◌ {A = ℕ} (cond t (cond (eqb table 0) 0 5) 4) 0 → words ≤ 524288
    go true f q = fits-most words f
    go false f q = absurd (omega (arith, q))

abbrev pub Answers : Given → State → Read → List ℕ → List ℕ → Type 0
Answers g s r before after = (r ≡ g.read) × (after ≡ g.frames) × Repeated s r before after

module _ (s : State) (frames : List ℕ) (reads : Given) (r : Read) where
  pub answers-again : (s.refusal ≡ 0 → ⊥) → r ≡ again s → Answers (tested s frames reads) s r frames frames
  unfolding tested
  answers-again h e = rw (ne_eqb s.refusal 0 h) (e, refl, record { same_read = λ z. e; same_frames = λ z. refl })

  module _ (free : s.refusal ≡ 0) (d : Result (Unit {0}) Refusal) (e : refusal_of d ≡ length_refusal s.table (length frames)) where
    pub answers-refused : (x : Refusal) → d ≡ Err x → r ≡ refusing s (number_of x) → Answers (tested s frames reads) s r frames frames
    answers-refused x g f =
        let n : number_of x ≡ length_refusal s.table (length frames) = sym (ap refusal_of g) ∙ e in
        rw (tested-refuses s frames free reads (λ z. let o = is-refused x in omega (arith, o, n, z)), ← n) (f, refl, record { same_read = λ z. absurd (z free); same_frames = λ z. refl })

    pub answers-read : (x : Unit {0}) → d ≡ Ok x → (after : List ℕ) → r ≡ reads.read → after ≡ reads.frames → Answers (tested s frames reads) s r frames after
    answers-read x g after f h =
        rw (tested_reads s frames free reads (sym e ∙ ap refusal_of g)) (f, h, record { same_read = λ y. absurd (y free); same_frames = λ y. absurd (y free) })
