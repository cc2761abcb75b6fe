-- What holds between two words of the declarations holds behind the next, `declaring-step`, and at `$end` of `$enddefinitions` it is what connects the table, `last_end`. Assumes nothing.
use mathlib.Core.Path.{◌≡◌, refl, ◌∙◌, sym}
use mathlib.Core.Bool.{Bool, true, false, cond}
use mathlib.Core.List.{List}
use Prim.Native.Nat.{ℕ, ◌+◌, ◌-◌, ◌<◌, ◌≤◌}
use native.Mathlib.Omega.{arith}
use lib.Dec.{eqb, ltb}
use lib.ListN.{length, get_or, set, length-set}
use lib.Seq.{get_or-set_same, get_or-set_other}
use borrow.Author.Tests.{eqb-true, eqb-false, ltb-true, ltb-false, lt-leb, ne_eqb}
use Rattle.dump.specs.State.{Declared}
use Rattle.dump.specs.Declarations.{index_of}
use Rattle.dump.specs.Connections.{pairs, good_table}
use Rattle.dump_words.specs.declared.text.Text.{Text}
use Rattle.dump_words.specs.declared.number.Number.{Number}
use Rattle.dump_words.specs.declared.scan.Scan.{Scan}
use Rattle.dump_words.specs.Gather.{text_in}
use Rattle.dump_find.specs.Find.{slot, bounded, lookup}
use Rattle.dump_values.specs.Values.{table_good, connect_from}
use Rattle.dump_valued.specs.Valued.{Declares}
use Rattle.dump_valued.proofs.Table.{table-good}
use Rattle.dump_valued.proofs.Connect.{connect-long, connect-declares, connect-connected, connect-holds}
use Rattle.dump_declare.specs.declared.head.Head.{Head}
use Rattle.dump_declare.specs.Declare as C
use Rattle.dump_declared.specs.Declared.{part, declared_of, Sound}
use Rattle.dump_declared.proofs.Parts.{get_d_part, getD-first, length_part}
use Rattle.dump_declared.proofs.Lookup.{codes-bounded, lookup-is-index}
use Rattle.dump_declared.proofs.Trees.{outside, in-command, in-var}
use Rattle.dump_declared.proofs.Sounds.{sound-step, sound-start}
use Rattle.dump_read.specs.Declaring.{Declaring, Fresh, Linked}

by_cases : {A : Type 0} (P : A → Type 0) {x y : A} (t : Bool) → (t ≡ true → P x) → (t ≡ false → P y) → P (cond t x y)
by_cases P true f g = f refl
by_cases P false f g = g refl

bounded-le : (n : ℕ) → bounded n ≤ 1024
unfolding bounded
bounded-le n = by_cases (λ (k : ℕ). k ≤ 1024) (ltb n 1024) (λ e. omega (arith, ltb-true n 1024 e)) (λ e. omega arith)

slot_lt : (x : ℕ) → slot x < 2048
unfolding slot
slot_lt x = omega arith

-- WHICH WORDS OF THE STORE a word of the declarations leaves as they are: those of the spans, and all behind the hints
module _ (h : Head) (store : List ℕ) (k : ℕ) (low : 5120 ≤ k) (aside : (j : ℕ) → j < 2048 → k ≡ 6144 + j → ⊥) where
  record Same (x : List ℕ) : Type 0 where
    same : get_or x k 0 ≡ get_or store k 0

  stays : Same store
  stays = record { same = refl }

  set_same : {x : List ℕ} (i v : ℕ) → (k ≡ i → ⊥) → Same x → Same (set x i v)
  set_same {x} i v n e = record { same = get_or-set_other x i k v 0 n ∙ e.same }

  again-same : (i : ℕ) → i < 1024 → Same (C.declare_again h i store)
  unfolding C.declare_again
  again-same i l =
      by_cases Same (eqb (get_or store (2048 + i) 0) 0)
      (λ e. by_cases Same (eqb h.ends 0) (λ f. stays)
      (λ f. set_same (4096 + i) h.right (λ z. omega arith) (set_same (3072 + i) h.left (λ z. omega arith) (set_same (2048 + i) 1 (λ z. omega arith) stays)))) (λ e. stays)

  new-same : (n : ℕ) → n < 1024 → Same (C.declare_new h n store)
  unfolding C.declare_new
  new-same n l =
      set_same (6144 + slot h.code) n (aside (slot h.code) (slot_lt h.code))
      (set_same (4096 + n) (C.right_of h) (λ z. omega arith)
      (set_same (3072 + n) (C.left_of h) (λ z. omega arith)
      (set_same (2048 + n) (C.sort_of h) (λ z. omega arith)
      (set_same (1024 + n) h.width (λ z. omega arith)
      (set_same n h.code (λ z. omega arith) stays)))))

  declared_same : Same (C.declared_store h store)
  unfolding C.declared_store
  declared_same =
      by_cases Same (ltb (C.found_at h store) (bounded h.codes))
      (λ e. again-same (C.found_at h store) (omega (arith, ltb-true (C.found_at h store) (bounded h.codes) e, bounded-le h.codes)))
      (λ e. by_cases Same (ltb (bounded h.codes) 1024) (λ f. new-same (bounded h.codes) (ltb-true (bounded h.codes) 1024 f)) (λ f. stays))

  whole_same : (t : Text) (s : Scan) → Same (C.declaration_store h t s store)
  unfolding C.declaration_store C.end_store
  whole_same t s =
      by_cases Same (ltb h.place 7) (λ e. stays)
      (λ e.
      by_cases Same (C.ends_var h s)
      (λ f. by_cases Same (C.is_end t) (λ g. by_cases Same (eqb h.misfit 0) (λ p. declared_same) (λ p. stays)) (λ g. stays))
      (λ f. stays))

  pub store_same : (t : Text) (s : Scan) → get_or (C.declaration_store h t s store) k 0 ≡ get_or store k 0
  store_same t s = (whole_same t s).same

-- THE WIDTH OF THE VARIABLE
abbrev Slim : Head → Type 0
Slim x = 9 ≤ x.place → x.place ≤ 12 → x.width ≤ 4096

away : (x : Head) → 12 < x.place → Slim x
away x k p q = absurd (omega arith)

-- a head outside of `$var`
out : (x : Head) → outside x.place ≡ true → Slim x
out x e p q =
    let z : ◌≡◌ {A = ℕ} 0 1 = cc (rw (lt-leb x.place 6 (omega arith), ne_eqb x.place 13 (λ f. omega arith), lt-leb 100 x.place (omega arith)) at e) in
    absurd (omega arith)

module _ (h : Head) (store : List ℕ) (t : Text) (n : Number) (s : Scan) (slim : Slim h) where
  gone : (p : ℕ) → 12 < p → Slim (C.at h p)
  gone p k = away (C.at h p) k

  type-slim : Slim (C.on_var_type h t)
  unfolding C.on_var_type
  type-slim =
      by_cases Slim (text_in t C.bit_types) (λ e p q. absurd (omega arith))
      (λ e. by_cases Slim (text_in t C.real_types) (λ f p q. absurd (omega arith)) (λ f. gone 110 (omega arith)))

  width-slim : Slim (C.on_width h n)
  unfolding C.on_width
  width-slim =
      by_cases Slim (eqb n.state 2) (λ e. gone 112 (omega arith))
      (λ e.
      by_cases Slim (eqb n.state 1)
      (λ f.
      by_cases Slim (eqb n.value 0) (λ g. gone 110 (omega arith))
      (λ g. by_cases Slim (ltb 4096 n.value) (λ r. gone 112 (omega arith)) (λ r p q. ltb-false 4096 n.value r)))
      (λ f. gone 110 (omega arith)))

  -- where the width is known
  module _ (small : h.width ≤ 4096) where
    code-slim : Slim (C.on_var_code h t store)
    unfolding C.on_var_code C.code_at
    code-slim =
        by_cases Slim (ltb 8 t.length) (λ e. gone 112 (omega arith))
        (λ e.
        by_cases Slim (C.is_end t) (λ f. gone 110 (omega arith))
        (λ f.
        by_cases Slim (eqb t.plain 1)
        (λ g.
        by_cases Slim (ltb (lookup store (bounded h.codes) t.low) (bounded h.codes))
        (λ r. by_cases Slim (C.agrees h store (lookup store (bounded h.codes) t.low)) (λ u p q. small) (λ u. gone 110 (omega arith))) (λ r p q. small))
        (λ g. gone 110 (omega arith))))

    name-with-slim : (k : ℕ) (l r : Number) → Slim (C.name_with h k l r)
    unfolding C.name_with
    name-with-slim k l r = by_cases Slim (C.numbers_fit h.width l r) (λ e p q. small) (λ e p q. small)

    name-slim : Slim (C.on_var_name h t s)
    unfolding C.on_var_name
    name-slim =
        by_cases Slim (C.is_end t) (λ e. gone 110 (omega arith))
        (λ e.
        by_cases Slim (eqb h.real 1) (λ f p q. small)
        (λ f.
        by_cases Slim (eqb s.phase 4) (λ g. name-with-slim 1 s.left s.right)
        (λ g.
        by_cases Slim (eqb s.phase 3) (λ r. by_cases Slim (eqb h.width 1) (λ u. name-with-slim 2 s.left s.left) (λ u p q. small)) (λ r p q. small))))

    range-with-slim : (k : ℕ) (l r : Number) → Slim (C.range_with h k l r)
    unfolding C.range_with
    range-with-slim k l r = by_cases Slim (C.numbers_fit h.width l r) (λ e p q. small) (λ e. gone 110 (omega arith))

    range-slim : Slim (C.on_range_word h s)
    unfolding C.on_range_word
    range-slim = by_cases Slim (eqb s.phase 4) (λ e. range-with-slim 1 s.left s.right) (λ e. range-with-slim 2 s.left s.left)

  due : (k : ℕ) → 9 ≤ k → k ≤ 12 → eqb h.place k ≡ true → h.width ≤ 4096
  due k p q e = let f = eqb-true h.place k e in slim (omega arith) (omega arith)

  var-slim : Slim (C.in_var h t n s store)
  unfolding C.in_var
  var-slim =
      by_cases Slim (eqb h.place 7) (λ e. type-slim)
      (λ e.
      by_cases Slim (eqb h.place 8) (λ f. width-slim)
      (λ f.
      by_cases Slim (eqb h.place 9) (λ g. code-slim (due 9 (omega arith) (omega arith) g))
      (λ g.
      by_cases Slim (eqb h.place 10) (λ r. name-slim (due 10 (omega arith) (omega arith) r))
      (λ r. by_cases Slim (eqb h.place 11) (λ u. range-slim (due 11 (omega arith) (omega arith) u)) (λ u. slim)))))

  end-slim : Slim (C.end_head h t store)
  unfolding C.end_head C.declared_head
  end-slim =
      by_cases Slim (C.is_end t)
      (λ e.
      by_cases Slim (eqb h.misfit 0)
      (λ f.
      by_cases Slim (ltb (C.found_at h store) (bounded h.codes)) (λ g p q. absurd (omega arith))
      (λ g. by_cases Slim (ltb (bounded h.codes) 1024) (λ r p q. absurd (omega arith)) (λ r. gone 112 (omega arith))))
      (λ f. gone 110 (omega arith)))
      (λ e. gone 110 (omega arith))

  head-slim : Slim (C.declaration_head h t n s store)
  unfolding C.declaration_head
  head-slim =
      by_cases Slim (ltb h.place 7) (λ e. in-command Slim h (λ x f g r. out x r) (λ f p q. absurd (omega arith)) slim t)
      (λ e. by_cases Slim (C.ends_var h s) (λ f. end-slim) (λ f. var-slim))

-- THE WIDTHS OF THE STORE
abbrev Narrow : Head → List ℕ → Type 0
Narrow x l = (i : ℕ) → i < x.codes → get_or l (1024 + i) 0 ≤ 4096

module _ (h : Head) (store : List ℕ) (sound : Sound h store) (narrow : Narrow h store) where
  few : h.codes ≤ 1024
  few = omega arith

  -- a head with as many codes
  counted : (x : Head) → x.codes ≡ h.codes → Narrow x store
  counted x e i k = narrow i (omega arith)

  again-narrow : (j : ℕ) → j < 1024 → (i : ℕ) → i < h.codes → get_or (C.declare_again h j store) (1024 + i) 0 ≤ 4096
  unfolding C.declare_again
  again-narrow j l i k =
      by_cases (λ (x : List ℕ). get_or x (1024 + i) 0 ≤ 4096) (eqb (get_or store (2048 + j) 0) 0)
      (λ e.
      by_cases (λ (x : List ℕ). get_or x (1024 + i) 0 ≤ 4096) (eqb h.ends 0) (λ f. narrow i k)
      (λ f.
      rw (get_or-set_other (set (set store (2048 + j) 1) (3072 + j) h.left) (4096 + j) (1024 + i) h.right 0 (λ z. omega (arith, few)), get_or-set_other (set store (2048 + j) 1) (3072 + j) (1024 + i) h.left 0 (λ z. omega (arith, few)), get_or-set_other store (2048 + j) (1024 + i) 1 0 (λ z. omega (arith, few)))
      (narrow i k)))
      (λ e. narrow i k)

  module _ (small : h.width ≤ 4096) where
    new-narrow : (m : ℕ) → m < 1024 → m ≡ h.codes → (i : ℕ) → i < m + 1 → get_or (C.declare_new h m store) (1024 + i) 0 ≤ 4096
    unfolding C.declare_new
    new-narrow m l e i k =
        rw (get_or-set_other _ (6144 + slot h.code) (1024 + i) m 0 (λ z. omega arith), get_or-set_other _ (4096 + m) (1024 + i) (C.right_of h) 0 (λ z. omega arith), get_or-set_other _ (3072 + m) (1024 + i) (C.left_of h) 0 (λ z. omega arith), get_or-set_other _ (2048 + m) (1024 + i) (C.sort_of h) 0 (λ z. omega arith))
        (go (eqb i m) refl)
      where
        go : (t : Bool) → eqb i m ≡ t → get_or (set (set store m h.code) (1024 + m) h.width) (1024 + i) 0 ≤ 4096
        go true f = rw (eqb-true i m f, get_or-set_same (set store m h.code) (1024 + m) h.width 0 (simp length-set (omega (arith, sound.long)))) small
        go false f =
            let n : (i ≡ m → ⊥) = eqb-false i m f in
            rw (get_or-set_other (set store m h.code) (1024 + m) (1024 + i) h.width 0 (λ z. n (omega arith)), get_or-set_other store m (1024 + i) h.code 0 (λ z. omega arith))
            (narrow i (omega arith))

    declared-narrow : Narrow (C.declared_head h store) (C.declared_store h store)
    unfolding C.declared_head C.declared_store
    declared-narrow = go (ltb (C.found_at h store) (bounded h.codes)) refl (ltb (bounded h.codes) 1024) refl
      where
        go : (x : Bool) → ltb (C.found_at h store) (bounded h.codes) ≡ x → (y : Bool) → ltb (bounded h.codes) 1024 ≡ y
            → Narrow (cond x (C.commanded 0 h.depth h.vars h.codes) (cond y (C.commanded 0 h.depth h.vars (bounded h.codes + 1)) (C.at h 112)))
            (cond x (C.declare_again h (C.found_at h store) store) (cond y (C.declare_new h (bounded h.codes) store) store))
        go true e y f = again-narrow (C.found_at h store) (omega (arith, ltb-true (C.found_at h store) (bounded h.codes) e, bounded-le h.codes))
        go false e true f = new-narrow (bounded h.codes) (ltb-true (bounded h.codes) 1024 f) (codes-bounded h store sound)
        go false e false f = narrow

    end-narrow : (t : Text) → Narrow (C.end_head h t store) (C.end_store h t store)
    unfolding C.end_head C.end_store
    end-narrow t = go (C.is_end t) (eqb h.misfit 0)
      where
        go : (x y : Bool) → Narrow (cond x (cond y (C.declared_head h store) (C.at h 110)) (C.at h 110)) (cond x (cond y (C.declared_store h store) store) store)
        go false y = narrow
        go true false = narrow
        go true true = declared-narrow

  ends-small : (s : Scan) → Slim h → C.ends_var h s ≡ true → h.width ≤ 4096
  unfolding C.ends_var
  ends-small s slim = go (eqb h.place 12) refl (eqb h.place 11) refl
    where
      go : (x : Bool) → eqb h.place 12 ≡ x → (y : Bool) → eqb h.place 11 ≡ y → cond x true (cond y (ltb s.phase 3) false) ≡ true → h.width ≤ 4096
      go true e y f g = let k = eqb-true h.place 12 e in slim (omega arith) (omega arith)
      go false e true f g = let k = eqb-true h.place 11 f in slim (omega arith) (omega arith)
      go false e false f g = let z : ◌≡◌ {A = ℕ} 0 1 = cc in absurd (omega arith)

  step-narrow : (t : Text) (n : Number) (s : Scan) → Slim h → Narrow (C.declaration_head h t n s store) (C.declaration_store h t s store)
  unfolding C.declaration_head C.declaration_store
  step-narrow t n s slim = go (ltb h.place 7) (C.ends_var h s) refl
    where
      go : (x y : Bool) → C.ends_var h s ≡ y → Narrow (cond x (C.in_command h t) (cond y (C.end_head h t store) (C.in_var h t n s store))) (cond x store (cond y (C.end_store h t store) store))
      go true y e = in-command (λ (x : Head). Narrow x store) h (λ x f g r. counted x f) (λ f. narrow) narrow t
      go false true e = end-narrow (ends-small s slim e) t
      go false false e = in-var (λ (x : Head). Narrow x store) h store t n s (λ p q x f g r. counted x f) narrow

-- ONE WORD, whatever was kept of it
pub declaring-step : (h : Head) (store wires : List ℕ) (t : Text) (n : Number) (s : Scan) → Declaring h store wires → Declaring (C.declaration_head h t n s store) (C.declaration_store h t s store) wires
declaring-step h store wires t n s d = record {
  sound = sound-step h store t n s d.sound;
  wired = record { size = d.wired.size; wire_is = λ k l. store_same h store (8192 + k) (omega arith) (λ j m z. omega arith) t s ∙ d.wired.wire_is k l };
  no_spans = λ i l. store_same h store (5120 + i) (omega arith) (λ j m z. omega arith) t s ∙ d.no_spans i l;
  no_values = λ k l. store_same h store (8450 + k) (omega arith) (λ j m z. omega arith) t s ∙ d.no_values k l;
  narrow = step-narrow h store d.sound d.narrow t n s d.width;
  width = head-slim h store t n s d.width;
}

-- AT THE START
pub declaring-start : (store wires : List ℕ) → Fresh store wires → Declaring (C.commanded 0 0 0 0) store wires
declaring-start store wires f = record {
  sound = (sound-start store f.long).0;
  wired = record { size = f.size; wire_is = f.wire_is };
  no_spans = λ i l. f.below (5120 + i) (omega arith);
  no_values = f.behind;
  narrow = λ i l. absurd (omega arith);
  width = λ p q. absurd (omega arith);
}

-- THE DECLARATIONS, as the values need them
pub declares : (h : Head) (store : List ℕ) → Sound h store → Declares store h.codes (declared_of h store)
unfolding part
declares h store sound = record {
  few = omega arith;
  count = length_part 0 h.codes store (omega arith);
  finds = λ x. rw (codes-bounded h store sound) at (found x);
  code_is = λ i l. sym (getD-first 0 h.codes store i l);
  width_is = λ i l. sym (get_d_part 1024 h.codes store i l);
  sort_is = λ i l. sym (get_d_part 2048 h.codes store i l);
  left_is = λ i l. sym (get_d_part 3072 h.codes store i l);
  right_is = λ i l. sym (get_d_part 4096 h.codes store i l);
}
  where
    found : (x : ℕ) → lookup store (bounded h.codes) x ≡ index_of (part 0 h.codes store) x
    found x = lookup-is-index h store sound x

-- THE END OF THE DECLARATIONS
module _ (h : Head) (store wires : List ℕ) (d : Declaring h store wires) where
  abbrev said : Declared
  said = declared_of h store

  pub last-good : table_good store (bounded h.codes) ≡ good_table (declared_of h store) (pairs wires)
  last-good = rw (codes-bounded h store d.sound) (table-good store h.codes said wires (declares h store d.sound) d.wired)

pub last_end : (h : Head) (store wires : List ℕ) → Declaring h store wires → good_table (declared_of h store) (pairs wires) ≡ true → Linked h store wires (connect_from store (bounded h.codes) 0 129)
last_end h store wires d good =
    rw (codes-bounded h store d.sound)
    (record {
      long = connect-long store n (declared_of h store) wires l said d.wired spans d.no_values good;
      declares_them = after;
      connected = connect-connected store n (declared_of h store) wires l said d.wired spans d.no_values good;
      holds = connect-holds store n (declared_of h store) wires l said d.wired spans d.no_values good;
      narrow = λ i k. rw (after.width_is i k ∙ sym (said.width_is i k)) (d.narrow i k);
    })
  where
    n : ℕ
    n = h.codes

    l : length store ≡ 8468
    l = d.sound.long

    said : Declares store h.codes (declared_of h store)
    said = declares h store d.sound

    spans : (i : ℕ) → i < h.codes → get_or store (5120 + i) 0 ≡ 0
    spans i k = d.no_spans i (omega (arith, said.few))

    after : Declares (connect_from store h.codes 0 129) h.codes (declared_of h store)
    after = connect-declares store h.codes (declared_of h store) wires l said d.wired spans d.no_values good
