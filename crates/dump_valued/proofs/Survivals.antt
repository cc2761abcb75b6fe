-- What a store says stays true where its words are the same. Assumes nothing.
use mathlib.Core.Path.{◌≡◌, refl, ◌∙◌, sym}
use mathlib.Core.Bool.{Bool, true, false, cond}
use mathlib.Core.List.{List}
use Prim.Native.Nat.{ℕ, ◌+◌, ◌*◌, ◌<◌, ◌≤◌}
use native.Mathlib.Omega.{arith}
use lib.Dec.{eqb, ltb}
use lib.ListN.{length, get_or, take, length-take}
use lib.Seq.{ext_get_or, get_or-take}
use borrow.Author.Tests.{ltb-true}
use Rattle.dump.specs.State.{Declared}
use Rattle.dump.specs.Declarations.{index_of}
use Rattle.dump.specs.Connections.{Pair}
use Rattle.dump_find.specs.Find.{slot, hinted, lookup}
use Rattle.dump_valued.specs.Valued.{Holds, Declares, Wired, Connected, Kept}

-- THE SEARCH reads the codes and the hints
module _ (s t : List ℕ) (as_long : length t ≡ length s) (n : ℕ) (few : n ≤ 1024) (codes : (k : ℕ) → k < 1024 → get_or t k 0 ≡ get_or s k 0) where
  take_same : take n t ≡ take n s
  take_same =
      ext_get_or 0 (take n t) (take n s) (simp (length-take, as_long))
      (λ i h. let l : i < n = omega (arith, length-take n t) in get_or-take n t i 0 l ∙ codes i (omega arith) ∙ sym (get_or-take n s i 0 l))

  hinted-same : (x h : ℕ) → hinted t n x h ≡ hinted s n x h
  unfolding hinted
  hinted-same x h = rw take_same (go (ltb h n) refl)
    where
      go : (b : Bool) → ltb h n ≡ b → cond (ltb h n) (cond (eqb (get_or t h 0) x) h (index_of (take n s) x)) (index_of (take n s) x) ≡ cond (ltb h n) (cond (eqb (get_or s h 0) x) h (index_of (take n s) x)) (index_of (take n s) x)
      go true e = let l : h < n = ltb-true h n e in rw (codes h (omega arith))
      go false e = rw e

  pub lookup-same : ((k : ℕ) → k < 2048 → get_or t (6144 + k) 0 ≡ get_or s (6144 + k) 0) → (x : ℕ) → lookup t n x ≡ lookup s n x
  unfolding lookup slot
  lookup-same hints x = rw (hints (slot x) (omega arith)) (hinted-same x (get_or s (6144 + slot x) 0))

-- THE DECLARATIONS need these and the words below 5120
pub declares-same : (s t : List ℕ) (n : ℕ) (d : Declared) → length t ≡ length s → ((k : ℕ) → k < 5120 → get_or t k 0 ≡ get_or s k 0)
    → ((k : ℕ) → k < 2048 → get_or t (6144 + k) 0 ≡ get_or s (6144 + k) 0) → Declares s n d → Declares t n d
declares-same s t n d as_long low hints h =
    let few : n ≤ 1024 = h.few in
    record {
      few = few;
      count = h.count;
      finds = λ x. lookup-same s t as_long n few (λ k l. low k (omega arith)) hints x ∙ h.finds x;
      code_is = λ i l. low i (omega arith) ∙ h.code_is i l;
      width_is = λ i l. low (1024 + i) (omega arith) ∙ h.width_is i l;
      sort_is = λ i l. low (2048 + i) (omega arith) ∙ h.sort_is i l;
      left_is = λ i l. low (3072 + i) (omega arith) ∙ h.left_is i l;
      right_is = λ i l. low (4096 + i) (omega arith) ∙ h.right_is i l;
    }

-- WHERE NO WORD OF THE DECLARATIONS AND THE TABLE CHANGES
module _ (s t : List ℕ) (low : (k : ℕ) → k < 8450 → get_or t k 0 ≡ get_or s k 0) where
  pub declares-below : (n : ℕ) (d : Declared) → length t ≡ length s → Declares s n d → Declares t n d
  declares-below n d as_long = declares-same s t n d as_long (λ k l. low k (omega arith)) (λ k l. low (6144 + k) (omega arith))

  pub wired-below : (wires : List ℕ) → Wired s wires → Wired t wires
  wired-below wires h = record { size = h.size; wire_is = λ k l. low (8192 + k) (omega arith) ∙ h.wire_is k l }

  pub connected-below : (n : ℕ) (d : Declared) (table : List Pair) → n ≤ 1024 → Connected s n d table → Connected t n d table
  connected-below n d table few h = record {
    size = h.size;
    code_is = λ e l. low (8192 + 2 * e) (omega arith) ∙ h.code_is e l;
    place_is = λ e l c. low (8193 + 2 * e) (omega arith) ∙ h.place_is e l c;
    spans = λ e i l c f m. rw (low (5120 + i) (omega arith)) (h.spans e i l c f m);
  }

-- WHERE THE WORDS OF A FRAME AND A CLOCK ARE THE SAME, here or elsewhere
pub holds_same : (frame clock frame' clock' : ℕ) (s t vs : List ℕ) → ((k : ℕ) → k < 8 → get_or t (frame' + k) 0 ≡ get_or s (frame + k) 0) → get_or t clock' 0 ≡ get_or s clock 0
    → Holds frame clock s vs → Holds frame' clock' t vs
holds_same frame clock frame' clock' s t vs words one h = record {
  size = h.size;
  each = h.each;
  clock_is = one ∙ h.clock_is;
  values_are = λ w l. words w (omega arith) ∙ h.values_are w l;
  unknown_are =
      λ w l.
      let a : frame + 4 + w ≡ frame + (4 + w) = omega arith in
      let b : frame' + 4 + w ≡ frame' + (4 + w) = omega arith in
      rw b (words (4 + w) (omega arith)) ∙ rw a at (h.unknown_are w l);
}

-- WHERE ONLY THE VALUES NOW CHANGE
pub kept_self : (s : List ℕ) → Kept s s
kept_self s = record { as_long = refl; below = λ k h. refl; before = λ k h. refl; clock = refl }

pub kept_then : (s t u : List ℕ) → Kept s t → Kept t u → Kept s u
kept_then s t u g h = record {
  as_long = h.as_long ∙ g.as_long;
  below = λ k l. h.below k l ∙ g.below k l;
  before = λ k l. h.before k l ∙ g.before k l;
  clock = h.clock ∙ g.clock;
}

module _ (s t : List ℕ) (kept : Kept s t) where
  pub declares-kept : (n : ℕ) (d : Declared) → Declares s n d → Declares t n d
  declares-kept n d = declares-below s t kept.below n d kept.as_long

  pub wired-kept : (wires : List ℕ) → Wired s wires → Wired t wires
  wired-kept = wired-below s t kept.below

  pub connected-kept : (n : ℕ) (d : Declared) (table : List Pair) → n ≤ 1024 → Connected s n d table → Connected t n d table
  connected-kept = connected-below s t kept.below

  pub before-kept : (vs : List ℕ) → Holds 8458 8467 s vs → Holds 8458 8467 t vs
  before-kept vs = holds_same 8458 8467 8458 8467 s t vs kept.before kept.clock
