-- Marked rows, picked by words of 32 bits. The numbers chosen below a + w are those below a and, counted from a on, those of the next w (`chosen_on`). The
-- places of the ones in a word are stored one by one, from the highest on: those stored, with those of the ones that are left, are all (`Storing`).
-- Assumes nothing.
use Prim.Native.Nat.{ℕ, zero, suc, ◌+◌, ◌-◌, ◌*◌, ◌/◌, ◌%◌, ◌^◌, ◌≤◌, ◌<◌, zero-le}
use mathlib.Core.Path.{◌≡◌, refl, sym, ap, ap₂, subst, ◌∙◌}
use mathlib.Core.Bool.{Bool, true, false, not, cond}
use mathlib.Core.List.{List, [], ◌∷◌, ◌++◌, map, append-nil, append_assoc}
use native.Mathlib.Nat.{add-zero, add-suc, one-mul, zero-mul, le_refl, lt_of_lt_of_le}
use native.Mathlib.Omega.{arith}
use lib.ListN.{length, get_or, take, set, length-append, length-set}
use lib.Pow.{pow_mono, shr_lt}
use lib.Seq.{take-suc-set}
use borrow.Author.Tests.{eq-eqb, ne_eqb}
use Rattle.bits.specs.Bits.{to_bit, bit, number}
use Rattle.bits.proofs.Bits.{bit-shr, bit-number, number_lt, shifted_one}
use Rattle.bits.proofs.Tests.{of-true}
use Rattle.listed.specs.Lists.{chosen}
use Rattle.listed.proofs.Chosen.{chosen-ext}
use Rattle.listed.proofs.Highest.{top_set, within, highest, Highest, highest-one, highest-first, none_first}
use Rattle.marked.specs.Picks.{block_cycles, marked, places, Picks}

-- ---- `chosen`

map-append : (f : ℕ → ℕ) (xs ys : List ℕ) → map f (xs ++ ys) ≡ map f xs ++ map f ys
map-append f [] ys = refl
map-append f (x ∷ xs) ys = ap (λ (l : List ℕ). f x ∷ l) (map-append f xs ys)

map-length : (f : ℕ → ℕ) (xs : List ℕ) → length (map f xs) ≡ length xs
map-length f [] = refl
map-length f (x ∷ xs) = ap suc (map-length f xs)

chosen-length : (k : ℕ) (f : ℕ → Bool) → length (chosen k f) ≤ k
unfolding chosen
chosen-length zero f = zero-le
chosen-length (suc k) f = omega (arith, length-append (chosen k f) (cond (f k) (k ∷ []) []), chosen-length k f, last (f k))
  where
    last : (b : Bool) → length (cond b (k ∷ []) []) ≤ 1
    last true = le_refl 1
    last false = zero-le

chosen_on : (a w : ℕ) (f : ℕ → Bool) → chosen (a + w) f ≡ chosen a f ++ map (λ s. a + s) (chosen w (λ s. f (a + s)))
unfolding chosen
chosen_on a zero f = ap (λ (k : ℕ). chosen k f) (add-zero a) ∙ sym (append-nil (chosen a f))
chosen_on a (suc w) f =
    ap (λ (k : ℕ). chosen k f) (add-suc a w)
    ∙ ap₂ (λ (xs ys : List ℕ). xs ++ ys) (chosen_on a w f) (last (f (a + w)))
    ∙ append_assoc (chosen a f) (map (λ s. a + s) (chosen w (λ s. f (a + s)))) (map (λ s. a + s) (cond (f (a + w)) (w ∷ []) []))
    ∙ ap (λ (l : List ℕ). chosen a f ++ l) (sym (map-append (λ s. a + s) (chosen w (λ s. f (a + s))) (cond (f (a + w)) (w ∷ []) [])))
  where
    last : (b : Bool) → cond b ((a + w) ∷ []) [] ≡ map (λ s. a + s) (cond b (w ∷ []) [])
    last true = refl
    last false = refl

-- ---- the bits of a word of rows

-- the first w rows of 32
module _ (w : ℕ) (l : w ≤ 32) (f : ℕ → Bool) (x : ℕ) (e : x ≡ number 32 (λ i. f (31 - i))) where
  pub first_small : x / 2 ^ (32 - w) < 2 ^ w
  first_small =
      let all : w + (32 - w) ≡ 32 = omega arith in
      shr_lt w (32 - w) (subst (λ (k : ℕ). x < 2 ^ k) (sym all) (rw e (number_lt 32 (λ i. f (31 - i)))))

  pub first-places : places w (x / 2 ^ (32 - w)) ≡ chosen w f
  unfolding places
  first-places = chosen-ext w (λ s. bit (x / 2 ^ (32 - w)) (w - suc s)) f bits
    where
      bits : (s : ℕ) → s < w → bit (x / 2 ^ (32 - w)) (w - suc s) ≡ f s
      bits s h =
          let there : 32 - w + (w - suc s) ≡ 31 - s = omega arith in
          let back : 31 - (31 - s) ≡ s = omega arith in
          bit-shr x (32 - w) (w - suc s) ∙ ap (bit x) there ∙ ap (λ (y : ℕ). bit y (31 - s)) e
          ∙ bit-number 32 (λ i. f (31 - i)) (31 - s) (omega arith) ∙ ap f back

-- one row more, with a mark and without
module _ (f : ℕ → Bool) (i v : ℕ) (e : v ≡ number i f) where
  pub marks-more : f i ≡ true → i < 32 → v + (1 * 2 ^ i) % 2 ^ 32 ≡ number (suc i) f
  unfolding number
  marks-more t l = ap₂ (λ (x y : ℕ). x + y) e (shifted_one i 32 l ∙ sym (one-mul (2 ^ i)) ∙ ap (λ (b : Bool). to_bit b * 2 ^ i) (sym t))

  pub marks-same : f i ≡ false → v ≡ number (suc i) f
  unfolding number
  marks-same t =
      e ∙ sym (ap (λ (x : ℕ). number i f + x) (zero-mul (2 ^ i)) ∙ add-zero (number i f)) ∙ ap (λ (b : Bool). number i f + to_bit b * 2 ^ i) (sym t)

pub marked-true : (rows : List ℕ) (k : ℕ) → (get_or rows k 0 % 4 ≡ 0 → ⊥) → marked rows k ≡ true
unfolding marked
marked-true rows k h = ap not (ne_eqb (get_or rows k 0 % 4) 0 h)

pub marked-false : (rows : List ℕ) (k : ℕ) → get_or rows k 0 % 4 ≡ 0 → marked rows k ≡ false
unfolding marked
marked-false rows k h = ap not (eq-eqb (get_or rows k 0 % 4) 0 h)

-- ---- places stored one by one

pub record Storing (w first x : ℕ) (picked₀ : List ℕ) (at : ℕ) (picked : List ℕ) (rest next : ℕ) : Type 0 where
  pub stored : List ℕ
  pub long : length picked ≡ block_cycles
  pub are : take next picked ≡ take at picked₀ ++ map (λ s. first + s) stored
  pub next_is : next ≡ at + length stored
  pub left : stored ++ places w rest ≡ places w x
  pub small : rest < 2 ^ w

pub storing-none : (w first x : ℕ) (picked : List ℕ) (at : ℕ) → length picked ≡ block_cycles → x < 2 ^ w → Storing w first x picked at picked x at
storing-none w first x picked at long small =
    record { stored = []; long = long; are = sym (append-nil (take at picked)); next_is = sym (add-zero at); left = refl; small = small }

module _ {w first x : ℕ} {picked₀ : List ℕ} {at : ℕ} {picked : List ℕ} {rest next : ℕ} (d : Storing w first x picked₀ at picked rest next) where
  pub storing-all : rest ≡ 0 → (next ≡ at + length (places w x)) × (length picked ≡ block_cycles)
      × (take next picked ≡ take at picked₀ ++ map (λ s. first + s) (places w x))
  unfolding places
  storing-all z =
      let all : d.stored ≡ places w x = sym (append-nil d.stored) ∙ ap (λ (l : List ℕ). d.stored ++ l) (sym (ap (places w) z ∙ none_first w)) ∙ d.left in (
        d.next_is ∙ ap (λ (l : List ℕ). at + length l) all,
        d.long,
        d.are ∙ ap (λ (l : List ℕ). take at picked₀ ++ map (λ s. first + s) l) all,
      )

  module _ (short : w ≤ 32) (some : 0 < rest) where
    abbrev j : ℕ
    j = highest 32 rest

    pub top : Highest 32 rest
    top = highest-one 32 rest some (lt_of_lt_of_le d.small (pow_mono short))

    pub top-low : j < w
    top-low = within rest w j d.small (of-true (top_set rest j top.below top.above))

    next_place : places w rest ≡ (w - 1 - j) ∷ places w (rest - 2 ^ j)
    unfolding places
    next_place = highest-first rest w j top.below top.above top-low

    -- there is room: so many places are stored as bits were passed
    pub storing-room : at + w ≤ block_cycles → next < block_cycles
    unfolding places
    storing-room h =
        omega (
          arith,
          d.next_is,
          ap length d.left,
          length-append d.stored (places w rest),
          ap length next_place,
          chosen-length w (λ s. bit x (w - suc s)),
        )

    pub storing-more : next < block_cycles → (v : ℕ) → v ≡ first + (w - 1 - j) → Storing w first x picked₀ at (set picked next v) (rest - 2 ^ j) (suc next)
    storing-more room v e = record {
      stored = d.stored ++ (w - 1 - j) ∷ [];
      long = length-set picked next v ∙ d.long;
      are =
          take-suc-set picked next v (omega (arith, d.long, room)) ∙ ap₂ (λ (l : List ℕ) (y : ℕ). l ++ y ∷ []) d.are e
          ∙ append_assoc (take at picked₀) (map (λ s. first + s) d.stored) ((first + (w - 1 - j)) ∷ [])
          ∙ ap (λ (l : List ℕ). take at picked₀ ++ l) (sym (map-append (λ s. first + s) d.stored ((w - 1 - j) ∷ [])));
      next_is = omega (arith, d.next_is, length-append d.stored ((w - 1 - j) ∷ []));
      left =
          append_assoc d.stored ((w - 1 - j) ∷ []) (places w (rest - 2 ^ j)) ∙ ap (λ (l : List ℕ). d.stored ++ l) (sym next_place) ∙ d.left;
      small = omega (arith, d.small);
    }

-- ---- a block, 32 rows at a time

module _ (rows : List ℕ) where
  pub record Picking (cycles first : ℕ) (picked : List ℕ) (next : ℕ) : Type 0 where
    pub high : first ≤ cycles
    pub whole : first < cycles → first % 32 ≡ 0
    pub picks : Picks rows first picked next

  pub picking-none : (cycles : ℕ) (picked : List ℕ) → length picked ≡ block_cycles → Picking cycles 0 picked 0
  unfolding chosen
  picking-none cycles picked long = record { high = zero-le; whole = λ _. refl; picks = record { long = long; few = zero-le; are = refl } }

  module _ {cycles first : ℕ} {picked : List ℕ} {next : ℕ} (d : Picking cycles first picked next) (w x : ℕ) (short : w ≤ 32)
      (x-is : x ≡ number 32 (λ i. marked rows (first + (31 - i)))) where
    pub picking-more : {picked' : List ℕ} {next' : ℕ} → first + w ≤ cycles → (first + w < cycles → w ≡ 32) → first < cycles
        → (next' ≡ next + length (places w (x / 2 ^ (32 - w)))) × (length picked' ≡ block_cycles)
        × (take next' picked' ≡ take next picked ++ map (λ s. first + s) (places w (x / 2 ^ (32 - w)))) → Picking cycles (first + w) picked' next'
    picking-more h full here s =
        let here-places = first-places w short (λ s. marked rows (first + s)) x x-is in
        record {
          high = h;
          whole = λ l. let e = full l in let z = d.whole here in omega arith;
          picks = record {
            long = s.1;
            few = omega (arith, d.picks.few, s.0, ap length here-places, chosen-length w (λ s. marked rows (first + s)));
            are =
                s.2 ∙ ap₂ (λ (l m : List ℕ). l ++ map (λ s. first + s) m) d.picks.are here-places ∙ sym (chosen_on first w (marked rows));
          };
        }
