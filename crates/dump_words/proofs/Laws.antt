-- Laws that the proofs of the word's parts cite. Assumes nothing.
use mathlib.Core.Path.{◌≡◌, refl, ◌∙◌, sym, ap}
use mathlib.Core.Bool.{Bool, true, false, ◌||◌}
use mathlib.Core.List.{List, [], ◌∷◌, ◌++◌}
use Prim.Native.Nat.{ℕ, ◌+◌, ◌-◌, ◌*◌, ◌^◌, ◌<◌, ◌≤◌}
use native.Mathlib.Omega.{arith}
use native.Mathlib.Numerals.{add-one}
use lib.Dec.{ltb}
use lib.ListN.{length, get_or, drop, drop_of_length-le}
use lib.Seq.{drop-cons}
use borrow.Author.Tests.{lt-ltb, le-ltb}
use Rattle.dump_words.specs.declared.text.Text.{Text}
use Rattle.dump_words.specs.declared.text.Keyword.{Keyword}
use Rattle.dump_words.specs.Gather.{text_is, text_in, numbers_of}

-- when ten times a number and a digit are above 64 bits, by the tests that stay within them
pub far-above : (v d : ℕ) → 1844674407370955161 < v → ltb (v * 10 + d) (2 ^ 64) ≡ false
far-above v d h = le-ltb (v * 10 + d) (2 ^ 64) (omega arith)

pub above : (v d : ℕ) → d ≤ 9 → 18446744073709551615 - d < v * 10 → ltb (v * 10 + d) (2 ^ 64) ≡ false
above v d h k = le-ltb (v * 10 + d) (2 ^ 64) (omega arith)

pub within : (v d : ℕ) → d ≤ 9 → v * 10 ≤ 18446744073709551615 - d → ltb (v * 10 + d) (2 ^ 64) ≡ true
within v d h k = lt-ltb (v * 10 + d) (2 ^ 64) (omega arith)

-- a list of numbers, three for a word, by what is left of it
short : (t : Text) (l : List ℕ) → length l < 3 → text_in t l ≡ false
unfolding text_in
short t [] h = refl
short t (a ∷ []) h = refl
short t (a ∷ b ∷ []) h = refl
short t (a ∷ b ∷ d ∷ l) h = absurd (omega arith)

first : (t : Text) (chunk after : List ℕ) → length chunk ≡ 3 → text_in t (chunk ++ after) ≡ text_is t (get_or chunk 0 0) (get_or chunk 1 0) (get_or chunk 2 0) || text_in t after
unfolding text_in
first t [] after h = absurd (omega (arith, h))
first t (a ∷ []) after h = absurd (omega (arith, h))
first t (a ∷ b ∷ []) after h = absurd (omega (arith, h))
first t (a ∷ b ∷ d ∷ []) after h = refl
first t (a ∷ b ∷ d ∷ e ∷ l) after h = absurd (omega (arith, h))

module _ (t : Text) (list rest : List ℕ) (inv : text_in t list ≡ text_in t rest) where
  pub none-left : length rest < 3 → false ≡ text_in t list
  none-left h = sym (inv ∙ short t rest h)

  module _ (chunk after : List ℕ) (parts : rest ≡ chunk ++ after) (three : length chunk ≡ 3) where
    pub word-found : text_is t (get_or chunk 0 0) (get_or chunk 1 0) (get_or chunk 2 0) ≡ true → true ≡ text_in t list
    word-found e = sym (inv ∙ ap (text_in t) parts ∙ first t chunk after three ∙ ap (λ (b : Bool). b || text_in t after) e)

    pub word-passed : text_is t (get_or chunk 0 0) (get_or chunk 1 0) (get_or chunk 2 0) ≡ false → text_in t list ≡ text_in t after
    word-passed e = inv ∙ ap (text_in t) parts ∙ first t chunk after three ∙ ap (λ (b : Bool). b || text_in t after) e

-- a list of keywords from its place i on
module _ (t : Text) (list : List Keyword) (i : ℕ) (inv : text_in t (numbers_of list) ≡ text_in t (numbers_of (drop i list))) where
  pub at-end : length list ≤ i → false ≡ text_in t (numbers_of list)
  unfolding text_in
  at-end h = sym (inv ∙ ap (λ (l : List Keyword). text_in t (numbers_of l)) (drop_of_length-le list h))

  module _ (d : Keyword) (h : i < length list) where
    next : text_in t (numbers_of (drop i list)) ≡ text_is t (get_or list i d).0 (get_or list i d).1 (get_or list i d).2 || text_in t (numbers_of (drop (i + 1) list))
    unfolding text_in
    next = rw (add-one i) (ap (λ (l : List Keyword). text_in t (numbers_of l)) (drop-cons list i d h))

    pub found : text_is t (get_or list i d).0 (get_or list i d).1 (get_or list i d).2 ≡ true → true ≡ text_in t (numbers_of list)
    found e = sym (inv ∙ next ∙ ap (λ (b : Bool). b || text_in t (numbers_of (drop (i + 1) list))) e)

    pub further : text_is t (get_or list i d).0 (get_or list i d).1 (get_or list i d).2 ≡ false → text_in t (numbers_of list) ≡ text_in t (numbers_of (drop (i + 1) list))
    further e = inv ∙ next ∙ ap (λ (b : Bool). b || text_in t (numbers_of (drop (i + 1) list))) e
