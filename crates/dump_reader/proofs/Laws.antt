-- Laws of the machine that the proofs of its code cite. Assumes nothing.
use mathlib.Core.Path.{◌≡◌, refl, sym}
use mathlib.Core.Bool.{true, false}
use mathlib.Core.List.{List, [], ◌∷◌, ◌++◌}
use Prim.Native.Nat.{ℕ, ◌<◌}
use native.Mathlib.Omega.{arith}
use borrow.Author.Tests.{le-leb, lt-leb, eq-eqb, ne_eqb}
use Rattle.dump.specs.Text.{blank}
use Rattle.dump_words.specs.declared.text.Text.{Text}
use Rattle.dump_find.specs.Find.{bounded}
use Rattle.dump_values.specs.Values.{connect_from}
use Rattle.dump_declare.specs.declared.head.Head.{Head}
use Rattle.dump_reader.specs.Machine.{All, refused, count_lines, last_place, last_store, end_word, closed_word, add_byte, lined, byte_step, step, feed, closing, finish_at, finish}

pub above-blanks : (b : ℕ) → 32 < b → false ≡ blank b
above-blanks b h = sym (simp (ne_eqb b 32 (λ e. omega (arith, e, h)), le-leb 9 b (omega arith), lt-leb b 13 (omega arith)))

pub connected : (h : Head) (t : Text) (store : List ℕ) (p n : ℕ) → p ≡ last_place h t store → p ≡ 20 → n ≡ bounded h.codes → connect_from store n 0 129 ≡ last_store h t store
unfolding last_store
connected h t store p n e f g = rw (← e, ← g) (simp (eq-eqb p 20 f))

-- white space behind a word
pub behind-word : (a s : All) (b : ℕ) → (a.reader.word.class ≡ 0 → ⊥) → s ≡ end_word a → lined s b ≡ lined (closed_word a) b
unfolding closed_word
behind-word a s b h e = rw e (simp (ne_eqb a.reader.word.class 0 h))

pub not-blank : (a : All) (b : ℕ) → blank b ≡ false → add_byte a b ≡ byte_step a b
unfolding byte_step
not-blank a b h = simp h

pub still_open : (a : All) (count : ℕ) → refused a.reader ≡ false → closing a count ≡ finish_at a count
unfolding finish_at
still_open a count h = simp h

module _ (a : All) (count : ℕ) (e : count ≡ count_lines a.reader) (open' : refused a.reader ≡ false) where
  pub end-outside : a.reader.word.class ≡ 0 → finish_at a count ≡ finish a
  unfolding finish closed_word
  end-outside h = rw e (simp (open', eq-eqb a.reader.word.class 0 h))

  pub end-inside : (s : All) → (a.reader.word.class ≡ 0 → ⊥) → s ≡ end_word a → finish_at s count ≡ finish a
  unfolding finish closed_word
  end-inside s h f = rw (e, f) (simp (open', ne_eqb a.reader.word.class 0 h))

-- THE BYTES one by one
pub feed-append : (a : All) (x y : List ℕ) → feed a (x ++ y) ≡ feed (feed a x) y
unfolding feed
feed-append a [] y = refl
feed-append a (b ∷ x) y = feed-append (step a b) x y

-- what is refused stays
pub feed-refused : (a : All) (bs : List ℕ) → refused a.reader ≡ true → feed a bs ≡ a
unfolding feed step
feed-refused a [] h = refl
feed-refused a (b ∷ bs) h = rw h (feed-refused a bs h)
