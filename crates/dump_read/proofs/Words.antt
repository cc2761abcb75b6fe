-- The words of a dump read byte by byte, with the bytes of the open word gathered: `fed-words`, it is the definition's reading of its words. Assumes nothing.
use mathlib.Core.Path.{◌≡◌, refl, ◌∙◌, sym, ap}
use mathlib.Core.Bool.{Bool, true, false, cond}
use mathlib.Core.List.{List, [], ◌∷◌, ◌++◌, append-nil}
use Prim.Native.Nat.{ℕ, ◌+◌}
use lib.Seq.{append_snoc}
use Rattle.dump.specs.Text.{Word, blank, ended, joined, cutting, words}
use Rattle.dump.specs.State.{at_start}
use Rattle.dump.specs.Connections.{Pair}
use Rattle.dump.specs.Load.{Reading, read_word, read_words, reading}

-- what the words so far have said, the bytes of the word that is open, [] where none is, and the line
pub record M : Type 0 where
  pub reading : Reading
  pub text : List ℕ
  pub line : ℕ

abbrev pub m₀ : M
m₀ = record { reading = record { state = at_start; line = 0 }; text = []; line = 1 }

module _ (table : List Pair) (room : ℕ) where
  -- the end of a word, of no bytes or some
  abbrev pub closed_at : Reading → ℕ → List ℕ → Reading
  closed_at r l [] = r
  closed_at r l (b ∷ w) = read_word table room r (record { line = l; text = b ∷ w })

  unfoldable pub closed : M → Reading
  closed m = closed_at m.reading m.line m.text

  unfoldable pub word_byte : M → ℕ → M
  word_byte m b = cond (blank b) (record { reading = closed m; text = []; line = ended b + m.line }) (record { reading = m.reading; text = m.text ++ (b ∷ []); line = m.line })

  unfoldable pub fed : M → List ℕ → M
  fed m [] = m
  fed m (b ∷ bs) = fed (word_byte m b) bs

  -- IN PARTS
  pub fed-append : (m : M) (x y : List ℕ) → fed m (x ++ y) ≡ fed (fed m x) y
  unfolding fed
  fed-append m [] y = refl
  fed-append m (b ∷ x) y = fed-append (word_byte m b) x y

  pub fed-snoc : (m : M) (x : List ℕ) (b : ℕ) → fed m (x ++ (b ∷ [])) ≡ word_byte (fed m x) b
  unfolding fed
  fed-snoc m x b = fed-append m x (b ∷ [])

  -- THE WORDS: those of `joined` are a word that ends, and the rest
  joined-read : (r : Reading) (l : ℕ) (w : List ℕ) (ws : List Word) → read_words table room r (joined l w ws) ≡ read_words table room (closed_at r l w) ws
  unfolding read_words
  joined-read r l [] ws = refl
  joined-read r l (b ∷ w) ws = refl

  -- behind the bytes q of an open word: they and the first bytes of the text are one word
  abbrev Goes : List ℕ → Type 0
  Goes bs =
      (r : Reading) (q : List ℕ) (l : ℕ) → closed (fed (record { reading = r; text = q; line = l }) bs) ≡ read_words table room (closed_at r l (q ++ (cutting l bs).first)) (cutting l bs).rest

  goes : (bs : List ℕ) → Goes bs
  unfolding closed fed word_byte cutting read_words
  goes [] r q l = ap (closed_at r l) (sym (append-nil q))
  goes (b ∷ bs) r q l = go (goes bs) (blank b) refl
    where
      go : Goes bs → (t : Bool) → blank b ≡ t
          → closed (fed (word_byte (record { reading = r; text = q; line = l }) b) bs) ≡ read_words table room (closed_at r l (q ++ (cutting l (b ∷ bs)).first)) (cutting l (b ∷ bs)).rest
      go ih true e =
          rw (e, append-nil q)
          (ih (closed_at r l q) [] (ended b + l) ∙ sym (joined-read (closed_at r l q) (ended b + l) (cutting (ended b + l) bs).first (cutting (ended b + l) bs).rest))
      go ih false e = rw e (ih r (q ++ (b ∷ [])) l ∙ ap (λ (w : List ℕ). read_words table room (closed_at r l w) (cutting l bs).rest) (append_snoc q b (cutting l bs).first))

  pub fed-words : (dump : List ℕ) → closed (fed (record { reading = record { state = at_start; line = 0 }; text = []; line = 1 }) dump) ≡ reading table room dump
  unfolding reading words
  fed-words dump = goes dump (record { state = at_start; line = 0 }) [] 1 ∙ sym (joined-read (record { state = at_start; line = 0 }) 1 (cutting 1 dump).first (cutting 1 dump).rest)
