-- The line that a machine over bytes is in, and the line count of the text: `fed-line`, `count-snoc` and `count_is`. Assumes nothing.
use mathlib.Core.Path.{◌≡◌, refl, ◌∙◌, sym}
use mathlib.Core.Bool.{Bool, true, false, cond}
use mathlib.Core.List.{List, [], ◌∷◌, ◌++◌, append-nil}
use Prim.Native.Nat.{ℕ, suc, ◌+◌, ◌-◌}
use native.Mathlib.Omega.{arith}
use lib.Dec.{eqb}
use lib.Seq.{append_snoc}
use borrow.Author.Tests.{eqb-true}
use Rattle.dump.specs.Text.{blank, ended, line_count}
use Rattle.dump.specs.Connections.{Pair}
use Rattle.dump_read.proofs.Words.{M, m₀, word_byte, fed, fed-snoc}

unfoldable pub newlines : List ℕ → ℕ
newlines [] = 0
newlines (b ∷ bs) = ended b + newlines bs

pub newlines-snoc : (x : List ℕ) (b : ℕ) → newlines (x ++ (b ∷ [])) ≡ ended b + newlines x
unfolding newlines
newlines-snoc [] b = refl
newlines-snoc (a ∷ x) b = rw (newlines-snoc x b) (omega arith)

-- of a text that is not empty: one more than the bytes 10 before its last byte
pub count-snoc : (x : List ℕ) (b : ℕ) → line_count (x ++ (b ∷ [])) ≡ suc (newlines x)
unfolding line_count newlines
count-snoc [] b = refl
count-snoc (a ∷ []) b = omega arith
count-snoc (a ∷ c ∷ x) b = rw (count-snoc (c ∷ x) b) (omega arith)

-- so it is the line behind the last byte, and one less where that byte is 10
pub count-line : (x : List ℕ) (b : ℕ) → line_count (x ++ (b ∷ [])) ≡ suc (newlines (x ++ (b ∷ []))) - ended b
count-line x b = rw (count-snoc x b, newlines-snoc x b) (omega arith)

-- a byte that is no white space ends no line
pub no_end : (b : ℕ) → blank b ≡ false → ended b ≡ 0
no_end b e = go (eqb b 10) refl
  where
    go : (t : Bool) → eqb b 10 ≡ t → ◌≡◌ {A = ℕ} (cond t 1 0) 0
    go true f = let z : ◌≡◌ {A = ℕ} 0 1 = cc (rw (eqb-true b 10 f) at e) in absurd (omega arith)
    go false f = refl

module _ (table : List Pair) (room : ℕ) where
  pub byte-line : (m : M) (b : ℕ) → (word_byte table room m b).line ≡ ended b + m.line
  unfolding word_byte
  byte-line m b = go (blank b) refl
    where
      go : (t : Bool) → blank b ≡ t → (word_byte table room m b).line ≡ ended b + m.line
      go true e = rw e
      go false e = rw (e, no_end b e) (omega arith)

  pub fed-line-from : (bs : List ℕ) (m : M) → (fed table room m bs).line ≡ newlines bs + m.line
  unfolding fed newlines
  fed-line-from [] m = omega arith
  fed-line-from (b ∷ bs) m = fed-line-from bs (word_byte table room m b) ∙ rw (byte-line m b) (omega arith)

  pub fed-line : (dump : List ℕ) → (fed table room m₀ dump).line ≡ suc (newlines dump)
  fed-line dump = fed-line-from dump m₀ ∙ omega arith

-- THE LINE COUNT, from the left: the line, and whether the last white space ended it, where no word is open
abbrev pub is_open_at : List ℕ → Bool
is_open_at [] = false
is_open_at (b ∷ w) = true

unfoldable pub started_by : ℕ → ℕ → ℕ
started_by s b = cond (blank b) (cond (eqb b 10) 0 1) s

unfoldable pub started_of : ℕ → List ℕ → ℕ
started_of s [] = s
started_of s (b ∷ bs) = started_of (started_by s b) bs

pub started-snoc : (s : ℕ) (x : List ℕ) (b : ℕ) → started_of s (x ++ (b ∷ [])) ≡ started_by (started_of s x) b
unfolding started_of
started-snoc s [] b = refl
started-snoc s (a ∷ x) b = started-snoc (started_by s a) x b

unfoldable pub count_of : M → ℕ → ℕ
count_of m s = cond (is_open_at m.text) m.line (cond (eqb s 0) (m.line - 1) m.line)

open_snoc : (q : List ℕ) (b : ℕ) → is_open_at (q ++ (b ∷ [])) ≡ true
open_snoc [] b = refl
open_snoc (a ∷ q) b = refl

-- behind any byte it is the line before that byte
pub count-byte : (table : List Pair) (room : ℕ) (m : M) (s b : ℕ) → count_of (word_byte table room m b) (started_by s b) ≡ m.line
unfolding count_of word_byte started_by
count-byte table room m s b = go (blank b) refl (eqb b 10) refl
  where
    go : (t : Bool) → blank b ≡ t → (u : Bool) → eqb b 10 ≡ u → count_of (word_byte table room m b) (started_by s b) ≡ m.line
    go true e true f = rw (e, f) (omega arith)
    go true e false f = rw (e, f) (omega arith)
    go false e u f = rw (e, open_snoc m.text b)

none_is : (table : List Pair) (room : ℕ) → count_of (fed table room m₀ []) (started_of 0 []) ≡ line_count []
unfolding count_of fed started_of line_count
none_is table room = refl

pub count_is : (table : List Pair) (room : ℕ) (dump : List ℕ) → count_of (fed table room m₀ dump) (started_of 0 dump) ≡ line_count dump
count_is table room dump = from dump [] (none_is table room)
  where
    from : (bs x : List ℕ) → count_of (fed table room m₀ x) (started_of 0 x) ≡ line_count x → count_of (fed table room m₀ (x ++ bs)) (started_of 0 (x ++ bs)) ≡ line_count (x ++ bs)
    from [] x h = rw (append-nil x) h
    from (b ∷ bs) x h =
        rw append_snoc at
        (from bs (x ++ (b ∷ [])) (rw (fed-snoc table room m₀ x b, started-snoc 0 x b) (count-byte table room (fed table room m₀ x) (started_of 0 x) b ∙ fed-line table room x ∙ sym (count-snoc x b))))
