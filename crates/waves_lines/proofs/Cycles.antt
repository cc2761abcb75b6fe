-- The lines of a cycle, checker by checker, from each checker's row and the row before. Assumes nothing.
use Prim.Native.Nat.{ℕ, zero, suc, ◌+◌, ◌-◌, ◌*◌, ◌/◌, ◌%◌, ◌^◌, ◌<◌}
use mathlib.Core.Path.{◌≡◌, refl, sym, ap, ◌∙◌}
use mathlib.Core.Bool.{Bool, true, false, cond, not, ◌&&◌, false≢true}
use mathlib.Core.List.{List, [], ◌∷◌, ◌++◌, append-nil, append_assoc}
use native.Mathlib.Omega.{arith}
use lib.Dec.{eqb, ltb}
use lib.ListN.{get_or}
use borrow.Author.Tests.{ne_eqb, ltb-true}
use Rattle.dump.specs.Text.{bytes}
use Rattle.first_failure.specs.Search.{row_at}
use Rattle.waves.specs.Text.{line, text, decimal, each}
use Rattle.waves.specs.Waves.{name_of, name, value_at, changed, change_line, falls, rises, cycle_lines}
use Rattle.waves.specs.Answer.{only_marks}
use Rattle.waves.proofs.Each.{each_append, each_same, text-append, text-each}
use Rattle.waves_lines.specs.Lines.{mark_line, marks_text, row_before}

-- ROWS of marks
both : (a b : Bool) → a && b ≡ true → (a ≡ true) × (b ≡ true)
both true b h = (refl, h)
both false b h = absurd (false≢true h)

pub row-below : (rows : List ℕ) → only_marks rows ≡ true → (p : ℕ) → get_or rows p 0 < 64
unfolding only_marks
row-below [] h p = omega arith
row-below (r ∷ rows) h zero = ltb-true r 64 (both (ltb r 64) (only_marks rows) h).0
row-below (r ∷ rows) h (suc p) = row-below rows (both (ltb r 64) (only_marks rows) h).1 p

-- 63 less a row differs from it in every mark
other-row : (row i : ℕ) → row < 64 → i < 6 → row / 2 ^ i % 2 ≡ (63 - row % 64) / 2 ^ i % 2 → ⊥
other-row row zero h l e = omega (arith, e, h)
other-row row (suc zero) h l e = omega (arith, e, h)
other-row row (suc (suc zero)) h l e = omega (arith, e, h)
other-row row (suc (suc (suc zero))) h l e = omega (arith, e, h)
other-row row (suc (suc (suc (suc zero)))) h l e = omega (arith, e, h)
other-row row (suc (suc (suc (suc (suc zero))))) h l e = omega (arith, e, h)
other-row row (suc (suc (suc (suc (suc (suc i)))))) h l e = absurd (omega (arith, l))

-- WIRE 6k + i is mark 2^i of checker k
module _ (cycles : ℕ) (rows : List ℕ) (k i : ℕ) (few : i < 6) where
  wire-value : (t : ℕ) → value_at cycles rows t (6 * k + i) ≡ row_at rows cycles k t / 2 ^ i % 2
  unfolding value_at
  wire-value t =
      let a : (6 * k + i) / 6 ≡ k = omega (arith, few) in
      let b : (6 * k + i) % 6 ≡ i = omega (arith, few) in
      rw (a, b) refl

  wire-name : name (6 * k + i) ≡ name_of k (2 ^ i)
  unfolding name
  wire-name =
      let a : (6 * k + i) / 6 ≡ k = omega (arith, few) in
      let b : (6 * k + i) % 6 ≡ i = omega (arith, few) in
      rw (a, b) refl

  -- it changes where the row before has another value
  wire-changed : only_marks rows ≡ true → (t : ℕ) → changed cycles rows t (6 * k + i) ≡ not (eqb (row_at rows cycles k t / 2 ^ i % 2) (row_before rows (k * cycles + t) t / 2 ^ i % 2))
  unfolding changed row_before
  wire-changed marks zero = sym (ap not (ne_eqb (row_at rows cycles k 0 / 2 ^ i % 2) ((63 - row_at rows cycles k 0 % 64) / 2 ^ i % 2) (other-row (row_at rows cycles k 0) i (row-below rows marks (k * cycles + 0)) few)))
  wire-changed marks (suc t) =
      let one : (k * cycles + suc t) - 1 ≡ k * cycles + t = omega arith in
      rw (wire-value (suc t), wire-value t, ne_eqb (suc t) 0 (λ e. omega (arith, e)), one) refl

  wire-line : only_marks rows ≡ true → (t : ℕ) → text (change_line cycles rows t (6 * k + i)) ≡ mark_line (row_at rows cycles k t) (row_before rows (k * cycles + t) t) k i
  unfolding mark_line text
  wire-line marks t = rw (wire-changed marks t, wire-value t, wire-name) (by (eqb (row_at rows cycles k t / 2 ^ i % 2) (row_before rows (k * cycles + t) t / 2 ^ i % 2)) (((48 + row_at rows cycles k t / 2 ^ i % 2) ∷ name_of k (2 ^ i)) ∷ []))
    where
      by : (q : Bool) (l : List (List ℕ)) → text (cond (not q) (l ∷ []) []) ≡ cond q [] (line l)
      by true l = refl
      by false l = append-nil (line l)

-- CHECKER BY CHECKER
abbrev pub checker_text : ℕ → List ℕ → ℕ → ℕ → List ℕ
checker_text cycles rows t k = marks_text (row_at rows cycles k t) (row_before rows (k * cycles + t) t) k

by-six : (g : ℕ → List ℕ) (k m : ℕ) → each g (6 * k) (6 * m) ≡ each (λ k. each g (6 * k) 6) k m
unfolding each
by-six g k zero = refl
by-six g k (suc m) =
    let a : 6 * suc m ≡ 6 + 6 * m = omega arith in
    let b : 6 * k + 6 ≡ 6 * suc k = omega arith in
    rw a (each_append g (6 * k) 6 (6 * m) ∙ ap (λ (l : List ℕ). each g (6 * k) 6 ++ l) (ap (λ (j : ℕ). each g j (6 * m)) b ∙ by-six g (suc k) m))

checker-lines : (cycles : ℕ) (rows : List ℕ) → only_marks rows ≡ true → (t k : ℕ) → each (λ j. text (change_line cycles rows t j)) (6 * k) 6 ≡ checker_text cycles rows t k
unfolding marks_text
checker-lines cycles rows marks t k =
    each_same (λ j. text (change_line cycles rows t j)) (mark_line (row_at rows cycles k t) (row_before rows (k * cycles + t) t) k) (6 * k) 0 6
    (λ i h. let z : 0 + i ≡ i = omega arith in rw z (wire-line cycles rows k i h marks t))

checkers-lines : (checkers cycles : ℕ) (rows : List ℕ) → only_marks rows ≡ true → (t : ℕ) → text (each (change_line cycles rows t) 0 (6 * checkers)) ≡ each (checker_text cycles rows t) 0 checkers
checkers-lines checkers cycles rows marks t =
    text-each (change_line cycles rows t) 0 (6 * checkers)
    ∙ by-six (λ j. text (change_line cycles rows t j)) 0 checkers
    ∙ each_same (λ k. each (λ j. text (change_line cycles rows t j)) (6 * k) 6) (checker_text cycles rows t) 0 0 checkers (λ k h. checker-lines cycles rows marks t (0 + k))

-- THE STAMPS
abbrev pub falling : ℕ → List ℕ
falling t = (bytes "#" ++ decimal (2 * t)) ++ bytes "\n0clk\n"

abbrev pub rising : ℕ → List ℕ
rising t = (bytes "#" ++ decimal (2 * t + 1)) ++ bytes "\n1clk\n"

falls-text : (t : ℕ) → text (falls t) ≡ falling t
unfolding text line
falls-text t = ap (λ (l : List ℕ). 35 ∷ l) (append_assoc (decimal (2 * t)) (10 ∷ []) (bytes "0clk\n"))

rises-text : (t : ℕ) → text (rises t) ≡ rising t
unfolding text line
rises-text t = ap (λ (l : List ℕ). 35 ∷ l) (append_assoc (decimal (2 * t + 1)) (10 ∷ []) (bytes "1clk\n"))

pub cycle-parts : (checkers cycles : ℕ) (rows : List ℕ) → only_marks rows ≡ true → (t : ℕ) → text (cycle_lines checkers cycles rows t) ≡ falling t ++ (each (checker_text cycles rows t) 0 checkers ++ rising t)
unfolding cycle_lines
cycle-parts checkers cycles rows marks t =
    text-append (falls t ++ each (change_line cycles rows t) 0 (6 * checkers)) (rises t)
    ∙ rw (text-append (falls t) (each (change_line cycles rows t) 0 (6 * checkers)), falls-text t, checkers-lines checkers cycles rows marks t, rises-text t) (append_assoc (falling t) (each (checker_text cycles rows t) 0 checkers) (rising t))
