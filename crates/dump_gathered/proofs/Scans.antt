-- The range that a scan finds is the word's: `range-ends` to `name-values`. Assumes nothing.
--
-- A scan follows at most one range (`Sought`), since a range has one opening bracket, its first byte. `rest` is what the rest of the word makes of the range that is
-- followed, and `later` the range that begins further on; `whole` is the first of the two that there is. Each byte takes the scan from one `Sought` to the next
-- (`scan_step`), and leaves `whole` as it is (`whole-step`). At the end of the word `result` says what was found.
use mathlib.Core.Path.{◌≡◌, refl, ap}
use mathlib.Core.Bool.{Bool, true, false, cond, not, ◌&&◌, ◌||◌, false≢true}
use mathlib.Core.List.{List, [], ◌∷◌}
use Prim.Native.Nat.{ℕ, suc, ◌+◌, ◌-◌, ◌*◌, ◌^◌}
use lib.Dec.{eqb, ltb}
use borrow.Author.Tests.{eqb-true}
use Rattle.dump.specs.Text.{digit}
use Rattle.dump.specs.Ranges.{Range, no_range, given, right_end, left_end, bracket, name_end, in_name, distance, fits}
use Rattle.dump_words.specs.declared.number.Number.{Number}
use Rattle.dump_words.specs.declared.scan.Scan.{Scan}
use Rattle.dump_words.specs.Gather.{no_number, number_add, counts_after, scanned, scan_phase, left_digit, left_add, right_digit, right_add, scan_add}
use Rattle.dump_gathered.specs.Gathered.{scan_of, kept, lost, first_of_range, first_of_name, scan_ends, scan_right, scan_fits}
use Rattle.dump_gathered.proofs.Numbers.{kept-add, first-add}
use Rattle.dump_gathered.proofs.Codes.{both}

-- THE RANGE THAT IS FOLLOWED, with the values read: none, behind the bracket, in the left end, behind the colon, in the right end; all of it, with one end or two
data Sought : Type 0 where
  nothing : Number → Number → Sought
  opened : Sought
  in_left : ℕ → Sought
  at_colon : ℕ → Sought
  in_right : ℕ → ℕ → Sought
  sought_one_end : ℕ → Sought
  sought_two_ends : ℕ → ℕ → Sought

-- its scan
abbrev phase_of : Sought → ℕ
phase_of (nothing x y) = 0
phase_of opened = 1
phase_of (in_left l) = 1
phase_of (at_colon l) = 2
phase_of (in_right l r) = 2
phase_of (sought_one_end l) = 3
phase_of (sought_two_ends l r) = 4

abbrev left_of : Sought → Number
left_of (nothing x y) = x
left_of opened = no_number
left_of (in_left l) = kept l
left_of (at_colon l) = kept l
left_of (in_right l r) = kept l
left_of (sought_one_end l) = kept l
left_of (sought_two_ends l r) = kept l

abbrev right_of : Sought → Number
right_of (nothing x y) = y
right_of opened = no_number
right_of (in_left l) = no_number
right_of (at_colon l) = no_number
right_of (in_right l r) = kept r
right_of (sought_one_end l) = no_number
right_of (sought_two_ends l r) = kept r

abbrev scan_for : ℕ → ℕ → Sought → Scan
scan_for k c z = record { kind = k; counts = c; phase = phase_of z; left = left_of z; right = right_of z }

-- one more byte: any, and one that opens a range if c says that it counts
abbrev next_sought : Sought → ℕ → Sought
next_sought (nothing x y) b = nothing x y
next_sought opened b = cond (digit b) (in_left (0 * 10 + (b - 48))) (nothing lost no_number)
next_sought (in_left l) b = cond (eqb b 58) (at_colon l) (cond (eqb b 93) (sought_one_end l) (cond (digit b) (in_left (l * 10 + (b - 48))) (nothing lost no_number)))
next_sought (at_colon l) b = cond (digit b) (in_right l (0 * 10 + (b - 48))) (nothing (kept l) lost)
next_sought (in_right l r) b = cond (eqb b 93) (sought_two_ends l r) (cond (digit b) (in_right l (r * 10 + (b - 48))) (nothing (kept l) lost))
next_sought (sought_one_end l) b = nothing (kept l) no_number
next_sought (sought_two_ends l r) b = nothing (kept l) (kept r)

abbrev opening : Bool → Sought
opening c = cond c opened (nothing no_number no_number)

abbrev next : Bool → Sought → ℕ → Sought
next c z b = cond (eqb b 91) (opening c) (next_sought z b)

-- THE SCAN GOES WITH IT. What is kept of a value is a number
kept-begun : (v : ℕ) → eqb (kept v).state 0 ≡ false
kept-begun v = go (ltb v (2 ^ 64))
  where
    go : (t : Bool) → eqb (cond {A = Number} t (record { value = v; state = 1 }) (record { value = 0; state = 2 })).state 0 ≡ false
    go true = refl
    go false = refl

kept-phase : (v p : ℕ) → scan_phase (kept v) p ≡ p
unfolding scan_phase
kept-phase v p = go (ltb v (2 ^ 64))
  where
    go : (t : Bool) → cond (eqb (cond {A = Number} t (record { value = v; state = 1 }) (record { value = 0; state = 2 })).state 3) 0 p ≡ p
    go true = refl
    go false = refl

left-digit : (k c : ℕ) (n : Number) (v b : ℕ) → number_add n b ≡ cond (digit b) (kept v) lost
    → left_digit (record { kind = k; counts = c; phase = 1; left = n; right = no_number }) b ≡ scan_for k c (cond (digit b) (in_left v) (nothing lost no_number))
unfolding left_digit scan_phase
left-digit k c n v b e = rw e (go (digit b))
  where
    go : (t : Bool) → record { kind = k; counts = c; phase = scan_phase (cond t (kept v) lost) 1; left = cond t (kept v) lost; right = no_number } ≡ scan_for k c (cond t (in_left v) (nothing lost no_number))
    go true = ap (λ (p : ℕ). record { kind = k; counts = c; phase = p; left = kept v; right = no_number }) (kept-phase v 1)
    go false = refl

right-digit : (k c l : ℕ) (n : Number) (v b : ℕ) → number_add n b ≡ cond (digit b) (kept v) lost
    → right_digit (record { kind = k; counts = c; phase = 2; left = kept l; right = n }) b ≡ scan_for k c (cond (digit b) (in_right l v) (nothing (kept l) lost))
unfolding right_digit scan_phase
right-digit k c l n v b e = rw e (go (digit b))
  where
    go : (t : Bool) → record { kind = k; counts = c; phase = scan_phase (cond t (kept v) lost) 2; left = kept l; right = cond t (kept v) lost } ≡ scan_for k c (cond t (in_right l v) (nothing (kept l) lost))
    go true = ap (λ (p : ℕ). record { kind = k; counts = c; phase = p; left = kept l; right = kept v }) (kept-phase v 2)
    go false = refl

goes_on : (k c : ℕ) (z : Sought) (b : ℕ)
    → cond (eqb (phase_of z) 1) (left_add (scan_for k c z) b) (cond (eqb (phase_of z) 2) (right_add (scan_for k c z) b) (scanned (scan_for k c z) 0 (left_of z) (right_of z))) ≡ scan_for k c (next_sought z b)
unfolding left_add right_add
goes_on k c (nothing x y) b = refl
goes_on k c opened b = left-digit k c no_number (0 * 10 + (b - 48)) b (first-add b)
goes_on k c (in_left l) b = rw (kept-begun l, left-digit k c (kept l) (l * 10 + (b - 48)) b (kept-add l b)) (go (eqb b 58) (eqb b 93) _)
  where
    go : (s t : Bool) (n : Sought) → cond s (scan_for k c (at_colon l)) (cond t (scan_for k c (sought_one_end l)) (scan_for k c n)) ≡ scan_for k c (cond s (at_colon l) (cond t (sought_one_end l) n))
    go true t n = refl
    go false true n = refl
    go false false n = refl
goes_on k c (at_colon l) b = right-digit k c l no_number (0 * 10 + (b - 48)) b (first-add b)
goes_on k c (in_right l r) b = rw (kept-begun r, right-digit k c l (kept r) (r * 10 + (b - 48)) b (kept-add r b)) (go (eqb b 93) _)
  where
    go : (t : Bool) (n : Sought) → cond t (scan_for k c (sought_two_ends l r)) (scan_for k c n) ≡ scan_for k c (cond t (sought_two_ends l r) n)
    go true n = refl
    go false n = refl
goes_on k c (sought_one_end l) b = refl
goes_on k c (sought_two_ends l r) b = refl

scan_step : (k c : ℕ) (z : Sought) (b : ℕ) → scan_add (scan_for k c z) b ≡ scan_for k (counts_after k b) (next (eqb c 1) z b)
unfolding scan_add
scan_step k c z b = go (eqb b 91) (eqb c 1) (next_sought z b) (goes_on k (counts_after k b) z b)
  where
    go : (s t : Bool) {x : Scan} (y : Sought) → x ≡ scan_for k (counts_after k b) y
        → cond s (record { kind = k; counts = counts_after k b; phase = cond t 1 0; left = no_number; right = no_number }) x ≡ scan_for k (counts_after k b) (cond s (opening t) y)
    go true true y e = refl
    go true false y e = refl
    go false t y e = e

-- THE RANGE: what the rest of the word makes of the one that is followed
abbrev at_end : List ℕ → Range → Range
at_end [] r = r
at_end (b ∷ w) r = no_range

abbrev rest : Sought → List ℕ → Range
rest (nothing x y) w = no_range
rest opened w = left_end 0 false w
rest (in_left l) w = left_end l true w
rest (at_colon l) w = right_end l 0 false w
rest (in_right l r) w = right_end l r true w
rest (sought_one_end l) w = at_end w (record { ends = 2; left = l; right = l })
rest (sought_two_ends l r) w = at_end w (record { ends = 1; left = l; right = r })

-- a byte is at most one of a digit, the colon and the closing bracket
module _ (b : ℕ) where
  first-last : no_range ≡ cond (digit b) no_range no_range
  first-last = go (digit b)
    where
      go : (t : Bool) → no_range ≡ cond t no_range no_range
      go true = refl
      go false = refl

  right-last : (x : Range) → cond (eqb b 93) x no_range ≡ cond (eqb b 93) x (cond (digit b) no_range no_range)
  right-last x = ap (λ (r : Range). cond (eqb b 93) x r) first-last

  left-last : (x : Range) → cond (eqb b 93) x no_range ≡ cond (eqb b 58) no_range (cond (eqb b 93) x (cond (digit b) no_range no_range))
  left-last x = go (eqb b 58) refl
    where
      go : (t : Bool) → eqb b 58 ≡ t → cond (eqb b 93) x no_range ≡ cond (eqb b 58) no_range (cond (eqb b 93) x (cond (digit b) no_range no_range))
      go true e = rw (eqb-true b 58 e)
      go false e = rw e (right-last x)

  right-more : (x : Range) → cond (digit b) x no_range ≡ cond (eqb b 93) no_range (cond (digit b) x no_range)
  right-more x = go (eqb b 93) refl
    where
      go : (t : Bool) → eqb b 93 ≡ t → cond (digit b) x no_range ≡ cond (eqb b 93) no_range (cond (digit b) x no_range)
      go true e = rw (eqb-true b 93 e)
      go false e = rw e

  left-more : (x y : Range) → cond (digit b) x (cond (eqb b 58) y no_range) ≡ cond (eqb b 58) y (cond (eqb b 93) no_range (cond (digit b) x no_range))
  left-more x y = go (eqb b 58) refl
    where
      go : (t : Bool) → eqb b 58 ≡ t → cond (digit b) x (cond (eqb b 58) y no_range) ≡ cond (eqb b 58) y (cond (eqb b 93) no_range (cond (digit b) x no_range))
      go true e = rw (eqb-true b 58 e)
      go false e = rw e (right-more x)

rest-cond : (t : Bool) (x y : Sought) (w : List ℕ) → rest (cond t x y) w ≡ cond t (rest x w) (rest y w)
rest-cond true x y w = refl
rest-cond false x y w = refl

rest-step : (z : Sought) (b : ℕ) (w : List ℕ) → rest z (b ∷ w) ≡ rest (next_sought z b) w
unfolding left_end right_end
rest-step (nothing x y) b w = refl
rest-step opened b [] = simp rest-cond (first-last b)
rest-step opened b (d ∷ w) = simp rest-cond
rest-step (in_left l) b [] = simp rest-cond (left-last b _)
rest-step (in_left l) b (d ∷ w) = simp rest-cond (left-more b _ _)
rest-step (at_colon l) b [] = simp rest-cond (first-last b)
rest-step (at_colon l) b (d ∷ w) = simp rest-cond
rest-step (in_right l r) b [] = simp rest-cond (right-last b _)
rest-step (in_right l r) b (d ∷ w) = simp rest-cond (right-more b _)
rest-step (sought_one_end l) b w = refl
rest-step (sought_two_ends l r) b w = refl

-- the range that begins further on, in a word of kind k whose next byte counts if c says so
unfoldable later : ℕ → Bool → List ℕ → Range
later k c [] = no_range
later k c (b ∷ w) = cond (c && given (bracket (b ∷ w))) (bracket (b ∷ w)) (later k (eqb (counts_after k b) 1) w)

abbrev first : Range → Range → Range
first x y = cond (given x) x y

abbrev whole : ℕ → Bool → Sought → List ℕ → Range
whole k c z w = first (rest z w) (later k c w)

whole-step : (k : ℕ) (c : Bool) (z : Sought) (b : ℕ) (w : List ℕ) → whole k c z (b ∷ w) ≡ whole k (eqb (counts_after k b) 1) (next c z b) w
unfolding later bracket
whole-step k c z b w = rw (rest-step z b w) (go (eqb b 91) refl c)
  where
    -- a bracket ends the range that is followed
    stops : (y : Sought) → rest (next_sought y 91) w ≡ no_range
    stops (nothing x y) = refl
    stops opened = refl
    stops (in_left l) = refl
    stops (at_colon l) = refl
    stops (in_right l r) = refl
    stops (sought_one_end l) = refl
    stops (sought_two_ends l r) = refl

    go : (t : Bool) → eqb b 91 ≡ t → (c : Bool)
        → first (rest (next_sought z b) w) (cond (c && given (cond (eqb b 91) (left_end 0 false w) no_range)) (cond (eqb b 91) (left_end 0 false w) no_range) (later k (eqb (counts_after k b) 1) w))
        ≡ first (rest (cond (eqb b 91) (opening c) (next_sought z b)) w) (later k (eqb (counts_after k b) 1) w)
    go true e true = rw (eqb-true b 91 e, stops z)
    go true e false = rw (eqb-true b 91 e, stops z)
    go false e true = rw e
    go false e false = rw e

-- AT THE END
abbrev result : Sought → Range
result (nothing x y) = no_range
result opened = no_range
result (in_left l) = no_range
result (at_colon l) = no_range
result (in_right l r) = no_range
result (sought_one_end l) = record { ends = 2; left = l; right = l }
result (sought_two_ends l r) = record { ends = 1; left = l; right = r }

at-end : (z : Sought) → rest z [] ≡ result z
unfolding left_end right_end
at-end (nothing x y) = refl
at-end opened = refl
at-end (in_left l) = refl
at-end (at_colon l) = refl
at-end (in_right l r) = refl
at-end (sought_one_end l) = refl
at-end (sought_two_ends l r) = refl

one-result : (z : Sought) → first (result z) no_range ≡ result z
one-result (nothing x y) = refl
one-result opened = refl
one-result (in_left l) = refl
one-result (at_colon l) = refl
one-result (in_right l r) = refl
one-result (sought_one_end l) = refl
one-result (sought_two_ends l r) = refl

-- a scan s and a range r that are of one `Sought`
record Agree (s : Scan) (r : Range) : Type 0 where
  kind : ℕ
  counts : ℕ
  sought : Sought
  scan-is : s ≡ scan_for kind counts sought
  range_is : r ≡ result sought

agree : (k c : ℕ) (z : Sought) (w : List ℕ) → Agree (scan_of (scan_for k c z) w) (whole k (eqb c 1) z w)
unfolding scan_of later
agree k c z [] = record { kind = k; counts = c; sought = z; scan-is = refl; range_is = rw (at-end z) (one-result z) }
agree k c z (b ∷ w) = rw (scan_step k c z b, whole-step k (eqb c 1) z b w) (agree k (counts_after k b) (next (eqb c 1) z b) w)

-- a range as a word of its own: nothing counts behind its first byte
no-later : (w : List ℕ) → later 2 false w ≡ no_range
unfolding later counts_after
no-later [] = refl
no-later (b ∷ w) = no-later w

one-rest : (z : Sought) (w : List ℕ) → first (rest z w) no_range ≡ rest z w
one-rest z [] = rw (at-end z) (one-result z)
one-rest z (b ∷ w) = rw (rest-step z b w) (one-rest (next_sought z b) w)

agree-range : (b : ℕ) (w : List ℕ) → Agree (scan_of (first_of_range b) w) (bracket (b ∷ w))
unfolding first_of_range bracket
agree-range b w = go (eqb b 91)
  where
    go : (t : Bool) → Agree (scan_of (record { kind = 2; counts = 0; phase = cond t 1 0; left = no_number; right = no_number }) w) (cond t (left_end 0 false w) no_range)
    go true = rw (no-later w, one-rest opened w) at (agree 2 0 opened w)
    go false = rw (no-later w) at (agree 2 0 (nothing no_number no_number) w)

-- a range in a name
later-name : (e c : Bool) (w : List ℕ) → later (cond e 1 0) c w ≡ name_end e c w
unfolding later name_end counts_after
later-name e c [] = refl
later-name e c (b ∷ w) = ap (λ (r : Range). cond (c && given (bracket (b ∷ w))) (bracket (b ∷ w)) r) (rw (go e (eqb b 92)) (later-name e (not e || eqb b 92) w))
  where
    go : (e t : Bool) → eqb (cond (eqb (cond e 1 0) 0) 1 (cond (eqb (cond e 1 0) 1) (cond t 1 0) 0)) 1 ≡ not e || t
    go true true = refl
    go true false = refl
    go false t = refl

agree-name : (b : ℕ) (w : List ℕ) → Agree (scan_of (first_of_name b) w) (in_name (b ∷ w))
unfolding first_of_name in_name
agree-name b w = go (eqb b 92)
  where
    go : (t : Bool) → Agree (scan_of (scan_for (cond t 1 0) (cond t 0 1) (nothing no_number no_number)) w) (name_end t (not t) w)
    go true = rw (later-name true false w) at (agree 1 0 (nothing no_number no_number) w)
    go false = rw (later-name false true w) at (agree 0 1 (nothing no_number no_number) w)

-- WHAT IS ASKED OF A RANGE, of both kinds of it. What is kept of two values says whether they fit
kept-fits : (width l r : ℕ)
    → ltb l (2 ^ 64) && ltb r (2 ^ 64) && eqb (suc (distance l r)) width ≡ eqb (kept l).state 1 && eqb (kept r).state 1 && eqb (suc (distance (kept l).value (kept r).value)) width
kept-fits width l r = go (ltb l (2 ^ 64)) refl (ltb r (2 ^ 64)) refl
  where
    go : (s : Bool) → ltb l (2 ^ 64) ≡ s → (t : Bool) → ltb r (2 ^ 64) ≡ t
        → ltb l (2 ^ 64) && ltb r (2 ^ 64) && eqb (suc (distance l r)) width ≡ eqb (kept l).state 1 && eqb (kept r).state 1 && eqb (suc (distance (kept l).value (kept r).value)) width
    go true e true f = rw (e, f)
    go true e false f = rw (e, f)
    go false e t f = rw e

module _ (s : Scan) (r : Range) (a : Agree s r) where
  ends : r.ends ≡ scan_ends s
  unfolding scan_ends
  ends = rw (a.scan-is, a.range_is) (go a.sought)
    where
      go : (z : Sought) → (result z).ends ≡ cond (eqb (phase_of z) 4) 1 (cond (eqb (phase_of z) 3) 2 0)
      go (nothing x y) = refl
      go opened = refl
      go (in_left l) = refl
      go (at_colon l) = refl
      go (in_right l r) = refl
      go (sought_one_end l) = refl
      go (sought_two_ends l r) = refl

  -- there is one, with one end or with two
  by-ends : (P : Scan → Range → Type 0) → ltb 0 (scan_ends s) ≡ true
      → ((k c l : ℕ) → P (scan_for k c (sought_one_end l)) (result (sought_one_end l))) → ((k c l r : ℕ) → P (scan_for k c (sought_two_ends l r)) (result (sought_two_ends l r))) → P s r
  by-ends P e f g = rw (a.scan-is, a.range_is) (go a.sought (rw (← ends, a.range_is) at e))
    where
      go : (z : Sought) → given (result z) ≡ true → P (scan_for a.kind a.counts z) (result z)
      go (nothing x y) e = absurd (false≢true e)
      go opened e = absurd (false≢true e)
      go (in_left l) e = absurd (false≢true e)
      go (at_colon l) e = absurd (false≢true e)
      go (in_right l r) e = absurd (false≢true e)
      go (sought_one_end l) e = f a.kind a.counts l
      go (sought_two_ends l r) e = g a.kind a.counts l r

  fitting : ltb 0 (scan_ends s) ≡ true → (width : ℕ) → fits width r ≡ scan_fits width s
  unfolding fits scan_fits scan_right
  fitting e width = by-ends (λ (s : Scan) (r : Range). fits width r ≡ scan_fits width s) e (λ k c l. kept-fits width l l) (λ k c l r. kept-fits width l r)

  values : ltb 0 (scan_ends s) ≡ true → (width : ℕ) → fits width r ≡ true → (r.left ≡ s.left.value) × (r.right ≡ (scan_right s).value)
  unfolding fits scan_right
  values e width = by-ends (λ (s : Scan) (r : Range). fits width r ≡ true → (r.left ≡ s.left.value) × (r.right ≡ (scan_right s).value)) e (λ k c l. go l l) (λ k c l r. go l r)
    where
      go : (l r : ℕ) → ltb l (2 ^ 64) && ltb r (2 ^ 64) && eqb (suc (distance l r)) width ≡ true → (l ≡ (kept l).value) × (r ≡ (kept r).value)
      go l r h =
          let (p, q) = both (ltb l (2 ^ 64) && ltb r (2 ^ 64)) (eqb (suc (distance l r)) width) h in
          let (x, y) = both (ltb l (2 ^ 64)) (ltb r (2 ^ 64)) p in
          rw (x, y) (refl, refl)

pub range-ends : (b : ℕ) (w : List ℕ) → (bracket (b ∷ w)).ends ≡ scan_ends (scan_of (first_of_range b) w)
range-ends b w = ends _ _ (agree-range b w)

pub range-fits : (b : ℕ) (w : List ℕ) → ltb 0 (scan_ends (scan_of (first_of_range b) w)) ≡ true → (width : ℕ) → fits width (bracket (b ∷ w)) ≡ scan_fits width (scan_of (first_of_range b) w)
range-fits b w = fitting _ _ (agree-range b w)

pub range-values : (b : ℕ) (w : List ℕ) → ltb 0 (scan_ends (scan_of (first_of_range b) w)) ≡ true → (width : ℕ) → fits width (bracket (b ∷ w)) ≡ true
    → ((bracket (b ∷ w)).left ≡ (scan_of (first_of_range b) w).left.value) × ((bracket (b ∷ w)).right ≡ (scan_right (scan_of (first_of_range b) w)).value)
range-values b w = values _ _ (agree-range b w)

pub name-ends : (b : ℕ) (w : List ℕ) → (in_name (b ∷ w)).ends ≡ scan_ends (scan_of (first_of_name b) w)
name-ends b w = ends _ _ (agree-name b w)

pub name-fits : (b : ℕ) (w : List ℕ) → ltb 0 (scan_ends (scan_of (first_of_name b) w)) ≡ true → (width : ℕ) → fits width (in_name (b ∷ w)) ≡ scan_fits width (scan_of (first_of_name b) w)
name-fits b w = fitting _ _ (agree-name b w)

pub name-values : (b : ℕ) (w : List ℕ) → ltb 0 (scan_ends (scan_of (first_of_name b) w)) ≡ true → (width : ℕ) → fits width (in_name (b ∷ w)) ≡ true
    → ((in_name (b ∷ w)).left ≡ (scan_of (first_of_name b) w).left.value) × ((in_name (b ∷ w)).right ≡ (scan_right (scan_of (first_of_name b) w)).value)
name-values b w = values _ _ (agree-name b w)
