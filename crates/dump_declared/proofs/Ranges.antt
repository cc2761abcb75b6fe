-- The name and the range of a variable: places 10 and 11. Assumes nothing.
use mathlib.Core.Path.{◌≡◌, refl, ◌∙◌, sym, ap}
use mathlib.Core.Bool.{Bool, true, false, cond, not, ◌&&◌, ◌||◌}
use mathlib.Core.List.{List, [], ◌∷◌}
use Prim.Native.Nat.{ℕ, suc, ◌<◌, ◌≤◌}
use native.Mathlib.Omega.{arith}
use lib.Dec.{eqb, ltb}
use borrow.Author.Tests.{eq-eqb, ne_eqb, eqb-false}
use Rattle.dump.specs.State.{State, Var, refuse, with_var}
use Rattle.dump.specs.Ranges.{Range, no_range, given, bracket, name_end, in_name, name_range, distance, fits}
use Rattle.dump.specs.Declarations as D
use Rattle.dump_words.specs.declared.number.Number.{Number}
use Rattle.dump_words.specs.declared.scan.Scan.{Scan}
use Rattle.dump_words.specs.Gather.{no_text, scan_phase, left_digit, left_add, right_digit, right_add, scan_add}
use Rattle.dump_gathered.specs.Gathered.{text_of, scan_of, Bytes, first_of_range, first_of_name, scan_ends, scan_right, scan_fits}
use Rattle.dump_gathered.proofs.Scans.{range-ends, range-fits, range-values, name-ends, name-fits, name-values}
use Rattle.dump_declare.specs.declared.head.Head.{Head}
use Rattle.dump_declare.specs.Declare as C
use Rattle.dump_declared.specs.Declared.{state_of, var_of}
use Rattle.dump_declared.proofs.Says.{Says, says, by-test}
use Rattle.dump_declared.proofs.Commands.{end_is}

-- a range at the end of a name is given, or it is `no_range`
name-none : (x y : Bool) (w : List ℕ) → ltb 0 (name_end x y w).ends ≡ false → name_end x y w ≡ no_range
unfolding name_end
name-none x y [] e = refl
name-none x y (b ∷ w) e = go (bracket (b ∷ w)) (name_end x (not x || eqb b 92) w) (λ f. name-none x (not x || eqb b 92) w f) y (given (bracket (b ∷ w))) refl e
  where
    go : (r q : Range) → (ltb 0 q.ends ≡ false → q ≡ no_range) → (y t : Bool) → ltb 0 r.ends ≡ t → ltb 0 (cond (y && ltb 0 r.ends) r q).ends ≡ false → cond (y && ltb 0 r.ends) r q ≡ no_range
    go r q ih false t f e = ih e
    go r q ih true false f e = rw f (ih (rw f at e))
    go r q ih true true f e = let z : ◌≡◌ {A = ℕ} 0 1 = cc (rw f at e) in absurd (omega arith)

-- THE PHASE of a scan is at most 4
most-cond : (t : Bool) (x y : Scan) → x.phase ≤ 4 → y.phase ≤ 4 → (cond t x y).phase ≤ 4
most-cond true x y f g = f
most-cond false x y f g = g

digit-most : (n : Number) (p : ℕ) → p ≤ 4 → scan_phase n p ≤ 4
unfolding scan_phase
digit-most n p h = go (eqb n.state 3)
  where
    go : (t : Bool) → cond t 0 p ≤ 4
    go true = omega arith
    go false = h

add_most : (s : Scan) (b : ℕ) → (scan_add s b).phase ≤ 4
unfolding scan_add left_add right_add left_digit right_digit
add_most s b =
    most-cond (eqb b 91) _ _ (opened (eqb s.counts 1))
    (most-cond (eqb s.phase 1) _ _
    (most-cond (eqb s.left.state 0) _ _ (digit-most _ 1 (omega arith)) (most-cond (eqb b 58) _ _ (omega arith) (most-cond (eqb b 93) _ _ (omega arith) (digit-most _ 1 (omega arith)))))
    (most-cond (eqb s.phase 2) _ _
    (most-cond (eqb s.right.state 0) _ _ (digit-most _ 2 (omega arith)) (most-cond (eqb b 93) _ _ (omega arith) (digit-most _ 2 (omega arith))))
    (omega arith)))
  where
    opened : (t : Bool) → cond t 1 0 ≤ 4
    opened true = omega arith
    opened false = omega arith

phase-most : (s : Scan) (w : List ℕ) → s.phase ≤ 4 → (scan_of s w).phase ≤ 4
unfolding scan_of
phase-most s [] h = h
phase-most s (b ∷ w) h = phase-most (scan_add s b) w (add_most s b)

-- A RANGE THAT IS GIVEN: it fits as its numbers do, and then these are its ends
fits-same : (width : ℕ) (l r : Number) → C.numbers_fit width l r ≡ eqb l.state 1 && eqb r.state 1 && eqb (suc (distance l.value r.value)) width
unfolding C.numbers_fit C.range_fits
fits-same width l r = go (eqb l.state 1) (eqb r.state 1) (eqb (suc (distance l.value r.value)) width)
  where
    go : (x y z : Bool) → cond x (cond y z false) false ≡ x && y && z
    go true true z = refl
    go true false z = refl
    go false y z = refl

range-of : (r : Range) {e l m : ℕ} → r.ends ≡ e → r.left ≡ l → r.right ≡ m → record { ends = e; left = l; right = m } ≡ r
range-of r f g h = rw (← f, ← g, ← h)

record Given (width e : ℕ) (l m : Number) (r : Range) : Type 0 where
  some : given r ≡ true
  ends-are : r.ends ≡ e
  fits-as : fits width r ≡ C.numbers_fit width l m
  left_is : fits width r ≡ true → r.left ≡ l.value
  right_is : fits width r ≡ true → r.right ≡ m.value

module _ (h : Head) (store : List ℕ) where
  abbrev s : State
  s = state_of h store

  abbrev ranged : Bool → Range → Var
  ranged misfit r = record { real = s.var.real; width = s.var.width; code = s.var.code; misfit = misfit; range = r }

  module _ (e : ℕ) (l m : Number) (r : Range) (g : Given h.width e l m r) where
    -- both sides test whether it fits
    fitting : (p : ℕ) → fits h.width r ≡ true → Says (C.named h p 0 e l.value m.value) store (with_var s p (ranged false r))
    fitting p f = record { same = ap (λ (q : Range). with_var s p (ranged false q)) (range-of r g.ends-are (g.left_is f) (g.right_is f)) }

    name-given : Says (C.name_with h e l m) store (with_var s 11 (D.named (var_of h) r))
    unfolding C.name_with D.named
    name-given = rw (← g.fits-as, g.some) (go (fits h.width r) refl)
      where
        go : (t : Bool) → fits h.width r ≡ t → Says (cond t (C.named h 11 0 e l.value m.value) (C.named h 11 1 0 0 0)) store (with_var s 11 (cond (not t) (ranged true no_range) (ranged false r)))
        go true f = fitting 11 f
        go false f = says _ _

    range-given : Says (C.range_with h e l m) store (cond (fits h.width r) (with_var s 12 (ranged false r)) (refuse s 10))
    unfolding C.range_with
    range-given = rw (← g.fits-as) (go (fits h.width r) refl)
      where
        go : (t : Bool) → fits h.width r ≡ t → Says (cond t (C.named h 12 0 e l.value m.value) (C.at h 110)) store (cond t (with_var s 12 (ranged false r)) (refuse s 10))
        go true f = fitting 12 f
        go false f = says _ _

  -- A SCAN AND A RANGE, by the scan's phase
  module _ (z : Scan) (r : Range) (ends : r.ends ≡ scan_ends z)
      (fit : ltb 0 (scan_ends z) ≡ true → (width : ℕ) → fits width r ≡ scan_fits width z)
      (values : ltb 0 (scan_ends z) ≡ true → (width : ℕ) → fits width r ≡ true → (r.left ≡ z.left.value) × (r.right ≡ (scan_right z).value)) where
    two_ends : eqb z.phase 4 ≡ true → Given h.width 1 z.left z.right r
    unfolding scan_ends scan_right scan_fits
    two_ends e = record {
      some = ap (ltb 0) (rw e at ends);
      ends-are = rw e at ends;
      fits-as = (rw e at fit) refl h.width ∙ sym (fits-same h.width z.left z.right);
      left_is = λ f. ((rw e at values) refl h.width f).0;
      right_is = λ f. ((rw e at values) refl h.width f).1;
    }

    one_end : eqb z.phase 4 ≡ false → eqb z.phase 3 ≡ true → Given h.width 2 z.left z.left r
    unfolding scan_ends scan_right scan_fits
    one_end e f = record {
      some = ap (ltb 0) (rw (e, f) at ends);
      ends-are = rw (e, f) at ends;
      fits-as = (rw (e, f) at fit) refl h.width ∙ sym (fits-same h.width z.left z.left);
      left_is = λ g. ((rw (e, f) at values) refl h.width g).0;
      right_is = λ g. ((rw (e, f) at values) refl h.width g).1;
    }

    -- a range at the end of a name of bits; with one end only where the width is 1
    name_of : (given r ≡ false → r ≡ no_range) → Says (cond (eqb h.real 1) (C.named h 11 0 0 0 0) (cond (eqb z.phase 4) (C.name_with h 1 z.left z.right) (cond (eqb z.phase 3) (cond (eqb h.width 1) (C.name_with h 2 z.left z.left) (C.named h 11 0 0 0 0)) (C.named h 11 0 0 0 0))))
        store (with_var s 11 (D.named (var_of h) (cond (eqb h.real 1 || eqb r.ends 2 && not (eqb h.width 1)) no_range r)))
    unfolding D.named scan_ends
    name_of none = go (eqb h.real 1) (eqb z.phase 4) refl (eqb z.phase 3) refl (eqb h.width 1) (eqb r.ends 2) refl
      where
        go : (x : Bool) (p : Bool) → eqb z.phase 4 ≡ p → (q : Bool) → eqb z.phase 3 ≡ q → (y k : Bool) → eqb r.ends 2 ≡ k
            → Says (cond x (C.named h 11 0 0 0 0) (cond p (C.name_with h 1 z.left z.right) (cond q (cond y (C.name_with h 2 z.left z.left) (C.named h 11 0 0 0 0)) (C.named h 11 0 0 0 0))))
            store (with_var s 11 (D.named (var_of h) (cond (x || k && not y) no_range r)))
        go true p e q f y k g = says _ _
        go false true e q f y k g = let a = two_ends e in rw (sym g ∙ ap (λ (n : ℕ). eqb n 2) a.ends-are) (name-given 1 z.left z.right r a)
        go false false e true f true k g = let a = one_end e f in rw (sym g ∙ ap (λ (n : ℕ). eqb n 2) a.ends-are) (name-given 2 z.left z.left r a)
        go false false e true f false k g = let a = one_end e f in rw (sym g ∙ ap (λ (n : ℕ). eqb n 2) a.ends-are) (says _ _)
        go false false e false f y k g =
            let a : r.ends ≡ 0 = rw (e, f) at ends in
            rw (sym g ∙ ap (λ (n : ℕ). eqb n 2) a, none (ap (ltb 0) a)) (says _ _)

    -- a range word
    range_at : 3 ≤ z.phase → z.phase ≤ 4 → (given r ≡ true) × Says (C.on_range_word h z) store (cond (fits h.width r) (with_var s 12 (ranged false r)) (refuse s 10))
    unfolding C.on_range_word
    range_at p q = go (eqb z.phase 4) refl
      where
        go : (t : Bool) → eqb z.phase 4 ≡ t → (given r ≡ true) × Says (cond t (C.range_with h 1 z.left z.right) (C.range_with h 2 z.left z.left)) store (cond (fits h.width r) (with_var s 12 (ranged false r)) (refuse s 10))
        go true e = let a = two_ends e in (a.some, range-given 1 z.left z.right r a)
        go false e =
            let n : z.phase ≡ 3 = omega (arith, eqb-false z.phase 4 e) in
            let a = one_end e (eq-eqb z.phase 3 n) in (a.some, range-given 2 z.left z.left r a)

    no-range-at : z.phase < 3 → given r ≡ false
    unfolding scan_ends
    no-range-at p = ap (ltb 0) (rw (ne_eqb z.phase 4 (λ e. omega arith), ne_eqb z.phase 3 (λ e. omega arith)) at ends)

  module _ (b : ℕ) (w : List ℕ) where
    pub name_is : Bytes (b ∷ w) → Says (C.on_var_name h (text_of no_text (b ∷ w)) (scan_of (first_of_name b) w)) store (D.on_var_name s (b ∷ w))
    unfolding C.on_var_name D.on_var_name name_range in_name
    name_is g = by-test (end_is h store (b ∷ w) g) (says _ _) (name_of (scan_of (first_of_name b) w) (in_name (b ∷ w)) (name-ends b w) (name-fits b w) (name-values b w) (name-none (eqb b 92) (not (eqb b 92)) w))

    scan-most : (scan_of (first_of_range b) w).phase ≤ 4
    unfolding first_of_range
    scan-most = phase-most (first_of_range b) w (go (eqb b 91))
      where
        go : (t : Bool) → cond t 1 0 ≤ 4
        go true = omega arith
        go false = omega arith

    -- a word that is a range, and any other
    pub range_is : 3 ≤ (scan_of (first_of_range b) w).phase → Says (C.on_range_word h (scan_of (first_of_range b) w)) store (D.on_range s (b ∷ w))
    unfolding D.on_range
    range_is k = let (e, f) = range_at (scan_of (first_of_range b) w) (bracket (b ∷ w)) (range-ends b w) (range-fits b w) (range-values b w) k scan-most in rw e f

    pub range_none : (scan_of (first_of_range b) w).phase < 3 → D.on_range s (b ∷ w) ≡ D.on_var_end s (b ∷ w)
    unfolding D.on_range
    range_none k = rw (no-range-at (scan_of (first_of_range b) w) (bracket (b ∷ w)) (range-ends b w) (range-fits b w) (range-values b w) k)
