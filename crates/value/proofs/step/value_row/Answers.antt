-- `value::step::value_row` meets its contract, from what the functions that it calls ensure: where P has an unknown bit, its value is not compared. Assumes nothing.
use Prim.Native.Nat.{ℕ}
use mathlib.Core.Path.{◌≡◌, refl, sym, ap, ◌∙◌}
use mathlib.Core.Bool.{true, false, and-true, and-false}
use lib.Bits.{bit_and}
use lib.Dec.{eqb}
use borrow.Author.Tests.{eq-eqb, ne_eqb}
use Rattle.rules.specs.Frame.{sample, unknown, P, known_p}
use Rattle.rules.proofs.Good.{value-config}
use Rattle.value.proofs.step.value_row.Goals as goal

pub is_tested-tested-requires : goal.is_tested-tested-requires
is_tested-tested-requires c = let s = c in (value-config s.args.c s.requires.0 s.requires.1).low

pub returns-then-frame-e-ne0 : goal.returns-then-frame-e-ne0
returns-then-frame-e-ne0 c =
    let tested = c in
    let s = tested in
    let a = s.args in
    let none : known_p a.c a.frame ≡ false =
    sym (s.requires.2.none (unknown a.frame 1)) ∙ ne_eqb (bit_and (unknown a.frame 1) a.e.mask) 0 c.if-frame-e-ne0.true in
    c.window_row.ensures ∙ rw (tested.is_tested-tested.ensures, tested.is_enabled.ensures, none, and-false, and-true) refl

pub returns : goal.returns
returns c =
    let sampled = c in
    let e = sampled in
    let tested = e in
    let s = tested in
    let a = s.args in
    let all : known_p a.c a.frame ≡ true =
    sym (s.requires.2.none (unknown a.frame 1)) ∙ eq-eqb (bit_and (unknown a.frame 1) a.e.mask) 0 e.if-frame-e-ne0.false in
    let same : eqb (bit_and sampled.sample.result a.e.mask) a.e.wires ≡ eqb (P a.c a.frame) a.c.value =
    ap (λ (x : ℕ). eqb (bit_and x a.e.mask) a.e.wires) sampled.sample.ensures ∙ s.requires.2.same (sample a.frame 1) in
    c.window_row-2.ensures ∙ rw (tested.is_tested-tested.ensures, tested.is_enabled.ensures, same, all, and-true, and-false) refl
