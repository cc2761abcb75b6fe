-- `stability::step::stability_step` meets its contract: each way out is a case of the definition (`TriggerCode`). Assumes nothing.
use Prim.Native.Nat.{ℕ, ◌+◌, ◌-◌, ◌^◌, ◌<◌, ◌≤◌}
use mathlib.Core.Path.{◌≡◌, refl, sym, ap, ap₂, ◌∙◌}
use mathlib.Core.Bool.{Bool, false, not, ◌&&◌, cond}
use native.Mathlib.Omega.{arith}
use lib.Dec.{T, eqb, leb}
use borrow.Author.Tests.{lt-leb, ne_eqb}
use Rattle.rules.specs.declared.config.Config.{Config}
use Rattle.rules.specs.Config.{Good, family}
use Rattle.rules.specs.Config.Family.{stability}
use Rattle.rules.specs.Possible.{going_possible}
use Rattle.rules.specs.Frame.{enabled, P, known_p}
use Rattle.rules.specs.Rules.{row_of, window_marks}
use Rattle.rules.specs.Step.{left_in}
use Rattle.rules.specs.Trigger.{with_reference}
use Rattle.rules.proofs.Good.{stability-config}
use Rattle.rules.proofs.TriggerWords.{word-parts}
use Rattle.trigger.proofs.TriggerCode.{first-steps, window-trigger, window-left, reference-known}
use Rattle.stability.proofs.step.stability_step.Goals as goal
use Rattle.stability.proofs.step.stability_step.Goals.{then-opened, else-opened}

-- a word without a reference is the cycles left
plain : (k : Config) (word : ℕ) → Good k → family k.kind ≡ stability → T (going_possible k word) → word < 2 ^ 48 → word ≤ k.n
plain k word good fam possible below = (word-parts k word fam (stability-config k good fam).high possible).plain-low below

pub compared_step-requires : goal.compared_step-requires
compared_step-requires c = let s = c in (s.requires.0, s.requires.1, s.requires.2, c.if-word-ge-REFERENCE_HELD.true)

pub returns-then-word-ge-REFERENCE_HELD : goal.returns-then-word-ge-REFERENCE_HELD
returns-then-word-ge-REFERENCE_HELD c = λ f o. c.compared_step.ensures f

pub overflow_sub-left : goal.overflow_sub-left
overflow_sub-left c = let a = c.args in omega (arith, c.if-opened.false)

pub is_tested-tested-requires : goal.is_tested-tested-requires
is_tested-tested-requires c = (stability-config c.args.c c.requires.0 c.requires.1).low

pub first_word-requires : goal.first_word-requires
first_word-requires c =
    let a = c.args in
    let few = plain a.c a.word c.requires.0 c.requires.1 c.requires.2 c.if-word-ge-REFERENCE_HELD.false in
    let high = (stability-config a.c c.requires.0 c.requires.1).high in
    elim c.if-opened.branch [ then-opened w ↦ omega (arith, w.left-is, high) | else-opened w ↦ omega (arith, w.left-is, few, high) ]

pub returns : goal.returns
returns c = λ f o on tracks.
    let a = c.args in
    let below = c.if-word-ge-REFERENCE_HELD.false in
    let k = stability-config a.c c.requires.0 c.requires.1 in
    let few = plain a.c a.word c.requires.0 c.requires.1 c.requires.2 below in
    let high = k.high in
    let small : left_in a.word ≡ a.word = omega (arith, few, high) in
    let left : c.if-opened.left ≡ cond (eqb a.word 0) a.c.n (left_in a.word - 1) =
    rw small (elim c.if-opened.branch [ then-opened w ↦ w.left-is ∙ rw w.if-opened.true refl | else-opened w ↦ w.left-is ∙ rw (ne_eqb a.word 0 w.if-opened.false) refl ]) in
    let tested = c.is_tested-tested.ensures ∙ ap (λ (b : Bool). b && leb c.if-opened.left (a.c.n - a.c.min)) on in
    first-steps a.c a.word f k.low c.if-opened.left (eqb a.word 0) (window-trigger a.c a.word f o) o
    (window-left a.c a.word f o (left_in a.word) ∙ sym left)
    (lt-leb (2 ^ 48) a.word below) c.window_row.result c.first_word.result
    (c.window_row.ensures
    ∙ ap₂ (λ (t k : Bool). row_of (window_marks false (eqb a.word 0) (eqb c.if-opened.left 0) (t && not k))) tested tracks.known_is)
    (c.first_word.ensures
    ∙ ap (λ (x : ℕ). cond (eqb c.if-opened.left 0) 0 (c.if-opened.left + x))
    (ap₂ (λ (t k : Bool). cond (t && k) (with_reference a.t.value) 0) tested tracks.known_is
    ∙ reference-known (enabled f && leb c.if-opened.left (a.c.n - a.c.min)) (known_p a.c f) a.t.value (P a.c f) tracks.value_is))
