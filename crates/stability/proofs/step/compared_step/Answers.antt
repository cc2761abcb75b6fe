-- `stability::step::compared_step` meets its contract: a window with a reference is tested to its end. Assumes nothing.
use Prim.Native.Nat.{ℕ, ◌-◌, ◌%◌, ◌^◌, ◌<◌, ◌≤◌}
use mathlib.Core.Path.{◌≡◌, refl, sym, ◌∙◌}
use mathlib.Core.Bool.{true, false}
use native.Mathlib.Omega.{arith}
use lib.Dec.{leb}
use borrow.Author.Tests.{le-leb, eq-eqb, ne_eqb}
use Rattle.rules.specs.declared.config.Config.{Config}
use Rattle.rules.specs.Step.{left_in}
use Rattle.rules.proofs.Good.{stability-config}
use Rattle.rules.proofs.TriggerWords.{WordParts, word-parts}
use Rattle.trigger.proofs.TriggerCode.{compared-steps, compared-row, last-left, word-before, no-trigger, open-window, left-of}
use Rattle.stability.proofs.step.compared_step.Goals as goal

-- what is known of the configuration and the word
left : (k : Config) (word : ℕ) → WordParts k word → 2 ^ 48 ≤ word → 0 < left_in word
left k word parts held = parts.some_left (omega (arith, held))

tested : (k : Config) (word : ℕ) → WordParts k word → 2 ^ 48 ≤ word → leb (left_in word - 1) (k.n - k.min) ≡ true
tested k word parts held = le-leb (left_in word - 1) (k.n - k.min) (omega (arith, parts.compared-low held))

pub returns-then-last : goal.returns-then-last
returns-then-last c = λ f on tracks.
    let a = c.args in
    let k = stability-config a.c c.requires.0 c.requires.1 in
    let parts = word-parts a.c a.word c.requires.1 k.high c.requires.2 in
    let held = c.requires.3 in
    let some : 0 < a.word = omega (arith, held) in
    let l = left a.c a.word parts held in
    compared-steps a.c a.word f k.low (left_in a.word - 1) false (no-trigger _ _ _ some) (open-window _ _ _ some)
    (left-of _ _ _ some (left_in a.word)) (le-leb (2 ^ 48) a.word held) (tested a.c a.word parts held) c.window_row-row.result 0
    (compared-row a.c a.word f held l a.enable a.t.known a.t.value c.window_row-row.result on tracks.known_is tracks.value_is c.window_row-row.ensures)
    (rw (sym (last-left _ l) ∙ eq-eqb (a.word % 65536) 1 c.if-last.true) refl)

pub returns-else-last : goal.returns-else-last
returns-else-last c = λ f on tracks.
    let a = c.args in
    let k = stability-config a.c c.requires.0 c.requires.1 in
    let parts = word-parts a.c a.word c.requires.1 k.high c.requires.2 in
    let held = c.requires.3 in
    let some : 0 < a.word = omega (arith, held) in
    let l = left a.c a.word parts held in
    compared-steps a.c a.word f k.low (left_in a.word - 1) false (no-trigger _ _ _ some) (open-window _ _ _ some)
    (left-of _ _ _ some (left_in a.word)) (le-leb (2 ^ 48) a.word held) (tested a.c a.word parts held) c.window_row-row.result (a.word - 1)
    (compared-row a.c a.word f held l a.enable a.t.known a.t.value c.window_row-row.result on tracks.known_is tracks.value_is c.window_row-row.ensures)
    (rw (sym (last-left _ l) ∙ ne_eqb (a.word % 65536) 1 c.if-last.false) (word-before a.word held l))
