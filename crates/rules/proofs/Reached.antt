-- The word before any cycle is possible: it is 0, which a cycle in reset leaves, or the word after the cycle before. And a step from a possible word
-- leaves a possible word. Some trace leaves the word after a cycle t. The trace with the same frames up to t, and the step's frame from then on, leaves
-- the same word after t, since a word depends on no later frame. So after cycle t + 1 it leaves the step's word, and the words that traces leave are
-- possible. Assumes nothing.
use Prim.Native.Nat.{ℕ, zero, suc, ◌<◌}
use mathlib.Core.Path.{◌≡◌, refl, sym, ap₂, ◌∙◌}
use mathlib.Core.Bool.{◌&&◌}
use mathlib.Core.List.{[]}
use native.Mathlib.Nat.{le_refl, le_step}
use native.Mathlib.Omega.{arith}
use lib.Dec.{T, eqb}
use Rattle.bits.proofs.Tests.{or_left}
use Rattle.rules.specs.declared.config.Config.{Config}
use Rattle.rules.specs.declared.frame.Frame.{Frame}
use Rattle.rules.specs.Config.{fatal, Good}
use Rattle.rules.specs.Frame.{Trace}
use Rattle.rules.specs.Rules.{going_word_before, stopped_word, word, word_before}
use Rattle.rules.specs.Step.{step_word, Steps}
use Rattle.rules.specs.Possible.{going_possible, can_fail, possible}
use Rattle.rules.proofs.Going.{going_before, going-low, followed, followed-before, followed-at}
use Rattle.rules.proofs.Severity.{goes-possible}
use Rattle.rules.proofs.Claims.{step-is-rules, step_after, words-possible, possible-left}

pub zero-possible : (c : Config) → Good c → T (possible c 0)
unfolding going_word_before possible
zero-possible c good =
    or_left (going_possible c 0) (fatal c && can_fail c && eqb 0 stopped_word) (going_before c good (λ _. record { samples = [] }) 0)

pub before-possible : (c : Config) → Good c → (tr : Trace) (t : ℕ) → T (possible c (word_before c tr t))
unfolding word_before
before-possible c good tr zero = zero-possible c good
before-possible c good tr (suc t) = words-possible c good tr t

-- the word before a cycle depends on the frames before it alone
same-before : (c : Config) → Good c → (tr tr' : Trace) (t : ℕ) → ((s : ℕ) → s < t → tr s ≡ tr' s) → word_before c tr t ≡ word_before c tr' t
unfolding word_before
same-before c good tr tr' zero h = refl
same-before c good tr tr' (suc t) h =
    (step-is-rules c good tr t).word_is ∙ ap₂ (step_word c) (same-before c good tr tr' t (λ s l. h s (le_step l))) (h t (le_refl (suc t)))
    ∙ sym (step-is-rules c good tr' t).word_is

pub step-possible : (c : Config) → Good c → (w : ℕ) (f : Frame) → T (possible c w) → T (possible c (step_word c w f))
unfolding word_before
step-possible c good w f h =
    let l = possible-left c good w h in
    let n : ℕ = suc l.cycle in
    let tr : Trace = followed l.trace n f in
    let left : word c tr l.cycle ≡ w = same-before c good tr l.trace n (followed-before l.trace n f) ∙ l.leaves in
    let leaves : word c tr n ≡ step_word c w f = (step_after c good w tr l.cycle left).word_is ∙ rw (followed-at l.trace n f) in
    rw leaves at (words-possible c good tr n)

-- a step of a checker that goes on does not leave 2^63
pub step-open : (c : Config) → c.severity ≡ 0 → Good c → (w : ℕ) → T (possible c w) → (f : Frame) (row next : ℕ) → Steps c w f row next
    → next ≡ stopped_word → ⊥
step-open c on good w h f row next s e =
    let left = goes-possible c on (step_word c w f) (step-possible c good w f h) in
    omega (arith, going-low c good (step_word c w f) left, s.word_is, e)
