-- `checker::count::open_count` meets its contract: each arm counts as the kind's family asks. Assumes nothing.
use mathlib.Core.Path.{◌≡◌, refl, sym, ◌∙◌}
use mathlib.Core.Bool.{Bool, true, false, not, cond}
use mir.Val.{bool_byte}
use lib.Dec.{eqb}
use lib.Count.{ones}
use Rattle.rules.specs.Config.Family.{sequence}
use Rattle.rules.specs.Possible.{open_count_of}
use Rattle.rules.proofs.Good.{kind-low}
use Rattle.open_words.proofs.Refusals.{not_refused}
use Rattle.checker.proofs.Answers.{count-stopped, count-taken, count-one}
use Rattle.checker.proofs.count.open_count.Goals as goal

turned : (b : Bool) → bool_byte (not b) ≡ cond b 0 1
turned true = refl
turned false = refl

pub returns-then-word-eq-STOPPED-clause-answer : goal.returns-then-word-eq-STOPPED-clause-answer
returns-then-word-eq-STOPPED-clause-answer c = count-stopped c.args.c c.args.word (sym c.in_ok-refusal.ensures.number) c.if-word-eq-STOPPED.true

pub family-requires : goal.family-requires
family-requires c = let a = c.args in kind-low a.c (not_refused a.c a.word (sym c.in_ok-refusal.ensures.number)).good

pub returns-in-Sequence-clause-answer : goal.returns-in-Sequence-clause-answer
unfolding open_count_of
returns-in-Sequence-clause-answer c =
    let a = c.args in
    count-taken a.c a.word (sym c.in_ok-refusal.ensures.number) c.if-word-eq-STOPPED.false sequence (ones a.word) (rw c.in-Sequence.is at c.family.ensures) refl

pub returns-in_default-clause-answer : goal.returns-in_default-clause-answer
returns-in_default-clause-answer c =
    let a = c.args in
    count-one a.c a.word (sym c.in_ok-refusal.ensures.number) c.if-word-eq-STOPPED.false c.family.result c.from.result c.in_default.not-Sequence c.family.ensures
    (c.from.ensures ∙ turned (eqb a.word 0))
