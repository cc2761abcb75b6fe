use mathlib.Core.Bool.{false≢true, true≢false}
use Rattle.dump_reader.proofs.RunLaws as runs
use mathlib.Core.Path.{refl, ◌∙◌, sym}
use Rattle.dump_reader.proofs.changes.vector_good.Goals as goal

pub returns-then-count-eq0 : goal.returns-then-count-eq0
returns-then-count-eq0 c = (λ h. absurd (false≢true h), λ h. refl)

pub returns-then-t-gt8 : goal.returns-then-t-gt8
returns-then-t-gt8 c = (λ h. absurd (false≢true h), λ h. refl)

pub returns-then-t-ne1 : goal.returns-then-t-ne1
returns-then-t-ne1 c = (λ h. absurd (false≢true h), λ h. refl)

pub returns-then-text_is : goal.returns-then-text_is
returns-then-text_is c = (λ h. absurd (false≢true h), λ h. refl)

pub returns-then-i-n : goal.returns-then-i-n
returns-then-i-n c = (λ h. absurd (false≢true h), λ h. refl)

pub returns-then-store-i-eq2 : goal.returns-then-store-i-eq2
returns-then-store-i-eq2 c = (λ h. absurd (false≢true h), λ h. refl)

pub returns-then-count-store : goal.returns-then-count-store
returns-then-count-store c = (λ h. absurd (false≢true h), λ h. refl)

pub returns : goal.returns
returns c = (λ h. runs.vector-made _ _ _ _ _ _ _ c.if-count-eq0.false c.requires.3 c.if-t-gt8.false c.if-t-ne1.false (sym c.text_is.ensures ∙ c.if-text_is.false) c.find-i.ensures c.if-i-n.false c.if-store-i-eq2.false c.if-count-store.false c.change_bits.ensures, λ h. absurd (true≢false h))
