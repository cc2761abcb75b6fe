use Rattle.dump_change.specs.Change.{tail_code}
use mathlib.Core.Bool.{false≢true, true≢false}
use Rattle.dump_reader.proofs.RunLaws as runs
use mathlib.Core.Path.{refl}
use Rattle.dump_reader.proofs.changes.scalar_good.Goals as goal

pub returns-then-v-ge3 : goal.returns-then-v-ge3
returns-then-v-ge3 c = (λ h. absurd (false≢true h), λ h. refl)

pub returns-then-t-lt2 : goal.returns-then-t-lt2
returns-then-t-lt2 c = (λ h. absurd (false≢true h), λ h. refl)

pub returns-then-t-gt9 : goal.returns-then-t-gt9
returns-then-t-gt9 c = (λ h. absurd (false≢true h), λ h. refl)

pub returns-then-t-ne1 : goal.returns-then-t-ne1
returns-then-t-ne1 c = (λ h. absurd (false≢true h), λ h. refl)

pub returns-then-i-n : goal.returns-then-i-n
returns-then-i-n c = (λ h. absurd (false≢true h), λ h. refl)

pub returns-then-store-i-ne1 : goal.returns-then-store-i-ne1
returns-then-store-i-ne1 c = (λ h. absurd (false≢true h), λ h. refl)

pub returns-then-store-i-eq2 : goal.returns-then-store-i-eq2
returns-then-store-i-eq2 c = (λ h. absurd (false≢true h), λ h. refl)

pub returns : goal.returns
unfolding tail_code
returns c = (λ h. runs.scalar_made _ _ _ _ _ _ c.value_of-v.ensures c.if-v-ge3.false c.if-t-lt2.false c.if-t-gt9.false c.if-t-ne1.false c.find-i.ensures c.if-i-n.false c.if-store-i-ne1.false c.if-store-i-eq2.false c.change_bits.ensures, λ h. absurd (true≢false h))
