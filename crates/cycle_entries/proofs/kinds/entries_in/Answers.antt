-- `cycle_entries::kinds::entries_in` meets its contract: a sequence has as many entries as the word of failing attempts has ones; another kind has one for each of
-- the two marks. Assumes nothing.
use mathlib.Core.Path.{sym}
use mathlib.Core.Logic.{⊎_elim}
use native.Mathlib.Omega.{arith}
use Rattle.rules.proofs.Good.{kind-low}
use Rattle.cycle_entries.proofs.StepEntries.{attempts-length, window-counts, transition-counts, value-counts, stability-counts}
use Rattle.cycle_entries.proofs.kinds.entries_in.Goals as goal

pub family-requires : goal.family-requires
family-requires c = kind-low c.args.c c.requires.0.good

pub returns-in-Sequence : goal.returns-in-Sequence
returns-in-Sequence c =
    let a = c.args in
    attempts-length a.c a.word a.frame a.row a.t c.requires.0 (sym c.in-Sequence.ensures) c.lost_attempts.result
    c.lost_attempts.ensures c.requires.1

pub returns-in-Time : goal.returns-in-Time
returns-in-Time c =
    let a = c.args in
    let fam = c.family.ensures in
    let counts =
    ⊎_elim (λ i. window-counts a.c a.word a.frame a.row a.t c.requires.0 (sym (rw i at fam)) c.requires.1)
    (⊎_elim (λ i. transition-counts a.c a.word a.frame a.row a.t c.requires.0 (sym (rw i at fam)) c.requires.1)
    (⊎_elim (λ i. value-counts a.c a.word a.frame a.row a.t c.requires.0 (sym (rw i at fam)) c.requires.1)
    (λ i. stability-counts a.c a.word a.frame a.row a.t c.requires.0 (sym (rw i at fam)) c.requires.1)))
    c.in-Time.is in
    (counts, omega arith)
