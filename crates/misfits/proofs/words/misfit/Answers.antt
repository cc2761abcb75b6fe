-- `misfits::words::misfit` meets its contract: each arm answers for the kind's family. Assumes nothing.
use mathlib.Core.Path.{sym, ◌∙◌}
use mathlib.Core.Logic.{⊎_elim}
use Rattle.rules.specs.Config.Family.{time, value}
use Rattle.rules.specs.Possible.{possible_of}
use Rattle.rules.proofs.Good.{kind-low, possible-are}
use Rattle.misfits.proofs.words.misfit.Goals as goal

pub family-requires : goal.family-requires
family-requires c = kind-low c.args.c c.requires

pub returns-in-Time : goal.returns-in-Time
unfolding possible_of
returns-in-Time c =
    let a = c.args in
    let fam = c.family.ensures in
    c.above.ensures
    ∙ ⊎_elim (λ i. possible-are a.c a.word time (sym (rw i at fam))) (λ i. possible-are a.c a.word value (sym (rw i at fam))) c.in-Time.is
