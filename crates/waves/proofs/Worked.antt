-- The worked waves hold by computation. Assumes nothing.
use mathlib.Core.Path.{refl}
use Rattle.first_failure.specs.Search.{search_refusal}
use Rattle.waves.specs.Text.{line, text, digits_of, each}
use Rattle.waves.specs.Waves.{name, value_at, header, changed, cycle_lines, waves}
use Rattle.waves.specs.Answer.{only_marks, waves_refusal}
use Rattle.waves.specs.Worked.{Worked}

pub worked : Worked
unfolding search_refusal line text digits_of each name value_at header changed cycle_lines waves only_marks waves_refusal
worked = record { two_checkers = refl; cycle_3 = refl; two_digits = (refl, refl, refl); no_checker = refl; no_cycle = refl; refusals = (refl, refl, refl, refl, refl, refl) }
