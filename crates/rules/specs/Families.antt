-- The enum of the code and the families of the definitions. Assumes nothing.
use Rattle.std.specs.Prelude.{ℕ, ◌≡◌, Result, MatchResult}
use Rattle.rules.specs.declared.family.Family as code
use Rattle.rules.specs.declared.family.Family.TheVariants.{Sequence, Time, Transition, Value, Stability}
use Rattle.rules.specs.declared.family.NoSuchKind.{NoSuchKind}
use Rattle.rules.specs.Config.{Family, family}
use Rattle.rules.specs.Config.Family.{sequence, time, transition, value, stability, none}

-- the family that a variant of the enum stands for
abbrev pub named : code.Family → Family
named Sequence = sequence
named Time = time
named Transition = transition
named Value = value
named Stability = stability

-- what the conversion of a kind gives: its family, or that it has none
abbrev pub Names : ℕ → Result code.Family NoSuchKind → Type 0
Names kind r = MatchResult r (λ f. named f ≡ family kind) (λ _. family kind ≡ none)
