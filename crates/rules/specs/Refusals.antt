-- The numbers of the refusals, from document 01, "Refusal numbers", and document 02. Assumes nothing.
use Rattle.std.specs.Prelude.{ℕ, Result, Ok, Err}
use Rattle.rules.specs.declared.refusal.Refusal.{Refusal}
use Rattle.rules.specs.declared.refusal.Refusal.TheVariants.{Kind, Limits, Ports, TraceLength, SliceLength, EditRange, OpenWord, ListRoom, Checkers}

abbrev pub number_of : Refusal → ℕ
number_of Kind = 1
number_of Limits = 2
number_of Ports = 3
number_of TraceLength = 4
number_of SliceLength = 5
number_of EditRange = 6
number_of (OpenWord _) = 7
number_of ListRoom = 8
number_of Checkers = 9

-- the cycle that a refusal names, else 0: "every other number answered is 0"
abbrev pub cycle_named : Refusal → ℕ
cycle_named Kind = 0
cycle_named Limits = 0
cycle_named Ports = 0
cycle_named TraceLength = 0
cycle_named SliceLength = 0
cycle_named EditRange = 0
cycle_named (OpenWord cycle) = cycle
cycle_named ListRoom = 0
cycle_named Checkers = 0

-- the number of an answer, 0 where it is not refused, and the cycle that it names
abbrev pub refusal_of : {A : Type 0} → Result A Refusal → ℕ
refusal_of (Ok _) = 0
refusal_of (Err refusal) = number_of refusal

abbrev pub cycle_of : {A : Type 0} → Result A Refusal → ℕ
cycle_of (Ok _) = 0
cycle_of (Err refusal) = cycle_named refusal
