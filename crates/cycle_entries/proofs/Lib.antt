-- Laws of the entries of a cycle.
pub mod LostWord
pub mod StepEntries
