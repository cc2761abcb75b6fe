-- What the code of a step computes, as the step's definition has it.
pub mod Outcomes
