-- Why the recheck leaves what demand 3 asks for.
pub mod Demand
pub mod Answers
