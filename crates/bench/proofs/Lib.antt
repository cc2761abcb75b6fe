-- No refusal of the lengths names a cycle.
pub mod Cycles
-- The loop that steps a table's checkers.
pub mod Steps
