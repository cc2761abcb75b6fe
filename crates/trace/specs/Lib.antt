-- A lent trace as frames, and runs of a step over its cycles.
pub mod Traces
pub mod Runs
pub mod Stretches
