-- What the contracts of `marks_args` cite.
pub mod Arguments
pub mod Wires
