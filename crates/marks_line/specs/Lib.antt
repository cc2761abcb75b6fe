-- What the contracts of `marks_line` cite.
pub mod Lines
