-- What the contracts of `marks_dump` cite.
pub mod Taken
