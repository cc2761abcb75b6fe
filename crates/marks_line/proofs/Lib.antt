-- Laws that the proofs of `marks_line` cite.
pub mod Laws
