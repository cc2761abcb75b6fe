-- Laws that the proofs of `marks_dump` cite.
pub mod Laws
