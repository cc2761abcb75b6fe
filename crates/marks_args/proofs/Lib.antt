-- Laws that the proofs of `marks_args` cite.
pub mod Laws
