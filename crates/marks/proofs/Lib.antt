-- Laws that the proofs of `marks` cite.
pub mod Laws
