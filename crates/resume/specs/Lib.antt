-- What the contract of the run of a recheck cites.
pub mod Resumes
