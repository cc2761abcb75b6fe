-- Laws of the failure list, and the claims about it.
pub mod Cases
pub mod Chosen
pub mod Highest
pub mod Ascending
pub mod Claims
pub mod Found
