-- The rules before unknown bits, and what the claim says of them.
pub mod Known
pub mod Claims
