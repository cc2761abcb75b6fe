-- What two edits leave, as claims.
pub mod TwoEdits
