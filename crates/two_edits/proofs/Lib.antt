-- That both claims hold.
pub mod Claims
