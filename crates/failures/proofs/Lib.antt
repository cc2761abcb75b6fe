-- The answers of the failure list's call.
pub mod Answered
