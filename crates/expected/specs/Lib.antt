-- What the step of kind 7 goes by.
pub mod Expects
