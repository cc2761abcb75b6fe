-- Laws of an edit's samples: its refusals from the tests, and words that change places.
pub mod Refusals
pub mod Swaps
