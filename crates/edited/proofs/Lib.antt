-- Laws of edits: their stores, rechecks that are refused alike, and what their callers answer.
pub mod Stores
pub mod Answers
pub mod Alike
pub mod BackAnswers
