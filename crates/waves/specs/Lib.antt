-- The marks as waves: the text that is due, and what the call answers.
pub mod Text
pub mod Waves
pub mod Answer
pub mod Worked
