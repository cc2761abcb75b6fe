-- Laws of a pass over a whole trace.
pub mod Whole
