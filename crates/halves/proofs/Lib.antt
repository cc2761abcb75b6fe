-- Laws of the marks of a stretch of rows, and of sums over two stretches side by side.
pub mod Counted
pub mod Weights
