pub mod ByteSteps
