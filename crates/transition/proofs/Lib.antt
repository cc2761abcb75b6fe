pub mod TransitionCode
