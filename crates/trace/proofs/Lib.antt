-- Laws of traces and of runs over them.
pub mod Runs
pub mod Frames
pub mod Written
pub mod Running
pub mod Watching
pub mod Staying
pub mod Followed
pub mod Joined
