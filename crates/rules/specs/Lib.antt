-- The rules of document 01 with what document 02 changed, a file a subject.
pub mod Config
pub mod Families
pub mod Refusals
pub mod Frame
pub mod Checks
pub mod Sequence
pub mod Window
pub mod Time
pub mod Transition
pub mod Trigger
pub mod Rules
pub mod Step
pub mod Possible
pub mod Whiteboard
