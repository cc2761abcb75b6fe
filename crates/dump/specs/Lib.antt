-- Reading a dump, in the order of the page that settles it: the text, declarations, connections, changes and samples, and the call.
pub mod Text
pub mod Ranges
pub mod State
pub mod Declarations
pub mod Connections
pub mod Changes
pub mod Load
pub mod Worked
