-- The failure list by the rules, and its starts as the open word gives them.
pub mod Lists
pub mod Starts
