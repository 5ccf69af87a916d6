pub mod Answers
pub mod Searches
