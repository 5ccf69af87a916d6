pub mod PageCheck
pub mod Full
pub mod Promises
