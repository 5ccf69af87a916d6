pub mod Promises
pub mod Full
