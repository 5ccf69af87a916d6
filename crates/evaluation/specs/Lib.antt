pub mod Evaluations
pub mod Full
pub mod Promises
