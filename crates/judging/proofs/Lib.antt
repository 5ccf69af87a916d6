pub mod Promises
pub mod Unlimited
pub mod Full
