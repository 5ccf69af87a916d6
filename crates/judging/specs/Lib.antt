pub mod Check
pub mod Unlimited
pub mod Full
pub mod Promises
