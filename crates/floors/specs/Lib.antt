pub mod Trials
pub mod Search
pub mod Unlimited
pub mod Full
pub mod Promises
