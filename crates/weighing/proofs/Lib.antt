pub mod Unlimited
pub mod Full
