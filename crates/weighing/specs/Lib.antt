pub mod Unheld
pub mod Exact
pub mod Weighed
pub mod Unlimited
pub mod Full
