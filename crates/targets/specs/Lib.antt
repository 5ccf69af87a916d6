pub mod Carried
pub mod Targets
pub mod Unlimited
pub mod Unmasked
