pub mod Carried
pub mod Unlimited
pub mod Unmasked
