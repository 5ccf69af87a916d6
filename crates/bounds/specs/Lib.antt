pub mod Bounds
pub mod Profiles
