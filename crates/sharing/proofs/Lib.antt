pub mod Sharing
pub mod Order
pub mod Lighter
