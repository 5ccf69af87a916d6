pub mod Fields
pub mod Lines
pub mod Same
pub mod Putting
pub mod Listings
