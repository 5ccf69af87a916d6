pub mod Fields
pub mod Exponents
pub mod Variables
pub mod Handing
pub mod Listings
