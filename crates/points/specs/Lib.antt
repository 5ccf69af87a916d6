pub mod Lists
pub mod Points
