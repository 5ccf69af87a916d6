pub mod Exports
pub mod Cases
