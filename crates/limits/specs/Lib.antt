pub mod LimitsSheet
pub mod LimitChecks
pub mod Additions
