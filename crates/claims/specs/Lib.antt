pub mod ClaimChecks
pub mod Full
