pub mod ProofChecks
pub mod Input
pub mod Full
pub mod Profiled
