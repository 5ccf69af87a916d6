pub mod Full
pub mod Profiled
