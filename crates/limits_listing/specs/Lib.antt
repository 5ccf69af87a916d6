pub mod OwnChecks
pub mod LimitsText
pub mod ProfileText
