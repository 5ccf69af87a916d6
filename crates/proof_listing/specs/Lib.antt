pub mod OwnChecks
pub mod ProofText
