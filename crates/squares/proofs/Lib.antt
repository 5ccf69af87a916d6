pub mod Sums
pub mod Fractions
pub mod Targets
pub mod Floor
