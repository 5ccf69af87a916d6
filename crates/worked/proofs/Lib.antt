pub mod Answers
pub mod Checks
pub mod Judging
pub mod Evaluations
pub mod Fractions
pub mod Reports
pub mod Listings
