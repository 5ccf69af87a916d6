pub mod Input
pub mod Printing
pub mod Cases
