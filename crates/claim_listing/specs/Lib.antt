pub mod ClaimText
