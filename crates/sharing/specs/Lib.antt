pub mod Sharing
pub mod Slots
pub mod Shifts
pub mod Order
