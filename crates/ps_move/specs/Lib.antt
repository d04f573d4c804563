pub mod Visits
pub mod Midway
pub mod Entering
pub mod Order
pub mod Parts
