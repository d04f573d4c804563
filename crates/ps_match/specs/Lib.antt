pub mod InRoom
pub mod Together
pub mod Touches
pub mod Nowhere
pub mod Topics
pub mod ScannedRows
pub mod FixedParts
