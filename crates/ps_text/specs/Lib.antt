pub mod PlainLines
pub mod Rows
pub mod TakenRanges
pub mod WordRanges
pub mod WordViews
