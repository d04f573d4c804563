pub mod Headings
pub mod SectionPlaces
