pub mod SpotKeys
pub mod Searches
pub mod Situations
pub mod SolvedLevels
pub mod ReadTexts
