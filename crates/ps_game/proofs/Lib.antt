pub mod ImpossibleRules
pub mod Refusals
pub mod WholeGame
pub mod Picked
pub mod ToldParts
pub mod ToldTexts
pub mod ToldPhases
pub mod ToldLines
mod ToldRows
