pub mod FittingMasks
pub mod RewritingWrites
pub mod AgreeingCells
pub mod AgreeingPrograms
pub mod OwnLayers
