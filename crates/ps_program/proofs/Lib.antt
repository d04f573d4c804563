pub mod FittingMasks
pub mod KeepingCells
pub mod LeavingCells
pub mod MotionSets
pub mod SettlingCells
