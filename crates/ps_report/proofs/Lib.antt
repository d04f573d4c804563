pub mod CodesParted
pub mod DataPlain
pub mod LineSteps
pub mod ObjectsMade
pub mod PagesTold
pub mod ReportsMade
pub mod WordsSaid
