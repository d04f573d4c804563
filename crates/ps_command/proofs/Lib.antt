pub mod ArgumentsRead
pub mod DetailsBelow
pub mod GamesTold
pub mod LinesMatched
pub mod LinesObeyed
pub mod LinesOnLed
pub mod LinesOnLevels
pub mod LinesRefused
pub mod NumbersRead
pub mod PlayedInView
pub mod ReplaysTold
pub mod ReportsTold
mod ShownInView
pub mod TasksStopped
pub mod TracesEnded
pub mod WordsToSolve
