pub mod BaseText
pub mod ChangedTexts
pub mod WholeRuns
mod LevelRows
mod GameRows
mod GameFactRows
mod LanguageRows
mod OutputRows
mod LevelRunRows
mod SolvingRows
mod HeldRows
mod RefusedRows
mod PlayedGames1Rows
mod PlayedGames2Rows
mod PlayedGames3Rows
mod RefusedGames1Rows
mod RefusedGames2Rows
mod RefusedGames3Rows
mod RefusedGames4Rows
mod CornerRows
mod RunRows
mod RoomGamesRows
