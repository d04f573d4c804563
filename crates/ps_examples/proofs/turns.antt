mod MovementRows
mod WinRows
mod RoomRows
mod PushRows
mod RoundRows
mod PartRows
mod TurnedRows
mod IdleRows
mod PropertyRows
mod CommandRows
mod CompiledRows
mod CompilingRows
pub mod SmallBoards
