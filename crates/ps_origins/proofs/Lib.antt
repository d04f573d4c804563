mod OriginsMade
mod ProgramsInOrder
