-- What holds of the names of every game.
pub mod MembersBelow
