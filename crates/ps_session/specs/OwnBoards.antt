-- Whether the boards that a game is played on are for the level that comes next in a session.
use Rattle.std.specs.Prelude.{◌≡◌, ⊤, ℕ, true}
use Rattle.ps_model.specs.session.Sessions as model
use Rattle.ps_stage.specs.OwnBoards.{has_boards}
use Rattle.ps_stage.specs.Standings.{SessionParts}

-- an entry is that of the level where a player is
abbrev pub IsLevelAt : ℕ → model.Session → Type 0
IsLevelAt entry (model.Playing play) = entry ≡ play.entry
IsLevelAt entry (model.Waiting play pending) = entry ≡ play.entry
IsLevelAt entry (model.AtMessage message) = ⊥
IsLevelAt entry (model.Ended ending) = ⊥

-- the level where a player is, if there is one, is the one where they were, or one for which the boards are
abbrev pub SessionFits : SessionParts → model.Session → model.Session → Type 0
SessionFits parts before (model.Playing play) = (IsLevelAt play.entry before → ⊥) → has_boards parts play.entry ≡ true
SessionFits parts before (model.Waiting play pending) =
    (IsLevelAt play.entry before → ⊥) → has_boards parts play.entry ≡ true
SessionFits parts before (model.AtMessage message) = ⊤
SessionFits parts before (model.Ended ending) = ⊤
