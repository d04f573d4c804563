-- Levels and their numbers, and runs that begin at a level. Each level is found for its number and for no other, and
-- none is found where there are fewer. A run from the first level is a run from the start, where a game begins with it.
use Rattle.std.specs.Prelude.{◌≡◌, ◌<◌, ◌⊎◌, ℕ, true, Some, None, List, ◌∷◌, slice_get}
use Rattle.ps_model.specs.board.Levels.{Level}
use Rattle.ps_model.specs.board.Turns.{Script}
use Rattle.ps_model.specs.session.LevelLines.{Entry, LevelEntry}
use Rattle.ps_model.specs.session.Sessions.{level_number}
use Rattle.ps_model.specs.game.Games.{Game, game}
use Rattle.ps_model.specs.game.Tellings.{ReaderState, WriterState, Told}
use Rattle.ps_model.specs.game.Headline.{Answer, Answers, script_of_text}
use Rattle.ps_model.specs.game.LevelRuns.{AnswersIn, IsTrueOfLevel, LevelAnswer, RunsRightlyFromLevel}
use Rattle.ps_model.specs.game.LevelRuns.{is_level_found, level_count, level_entry, script_from_level}

-- the entry that is found for a number is a level, and that is its number
abbrev pub FoundLevelsAreNumbered : Type 0
FoundLevelsAreNumbered =
    (script : Script) (level entry : ℕ) → level_entry script.entries level ≡ Some entry →
    (is_level_found (slice_get script.entries entry) ≡ true) × (level_number script entry ≡ level)

-- each level is found for its number
abbrev pub NumberedLevelsAreFound : Type 0
NumberedLevelsAreFound =
    (script : Script) (entry : ℕ) → is_level_found (slice_get script.entries entry) ≡ true →
    level_entry script.entries (level_number script entry) ≡ Some entry

-- where none is found, the number is 0, or there are fewer levels
abbrev pub LackedLevelsAreBeyond : Type 0
LackedLevelsAreBeyond =
    (entries : List Entry) (level : ℕ) → level_entry entries level ≡ None →
    (level ≡ 0) ⊎ (level_count entries < level)

-- a game whose first entry is a level is the same from that level as from its start
abbrev pub FirstLevelIsStart : Type 0
FirstLevelIsStart =
    (text : List ℕ) (read : Game) (level : Level) (others : List Entry) → game text ≡ Some read →
    read.entries ≡ LevelEntry level ∷ others → script_from_level text 1 ≡ script_of_text text

-- what may be answered in play of the script from the start is what a run may answer
abbrev pub AnswersFromStart : Type 0
AnswersFromStart =
    (text : List ℕ) (told : Told) (answer : Answer) → AnswersIn (script_of_text text) text told answer →
    Answers text told answer

-- what a right run from a level answers is true of the text and the level
abbrev pub AnswersAreTrueOfLevels : Type 0
AnswersAreTrueOfLevels =
    (text : List ℕ) (level : ℕ) (reader_before reader_after : ReaderState) (writer_before writer_after : WriterState)
    (answer : LevelAnswer) →
    RunsRightlyFromLevel text level reader_before reader_after writer_before writer_after answer →
    IsTrueOfLevel text level answer
