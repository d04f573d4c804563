-- What a run may answer that begins at a level: what a run from the start may, with the game begun at the entry of that
-- level; or that the game has no such level, and then nothing was read or written. Its output is the title, then what
-- that entry writes, then the texts of the keys: nothing of the entries before it.
use Rattle.std.specs.Prelude.{◌≡◌, ℕ, zero, suc, Bool, false, ⊤, ◌⊎◌, Option, Some, None, option_and_then, option_map}
use Rattle.std.specs.Prelude.{List, [], filter, length, slice_get}
use Rattle.std.specs.List.{range_with_len}
use Rattle.ps_model.specs.board.Turns.{Script, script_at}
use Rattle.ps_model.specs.session.LevelLines.{Entry}
use Rattle.ps_model.specs.session.Sessions.{is_level}
use Rattle.ps_model.specs.text.Faults.{first_fault}
use Rattle.ps_model.specs.game.Games.{Game, faults, game}
use Rattle.ps_model.specs.game.Tellings.{ReaderState, WriterState, Unasked, Told, Tells}
use Rattle.ps_model.specs.game.Headline.{Answer, Ends, Refuses, WantsMemory, CannotRead, CannotWrite}
use Rattle.ps_model.specs.game.Headline.{EndsAsMeant, RefusesRightly, StopsAtOnce, StopsForMemory}
use Rattle.ps_model.specs.game.Headline.{CannotReadRightly, CannotWriteRightly, WriterIsWell}

-- levels among entries ------------------------------------------------------------------------------------------------

-- an entry was found, and it is a level
abbrev pub is_level_found : Option Entry → Bool
is_level_found None = false
is_level_found (Some entry) = is_level entry

-- the places of the levels among the entries, in their order
abbrev pub level_entries : List Entry → List ℕ
level_entries entries =
    filter (λ entry. is_level_found (slice_get entries entry)) (range_with_len 0 (length entries))

-- the place of the level of that number, if there is one: levels alone are counted, from 1
abbrev pub level_entry : List Entry → ℕ → Option ℕ
level_entry entries zero = None
level_entry entries (suc before) = slice_get (level_entries entries) before

-- how many of the entries are levels
abbrev pub level_count : List Entry → ℕ
level_count entries = length (filter is_level entries)

-- a game begun at the entry of the level of that number, if it has such a level
abbrev pub script_at_level : ℕ → Game → Option Script
script_at_level level read = option_map (script_at read) (level_entry read.entries level)

-- the game of a text begun so
abbrev pub script_from_level : List ℕ → ℕ → Option Script
script_from_level text level = option_and_then (script_at_level level) (game text)

-- answers -------------------------------------------------------------------------------------------------------------

-- what such a run answers: what a run answers; or how many levels the game has, without that one
pub data LevelAnswer : Type 0 where
  Plays : Answer → LevelAnswer
  LacksLevel : ℕ → LevelAnswer

-- memory was refused at once, or in play of this script, if there is one
abbrev pub WantsMemoryIn : Option Script → Told → Type 0
WantsMemoryIn found told = StopsAtOnce told ⊎ ((script : Script) × (found ≡ Some script) × StopsForMemory script told)

-- what a run may answer on a text, of whose game it plays this script, if there is one
abbrev pub AnswersIn : Option Script → List ℕ → Told → Answer → Type 0
AnswersIn found text told (Ends ending) = (script : Script) × (found ≡ Some script) × EndsAsMeant script told ending
AnswersIn found text told (Refuses fault) = RefusesRightly text told fault
AnswersIn found text told WantsMemory = WantsMemoryIn found told
AnswersIn found text told CannotRead = (script : Script) × (found ≡ Some script) × CannotReadRightly script told
AnswersIn found text told CannotWrite = (script : Script) × (found ≡ Some script) × CannotWriteRightly script told

-- the text has a game with `count` levels, and not with the one of that number
pub record LacksThatLevel (text : List ℕ) (level count : ℕ) : Type 0 where
  pub read : Game
  pub is : game text ≡ Some read
  pub lacks : level_entry read.entries level ≡ None
  pub counted : level_count read.entries ≡ count

-- the game lacks the level, and no key was asked for and nothing written
pub record LacksLevelRightly (text : List ℕ) (level : ℕ) (told : Told) (count : ℕ) : Type 0 where
  pub lacks : LacksThatLevel text level count
  pub asked_nothing : told.reading ≡ Unasked
  pub wrote_nothing : told.wrote ≡ []
  pub writer_is_well : WriterIsWell told

-- what a run may answer that begins at a level
abbrev pub AnswersFromLevel : List ℕ → ℕ → Told → LevelAnswer → Type 0
AnswersFromLevel text level told (Plays answer) = AnswersIn (script_from_level text level) text told answer
AnswersFromLevel text level told (LacksLevel count) = LacksLevelRightly text level told count

-- devices -------------------------------------------------------------------------------------------------------------

-- such a run is right, by what its devices told before it and tell after it
pub record RunsRightlyFromLevel (text : List ℕ) (level : ℕ) (reader_before reader_after : ReaderState)
    (writer_before writer_after : WriterState) (answer : LevelAnswer) : Type 0 where
  pub told : Told
  pub tells : Tells reader_before reader_after writer_before writer_after told
  pub answers : AnswersFromLevel text level told answer

-- the text has a game, and that has the level
abbrev pub HasLevel : List ℕ → ℕ → Type 0
HasLevel text level = (script : Script) × (script_from_level text level ≡ Some script)

-- what an answer says of the text and the level, whatever the devices tell
abbrev pub IsTrueOfLevel : List ℕ → ℕ → LevelAnswer → Type 0
IsTrueOfLevel text level (Plays (Ends ending)) = HasLevel text level
IsTrueOfLevel text level (Plays (Refuses fault)) = first_fault (faults text) ≡ Some fault
IsTrueOfLevel text level (Plays WantsMemory) = ⊤
IsTrueOfLevel text level (Plays CannotRead) = HasLevel text level
IsTrueOfLevel text level (Plays CannotWrite) = HasLevel text level
IsTrueOfLevel text level (LacksLevel count) = LacksThatLevel text level count
