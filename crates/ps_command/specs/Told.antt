-- What is told on the screen.
use Rattle.std.specs.Borrow.{Bor}
use Rattle.std.specs.Prelude.{◌≡◌, ◌≢◌, ◌<◌, ◌⊎◌, ℕ, Bool, true, false, Option, Some, None, Err, List, [], ◌++◌}
use Rattle.std.specs.Prelude.{codes, is_some, length, slice_index_or}
use Rattle.std.specs.List.{concat}
use Rattle.ps_model.specs.declared.play.Ending.{Ending}
use Rattle.ps_model.specs.game.Games.{game}
use Rattle.ps_model.specs.game.Headline.{Ends, RunsRightly}
use Rattle.ps_model.specs.game.LevelRuns.{Plays, RunsRightlyFromLevel}
use Rattle.ps_model.specs.game.Tellings.{ReaderState, WriterState}
use Rattle.ps_check.specs.Checks.{check_line, named_line}
use Rattle.ps_describe.specs.Descriptions.{IsDescribed}
use Rattle.ps_devices.specs.Answers.{answer_of, level_answer_of}
use Rattle.ps_devices.specs.Devices.{Grows, Loses}
use Rattle.ps_devices.specs.declared.players.LevelFault.{LevelFault}
use Rattle.ps_devices.specs.declared.players.RunFault.{RunFault}
use Rattle.ps_command.specs.Details.{IsDetail, TellsOn}
use Rattle.ps_command.specs.Statuses.{stop_of_level}
use Rattle.ps_report.specs.declared.details.Detail.{Detail}
use Rattle.ps_report.specs.declared.details.Detail.TheVariants.{Why}
use Rattle.ps_command.specs.Searched.{IsRefused}
use Rattle.ps_command.specs.declared.command.Play.{Play}
use Rattle.ps_command.specs.declared.stops.Stop.{Stop}
use Rattle.ps_command.specs.declared.stops.Stop.TheVariants.{Run}

-- of some text that is a game its line is told, and nothing else. If the name of its file is that of standard input, it
-- is what that gave
pub record TellsOfGame (name : List ℕ) (had left before after : Option (List ℕ)) : Type 0 where
  pub text : List ℕ
  pub given : name ≡ codes "-" → Loses had left text
  pub accepted : is_some (game text) ≡ true
  pub wrote : Grows before after (check_line text)

-- of some text that is a game the line is told by which a front end knows it, and nothing else
pub record TellsOfDescribed (before after : Option (List ℕ)) : Type 0 where
  pub text : List ℕ
  pub line : List ℕ
  pub is : IsDescribed text line
  pub wrote : Grows before after line

-- of some text that is no game its line is told, and what stands below it. If the name of its file is that of standard
-- input, it is what that gave
pub record TellsOfRefused (detail : Detail) (name : List ℕ) (had left before after : Option (List ℕ)) : Type 0 where
  pub text : List ℕ
  pub given : name ≡ codes "-" → Loses had left text
  pub refused : is_some (game text) ≡ false
  pub wrote : TellsOn detail text (check_line text) before after

-- of some text that is refused its line is told, and what is to be mended below it. If the name of its file is that of
-- standard input, it is what that gave
pub record TellsOfUndescribed (name : List ℕ) (had left before after : Option (List ℕ)) : Type 0 where
  pub text : List ℕ
  pub given : name ≡ codes "-" → Loses had left text
  pub refused : IsRefused text
  pub wrote : TellsOn Why text (check_line text) before after

-- some line is told, and nothing else
pub record TellsSomeLine (before after : Option (List ℕ)) : Type 0 where
  pub line : List ℕ
  pub wrote : Grows before after (line ++ codes "\n")

-- of some text its line is told behind a name, with what stands below it, and it is a game or isn't, as is answered
pub record TellsOf (detail : Detail) (name : List ℕ) (accepted : Bool) (before after : Option (List ℕ)) : Type 0 where
  pub text : List ℕ
  pub is : accepted ≡ is_some (game text)
  pub wrote : TellsOn detail text (named_line name text) before after
  pub alone : accepted ≡ true → Grows before after (named_line name text)

-- a line that is told behind a name of some text, which is a game
pub record IsLineOfGame (name line : List ℕ) : Type 0 where
  pub text : List ℕ
  pub accepted : is_some (game text) ≡ true
  pub is : line ≡ named_line name text

-- for each of these names, in their order, something is told that belongs to it, and nothing else
pub record TellsInOrder (Belongs : List ℕ → List ℕ → Type 0) (names : List (List ℕ)) (before after : Option (List ℕ)) :
    Type 0 where
  pub lines : List (List ℕ)
  pub long : length lines ≡ length names
  pub each : (k : ℕ) → k < length names → Belongs (slice_index_or names k []) (slice_index_or lines k [])
  pub wrote : Grows before after (concat lines)

-- the line of some text for each of these names, each of which is a game
abbrev pub TellsOfGames : List (List ℕ) → Option (List ℕ) → Option (List ℕ) → Type 0
TellsOfGames names before after = TellsInOrder IsLineOfGame names before after

-- lines on some text behind a name, with what stands below the first
pub record AreLinesOnText (detail : Detail) (name lines : List ℕ) : Type 0 where
  pub text : List ℕ
  pub more : List ℕ
  pub is : IsDetail detail text more
  pub are : lines ≡ named_line name text ++ more

-- the same, or nothing, for a file that can't be read
abbrev pub AreLinesOnFile : Detail → List ℕ → List ℕ → Type 0
AreLinesOnFile detail name lines = (lines ≡ []) ⊎ AreLinesOnText detail name lines

-- for each of these names lines on some text, or nothing
abbrev pub TellsOfFiles : Detail → List (List ℕ) → Option (List ℕ) → Option (List ℕ) → Type 0
TellsOfFiles detail names before after = TellsInOrder (AreLinesOnFile detail) names before after

-- a text's game was played until it stopped, and what stopped it is told
pub record StopsRightly (text : List ℕ) (keys left : ReaderState) (before after : WriterState) (stop : Stop) : Type 0
  where
    pub fault : RunFault
    pub is : stop ≡ Run fault
    pub rightly : RunsRightly text keys left before after (answer_of (Err fault))

-- the same of a run that began at a level
pub record StopsRightlyFromLevel (level : ℕ) (text : List ℕ) (keys left : ReaderState) (before after : WriterState)
    (stop : Stop) : Type 0 where
  pub fault : LevelFault
  pub is : stop ≡ stop_of_level level fault
  pub rightly : RunsRightlyFromLevel text level keys left before after (level_answer_of (Err fault))

-- from the start, or from the level of that number
abbrev pub StopsRightlyFrom : Option ℕ → List ℕ → ReaderState → ReaderState → WriterState → WriterState → Stop → Type 0
StopsRightlyFrom None text keys left before after stop = StopsRightly text keys left before after stop
StopsRightlyFrom (Some level) text keys left before after stop =
    StopsRightlyFromLevel level text keys left before after stop

-- a text's game was played to this end with these keys, from the start or from the level of that number
abbrev pub RunsToEndFrom : Option ℕ → List ℕ → ReaderState → ReaderState → WriterState → WriterState → Ending → Type 0
RunsToEndFrom None text keys left before after ending = RunsRightly text keys left before after (Ends ending)
RunsToEndFrom (Some level) text keys left before after ending =
    RunsRightlyFromLevel text level keys left before after (Plays (Ends ending))

-- a text's game was played to an end, with some keys
pub record EndsRightly (level : Option ℕ) (text : List ℕ) (before after : WriterState) : Type 0 where
  pub ending : Ending
  pub keys : ReaderState
  pub left : ReaderState
  pub rightly : RunsToEndFrom level text keys left before after ending

-- a text was read: if the name of its file is that of standard input, it is what that gave; else that wasn't asked
pub record IsReadText (name : List ℕ) (had left : ReaderState) (text : List ℕ) : Type 0 where
  pub given : name ≡ codes "-" → Loses had.remaining left.remaining text
  pub unasked : name ≢ codes "-" → left ≡ had

-- a text's game was played to an end, with the keys of standard input, or with those of a file, where one is named
abbrev pub EndsBy : Option (Bor (List ℕ)) → Option ℕ → List ℕ → ReaderState → ReaderState → WriterState → WriterState →
    Type 0
EndsBy None level text keys left before after =
    (ending : Ending) × RunsToEndFrom level text keys left before after ending
EndsBy (Some _) level text keys left before after = EndsRightly level text before after

-- the game that is asked for was played to an end
pub record PlaysToAnEnd (play : Play) (had left : ReaderState) (before after : WriterState) : Type 0 where
  pub text : List ℕ
  pub begun : ReaderState
  pub read : IsReadText play.game.now had begun text
  pub ended : EndsBy play.keys play.level text begun left before after

-- the same with a trace, of which it isn't said what standard input has left
pub record TracesToAnEnd (play : Play) (had : ReaderState) (before after : WriterState) : Type 0 where
  pub text : List ℕ
  pub begun : ReaderState
  pub read : IsReadText play.game.now had begun text
  pub ended : EndsRightly play.level text before after
