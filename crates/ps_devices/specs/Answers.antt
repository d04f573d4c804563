-- What a run answers, as the definitions say it.
use Rattle.std.specs.Prelude.{Result, Ok, Err}
use Rattle.ps_model.specs.declared.play.Ending.{Ending}
use Rattle.ps_model.specs.game.Headline.{Answer, Ends, Refuses, WantsMemory, CannotRead, CannotWrite}
use Rattle.ps_model.specs.game.LevelRuns.{LevelAnswer, LacksLevel, Plays}
use Rattle.ps_devices.specs.declared.players.LevelFault.{LevelFault}
use Rattle.ps_devices.specs.declared.players.LevelFault.TheVariants as level
use Rattle.ps_devices.specs.declared.players.RunFault.{RunFault}
use Rattle.ps_devices.specs.declared.players.RunFault.TheVariants as fault

-- an answer
abbrev pub answer_of : Result Ending RunFault → Answer
answer_of (Ok ending) = Ends ending
answer_of (Err (fault.Refused refused)) = Refuses refused
answer_of (Err fault.Memory) = WantsMemory
answer_of (Err fault.Read) = CannotRead
answer_of (Err fault.Write) = CannotWrite

-- an answer of a run that begins at a level
abbrev pub level_answer_of : Result Ending LevelFault → LevelAnswer
level_answer_of (Ok ending) = Plays (Ends ending)
level_answer_of (Err (level.NoSuchLevel levels)) = LacksLevel levels
level_answer_of (Err (level.Run found)) = Plays (answer_of (Err found))
