-- What a run in memory may come to. It writes exactly the output of the text's game on all keys. Where the room, memory
-- or a run's calls are too few, it writes a front of that and not all of it. Of a text without a game it tells the first
-- fault, and writes nothing.
use Rattle.std.specs.Prelude.{◌≡◌, ℕ, ◌≤◌, ◌==◌, nat_lt, Bool, if◌then◌else◌, ◌⊎◌, List, [], length, Some}
use Rattle.std.specs.Prelude.{Result, Ok, Err}
use Rattle.ps_model.specs.declared.limits.TheConstants.{READ_LIMIT}
use Rattle.ps_model.specs.declared.play.Ending.{Ending}
use Rattle.ps_model.specs.board.Turns.{Script}
use Rattle.ps_model.specs.text.Faults.{first_fault}
use Rattle.ps_model.specs.game.Games.{faults}
use Rattle.ps_model.specs.game.Headline.{IsCutOff, script_of_text}
use Rattle.ps_model.specs.game.Outputs.{output}
use Rattle.ps_devices.specs.declared.players.RunFault.{RunFault}
use Rattle.ps_devices.specs.declared.players.RunFault.TheVariants as fault
use Rattle.lizhakoven.specs.declared.playing.Played.{Played}
use Rattle.lizhakoven.specs.declared.playing.Played.TheVariants.{Ended, Refused, Memory, NoRoom, TooManyKeys}

-- the text has a game, and those bytes are a front of its output on the keys, and not all of it
abbrev pub IsCutOffOutput : List ℕ → List ℕ → List ℕ → Type 0
IsCutOffOutput text keys wrote =
    (script : Script) × (script_of_text text ≡ Some script) × IsCutOff wrote (output script keys).written

-- a run of the text on the keys that wrote those bytes, with room for `room` of them, may come out so
abbrev pub IsPlayed : List ℕ → List ℕ → ℕ → List ℕ → Played → Type 0
IsPlayed text keys room wrote (Ended ending) = (script : Script) × (script_of_text text ≡ Some script) ×
    ((output script keys).ending ≡ ending) × (wrote ≡ (output script keys).written)
IsPlayed text keys room wrote (Refused first) = (first_fault (faults text) ≡ Some first) × (wrote ≡ [])
IsPlayed text keys room wrote Memory = (wrote ≡ []) ⊎ IsCutOffOutput text keys wrote
IsPlayed text keys room wrote NoRoom = (length wrote ≡ room) × IsCutOffOutput text keys wrote
IsPlayed text keys room wrote TooManyKeys = (READ_LIMIT ≤ length keys) × IsCutOffOutput text keys wrote

-- how a run came out by its answer, with as many bytes as there is room for or with fewer
abbrev pub played_within : Result Ending RunFault → Bool → Played
played_within (Ok ending) is_full = Ended ending
played_within (Err (fault.Refused first)) is_full = Refused first
played_within (Err fault.Memory) is_full = Memory
played_within (Err fault.Read) is_full = TooManyKeys
played_within (Err fault.Write) is_full = if is_full then NoRoom else Memory

-- how it came out by its answer, the number of bytes that its writer took, and the room for them
abbrev pub played_of : Result Ending RunFault → ℕ → ℕ → Played
played_of answer written room = if nat_lt room written then NoRoom else played_within answer (written == room)
