-- How a run of a script comes to its answer.
use Rattle.std.specs.Prelude.{◌≡◌, ℕ, ◌+◌, ◌<◌, ◌≤◌, ◌⊎◌, ⊤, List, length, Result, Ok, Err}
use Rattle.std.specs.List.{All, concat}
use Rattle.ps_model.specs.declared.limits.TheConstants.{READ_LIMIT}
use Rattle.ps_model.specs.declared.held.Held.{Held}
use Rattle.ps_model.specs.declared.play.Ending.{Ending}
use Rattle.ps_model.specs.board.Turns.{Script}
use Rattle.ps_model.specs.session.Keys.{keys_of}
use Rattle.ps_model.specs.session.Sessions.{Session}
use Rattle.ps_model.specs.game.Headline.{IsFront, IsPiece, GaveNothing, GoesOn, ReadsInTurn, ReaderIsWell, WriterIsWell}
use Rattle.ps_model.specs.game.Headline.{EndsAsMeant, CannotReadRightly, CannotWriteRightly, HasFewWrites}
use Rattle.ps_model.specs.game.Tellings.{ReaderState, WriterState, Gives, Fails, ReaderCalls, Unasked, Asked, Told}
use Rattle.ps_model.specs.game.Tellings.{Tells, read, read_before, last_behind}
use Rattle.ps_laws.specs.Fronts.{whole_front}
use Rattle.ps_devices.specs.Devices.{Loses}
use Rattle.ps_devices.specs.declared.players.RunFault.{RunFault}
use Rattle.ps_devices.specs.declared.players.RunFault.TheVariants as fault
use Rattle.ps_run.specs.Played.{HavePlayed, HeedsNext}

-- a call gave a piece, and the game had gone on behind what the calls before it gave
pub record HasAsked (script : Script) (earlier : List (List ℕ)) (piece : List ℕ) : Type 0 where
  pub pieces : All IsPiece earlier
  pub this : IsPiece piece
  pub few : length earlier + 1 ≤ READ_LIMIT
  pub goes_on : GoesOn script (concat earlier)

-- all calls so far gave a piece
abbrev pub IsAsked : Script → ReaderCalls → Type 0
IsAsked script Unasked = ⊤
IsAsked script (Asked earlier (Gives piece)) = HasAsked script earlier piece
IsAsked script (Asked earlier Fails) = ⊥

-- how many calls there were
abbrev pub call_count : ReaderCalls → ℕ
call_count Unasked = 0
call_count (Asked earlier last) = length earlier + 1

-- a run between two calls
pub record Stands (script : Script) (had has : ReaderState) (before now : WriterState) (session : Session)
    (kept : Held) (count : ℕ) : Type 0 where
  pub reading : ReaderCalls
  pub is_asked : IsAsked script reading
  pub counted : call_count reading ≡ count
  pub given : Loses had.remaining has.remaining (read reading)
  pub calls : has.calls ≡ had.calls + count
  pub last : has.last ≡ last_behind had.last reading
  pub none_empty : has.empty_calls ≡ had.empty_calls
  pub same_room : has.odd_sized_calls ≡ had.odd_sized_calls
  pub played : HavePlayed script before now session kept (read reading)

-- memory was refused in play: the texts of the keys of some bytes are written, whole; of all that were read before the
-- last call, and perhaps of some that it gave. The game went on behind them, and more keys were read, of which it
-- doesn't ignore the first, or the last call gave nothing
pub record StopsInPlay (script : Script) (told : Told) : Type 0 where
  pub reads : ReadsInTurn script told.reading told.left
  pub reader_is_well : ReaderIsWell told
  pub writer_is_well : WriterIsWell told
  pub behind : List ℕ
  pub enough : IsFront (read_before told.reading) behind
  pub within : IsFront behind (read told.reading)
  pub goes_on : GoesOn script behind
  pub wanting : (length (keys_of behind) < length (keys_of (read told.reading))) ⊎ GaveNothing told.reading
  pub heeded : HeedsNext script behind (read told.reading)
  pub wrote : told.wrote ≡ whole_front script behind
  pub few_writes : HasFewWrites told

-- what is so by the answer
abbrev pub IsSo : Script → Told → Result Ending RunFault → Type 0
IsSo script told (Ok ending) = EndsAsMeant script told ending
IsSo script told (Err (fault.Refused refused)) = ⊥
IsSo script told (Err fault.Memory) = StopsInPlay script told
IsSo script told (Err fault.Read) = CannotReadRightly script told
IsSo script told (Err fault.Write) = CannotWriteRightly script told

-- how a run comes to its answer
pub record Comes (script : Script) (had has : ReaderState) (before now : WriterState) (answer : Result Ending RunFault)
    : Type 0 where
  pub told : Told
  pub tells : Tells had has before now told
  pub is_so : IsSo script told answer

-- memory was refused before anything was asked for and anything written; or the run came to its answer
abbrev pub ComesOrStops : Script → ReaderState → ReaderState → WriterState → WriterState → Result Ending RunFault →
    Type 0
ComesOrStops script had has before now answer =
    ((answer ≡ Err fault.Memory) × (has ≡ had) × (now ≡ before)) ⊎ Comes script had has before now answer
