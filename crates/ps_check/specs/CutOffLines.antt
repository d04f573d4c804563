-- What a writer that failed has taken of a line.
use Rattle.std.specs.Prelude.{◌<◌, ◌≤◌, ◌+◌, ℕ, List, length, take}
use Rattle.ps_model.specs.game.Tellings.{WriterState}
use Rattle.ps_devices.specs.Devices.{Grows}

-- the writer has taken a front of the line and not all of it. Each call took a byte or more, but for the one that
-- failed
pub record IsCutOffLine (before now : WriterState) (line : List ℕ) : Type 0 where
  pub count : ℕ
  pub short : count < length line
  pub wrote : Grows before.contents now.contents (take count line)
  pub calls : now.calls ≤ before.calls + (count + 1)
