-- What a game is played by, as the script that it is.
use Rattle.ps_model.specs.board.Turns.{Script}
use Rattle.ps_run.specs.GamesInPlay.{script_on}
use Rattle.ps_run.specs.declared.game_script.GameScript.{GameScript}

abbrev pub script_shown : GameScript → Script
script_shown script = script_on script.game script.plain.now script.late.now
