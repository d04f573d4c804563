use Rattle.ps_laws.proofs.texts.SizedRooms.{game-rooms}
use Rattle.ps_run.proofs.Rightly.{game_playable}
use Rattle.lizhakoven.proofs.held_game.HeldGame.read.Goals as goal

pub new-requires-clause-playable : goal.new-requires-clause-playable
new-requires-clause-playable c =
    game_playable c.args.text.now c.in_ok-game.game c.in_ok-game.ensures.read.0 c.in_ok-game.ensures.sized

pub new-requires-clause-rooms : goal.new-requires-clause-rooms
new-requires-clause-rooms c = game-rooms c.args.text.now c.in_ok-game.game c.in_ok-game.ensures.read.0
