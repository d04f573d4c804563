use Rattle.ps_laws.proofs.texts.SizedRooms.{game-rooms}
use Rattle.ps_trace.proofs.GamesRead.{game_playable}
use Rattle.ps_trace.proofs.playing.TracedPlay.play.Goals as goal

pub of_game-requires-clause-playable : goal.of_game-requires-clause-playable
of_game-requires-clause-playable g c =
    game_playable c.args.self.now.start.text.now c.in-Ok.game c.in-Ok.ensures.read.0 c.in-Ok.ensures.sized

pub of_game-requires-clause-rooms : goal.of_game-requires-clause-rooms
of_game-requires-clause-rooms g c = game-rooms c.args.self.now.start.text.now c.in-Ok.game c.in-Ok.ensures.read.0
