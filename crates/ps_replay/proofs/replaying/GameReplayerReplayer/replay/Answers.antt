use Rattle.ps_laws.proofs.texts.SizedRooms.{game-rooms}
use Rattle.ps_run.proofs.Rightly.{game_playable}
use Rattle.ps_replay.proofs.replaying.GameReplayerReplayer.replay.Goals as goal

pub replay_game-requires-clause-playable : goal.replay_game-requires-clause-playable
replay_game-requires-clause-playable c =
    game_playable c.args.text.now c.in_ok-game.game c.in_ok-game.ensures.read.0 c.in_ok-game.ensures.sized

pub replay_game-requires-clause-rooms : goal.replay_game-requires-clause-rooms
replay_game-requires-clause-rooms c = game-rooms c.args.text.now c.in_ok-game.game c.in_ok-game.ensures.read.0

pub returns-clause-told : goal.returns-clause-told
returns-clause-told c =
    record {
      read = c.in_ok-game.game;
      is = c.in_ok-game.ensures.read.0;
      so = c.in_ok-replayed.ensures c.args.text.now c.in_ok-game.ensures.read.0;
    }
