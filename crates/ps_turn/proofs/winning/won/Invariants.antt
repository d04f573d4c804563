use Rattle.std.proofs.Common.{◌≡◌, drop}
use Rattle.std.specs.List.{list_all}
use Rattle.ps_model.specs.board.Winning.{holds}
use Rattle.ps_levels.specs.WinsShown.{wins_shown}
use Rattle.ps_turn.proofs.winning.won.Given as goal

-- it rests on the conditions after those passed by
abbrev pub invariant-loop-win : goal.invariant-loop-win
invariant-loop-win g l =
    list_all (holds (g.B.Board.grid l.board)) (wins_shown l.wins)
    ≡ list_all (holds (g.B.Board.grid l.board)) (wins_shown (drop l.win-index l.wins))
