use Rattle.std.proofs.Common.{◌≡◌, drop, None}
use Rattle.ps_view.specs.Frames.{texts_of}
use Rattle.ps_view.specs.Players.{first_player_from}
use Rattle.ps_view.proofs.players.player_in.Given as goal

-- the first so far, and those of the rows to come
abbrev pub invariant-loop-number : goal.invariant-loop-number
invariant-loop-number l =
    first_player_from l.players l.first l.number (drop l.number (texts_of l.frame))
    ≡ first_player_from l.players None 0 (texts_of l.frame)
