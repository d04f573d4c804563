use Rattle.std.proofs.Common.{◌≡◌, ◌++◌, drop}
use Rattle.ps_levels.specs.WinsShown.{wins_shown}
use Rattle.ps_warnings.specs.MeaningsSeen.{meanings_seen}
use Rattle.ps_warnings.specs.Spoken.{spoken_in_wins}
use Rattle.ps_warnings.proofs.spoken.push_wins.Given as goal

-- what is left comes to the whole
abbrev pub invariant-loop-win : goal.invariant-loop-win
invariant-loop-win l =
    meanings_seen l.made.items ++ spoken_in_wins (wins_shown (drop l.win-index l.wins))
    ≡ meanings_seen l.initial.made.items ++ spoken_in_wins (wins_shown l.wins)
