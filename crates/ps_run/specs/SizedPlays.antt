-- A game that is played on boards of one kind or another, whichever they are.
use Rattle.ps_session.specs.RestedSessions.{RestedSession}
use Rattle.ps_run.specs.GamesInPlay.{GameInPlay}
use Rattle.ps_run.specs.declared.rested_play.RestedPlay.{RestedPlay}
use Rattle.ps_run.specs.declared.rested_play.RestedPlay.TheVariants as rested
use Rattle.ps_run.specs.declared.sized_play.SizedPlay.{SizedPlay}
use Rattle.ps_run.specs.declared.sized_play.SizedPlay.TheVariants.{One, Two, Three, Four}

abbrev pub play_in : SizedPlay → GameInPlay
play_in (One play) = play
play_in (Two play) = play
play_in (Three play) = play
play_in (Four play) = play

-- the same of a game at rest
abbrev pub rested_in : RestedPlay → RestedSession
rested_in (rested.One session) = session
rested_in (rested.Two session) = session
rested_in (rested.Three session) = session
rested_in (rested.Four session) = session
