use Rattle.std.proofs.Common.{map}
use Rattle.clap.specs.Words.{app_of}
use Rattle.ps_command.proofs.ArgumentsRead.{matched_by}
use Rattle.ps_command.proofs.command.matches_of.Goals as goal

pub returns-clause-matched : goal.returns-clause-matched
returns-clause-matched g c =
    matched_by (app_of c.in_ok-command.command) (map g.S.AsStr.text c.args.words.now)
    c.in_ok-matches.matches c.in_ok-command.ensures.is c.in_ok-matches.ensures.matches
