use Rattle.std.proofs.Common.{◌++◌, codes}
use Rattle.std.proofs.lemmas.Result.{on_ok_weaker}
use Rattle.ps_answers.specs.SolvedWords.{counted}
use Rattle.ps_answers.proofs.Joined.{joined}
use Rattle.ps_answers.proofs.lines.add_never.Goals as goal

pub returns : goal.returns
returns c =
    on_ok_weaker c.add-2.result (λ last.
    joined c.args.line.now.items (codes "can't be won (") (counted c.args.states (codes "state") ++ codes ")") _ _
    c.in_ok-add.ensures
    (joined c.add.new.line.items (counted c.args.states (codes "state")) (codes ")") _ _
    c.in_ok-add_counted.ensures last)) c.add-2.ensures
