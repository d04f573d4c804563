-- What is left of a view that took all that a reader gave.
use Rattle.ps_command.proofs.ShownInView.{shows_on}
use Rattle.ps_command.proofs.showing.show_given.Goals as goal

pub returns-in-Ok-clause-shown : goal.returns-in-Ok-clause-shown
returns-in-Ok-clause-shown g c =
    let all = c.in-Ok.ensures in
    shows_on c.args.view.now.past.begun c.show_all.new.view.past.pieces _ _ _ _ _ all.given all.ended all.well all.shown
    all.as_whole
