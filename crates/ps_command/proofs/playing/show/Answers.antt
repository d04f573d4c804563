-- What a player leaves of a view, from the start and from a level.
use Rattle.std.proofs.Common.{◌≡◌, None, Some, rules}
use Rattle.ps_command.proofs.PlayedInView.{ends_on}
use Rattle.ps_command.proofs.playing.show.Goals as goal

pub returns-in-Ok-clause-ended : goal.returns-in-Ok-clause-ended
returns-in-Ok-clause-ended g c =
    let none : c.args.start.asked.level ≡ None = search rules in
    let played = c.in-Ok.ensures in
    ends_on c.args.start.asked.level None c.args.start.text.now c.args.view.now.past.begun _ _ _ _ c.in-Ok._ending
    c.play_viewed.new.view.past.pieces _ _ _ _ none played.rightly played.well played.shown
    played.as_whole

pub returns-in-Ok-play_viewed_from_level-clause-ended : goal.returns-in-Ok-play_viewed_from_level-clause-ended
returns-in-Ok-play_viewed_from_level-clause-ended g c =
    let played = c.in-Ok-play_viewed_from_level.ensures in
    ends_on c.args.start.asked.level (Some c.in-Some.level) c.args.start.text.now c.args.view.now.past.begun _ _ _ _
    c.in-Ok-play_viewed_from_level._ending c.play_viewed_from_level.new.view.past.pieces _ _ _ _ c.in-Some.is
    played.rightly played.well played.shown played.as_whole
