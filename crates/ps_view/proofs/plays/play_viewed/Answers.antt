-- The view that comes back is the one that was lent: it has the same mark.
use Rattle.std.proofs.Common.{◌≡◌}
use Rattle.ps_view.proofs.Unmarked.{begins_alike, same_name, right_unmarked, ok_is_well, shown_from, whole_from, in_part_from}
use Rattle.ps_view.proofs.plays.play_viewed.Goals as goal

pub returns-clause-same_reference : goal.returns-clause-same_reference
returns-clause-same_reference g c =
    let right = c.play.ensures.rightly in
    same_name c.args.view.now.past.begun c.play.new.writer.past.begun _ _
    (begins_alike _ _ c.args.view.now.past.begun c.play.new.writer.past.begun c.args.view.now.past.pieces
    c.play.new.writer.past.pieces _ _ _ _ _ _ right.told right.tells) c.args.view.now.same c.play.new.writer.same

pub returns-clause-rightly : goal.returns-clause-rightly
returns-clause-rightly g c =
    right_unmarked _ _ c.args.view.now.past.begun c.play.new.writer.past.begun c.args.view.now.past.pieces
    c.play.new.writer.past.pieces _ _ _ _ _ _ c.args.text.now _ c.requires.well c.play.ensures.rightly

pub returns-clause-well : goal.returns-clause-well
returns-clause-well g c = ok_is_well c.args.text.now _ _ _ _ c.play.result c.play.ensures.rightly

pub returns-clause-shown : goal.returns-clause-shown
returns-clause-shown g c =
    let right = c.play.ensures.rightly in
    shown_from c.args.view.now.past.begun c.play.new.writer.past.begun c.play.new.writer.past.pieces _ _
    (begins_alike _ _ c.args.view.now.past.begun c.play.new.writer.past.begun c.args.view.now.past.pieces
    c.play.new.writer.past.pieces _ _ _ _ _ _ right.told right.tells)
    c.play.new.writer.shown

pub returns-clause-as_whole : goal.returns-clause-as_whole
returns-clause-as_whole g c =
    let right = c.play.ensures.rightly in
    whole_from c.args.view.now.past.begun c.play.new.writer.past.begun c.play.new.writer.past.pieces _ _
    (begins_alike _ _ c.args.view.now.past.begun c.play.new.writer.past.begun c.args.view.now.past.pieces
    c.play.new.writer.past.pieces _ _ _ _ _ _ right.told right.tells)
    c.play.new.writer.shown c.play.new.writer.one_size

pub returns-clause-in_part : goal.returns-clause-in_part
returns-clause-in_part g c =
    let right = c.play.ensures.rightly in
    in_part_from c.args.view.now.past.begun c.play.new.writer.past.begun c.play.new.writer.past.pieces _
    (begins_alike _ _ c.args.view.now.past.begun c.play.new.writer.past.begun c.args.view.now.past.pieces
    c.play.new.writer.past.pieces _ _ _ _ _ _ right.told right.tells) c.play.new.writer.in_part
