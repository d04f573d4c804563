-- The view that comes back is the one that was lent: it has the same mark.
use Rattle.std.proofs.Common.{◌≡◌}
use Rattle.ps_view.proofs.Unmarked.{begins_alike, same_name, right_from_level_unmarked, level_ok_is_well}
use Rattle.ps_view.proofs.Unmarked.{shown_from, whole_from, in_part_from}
use Rattle.ps_view.proofs.plays.play_viewed_from_level.Goals as goal

pub returns-clause-same_reference : goal.returns-clause-same_reference
returns-clause-same_reference g c =
    let right = c.play_from_level.ensures.rightly in
    same_name c.args.view.now.past.begun c.play_from_level.new.writer.past.begun _ _
    (begins_alike _ _ c.args.view.now.past.begun c.play_from_level.new.writer.past.begun c.args.view.now.past.pieces
    c.play_from_level.new.writer.past.pieces _ _ _ _ _ _ right.told right.tells) c.args.view.now.same c.play_from_level.new.writer.same

pub returns-clause-rightly : goal.returns-clause-rightly
returns-clause-rightly g c =
    right_from_level_unmarked _ _ c.args.view.now.past.begun c.play_from_level.new.writer.past.begun c.args.view.now.past.pieces
    c.play_from_level.new.writer.past.pieces _ _ _ _ _ _ c.args.text.now c.args.level _ c.requires.well c.play_from_level.ensures.rightly

pub returns-clause-well : goal.returns-clause-well
returns-clause-well g c = level_ok_is_well c.args.text.now c.args.level _ _ _ _ c.play_from_level.result c.play_from_level.ensures.rightly

pub returns-clause-shown : goal.returns-clause-shown
returns-clause-shown g c =
    let right = c.play_from_level.ensures.rightly in
    shown_from c.args.view.now.past.begun c.play_from_level.new.writer.past.begun c.play_from_level.new.writer.past.pieces _ _
    (begins_alike _ _ c.args.view.now.past.begun c.play_from_level.new.writer.past.begun c.args.view.now.past.pieces
    c.play_from_level.new.writer.past.pieces _ _ _ _ _ _ right.told right.tells)
    c.play_from_level.new.writer.shown

pub returns-clause-as_whole : goal.returns-clause-as_whole
returns-clause-as_whole g c =
    let right = c.play_from_level.ensures.rightly in
    whole_from c.args.view.now.past.begun c.play_from_level.new.writer.past.begun c.play_from_level.new.writer.past.pieces _ _
    (begins_alike _ _ c.args.view.now.past.begun c.play_from_level.new.writer.past.begun c.args.view.now.past.pieces
    c.play_from_level.new.writer.past.pieces _ _ _ _ _ _ right.told right.tells)
    c.play_from_level.new.writer.shown c.play_from_level.new.writer.one_size

pub returns-clause-in_part : goal.returns-clause-in_part
returns-clause-in_part g c =
    let right = c.play_from_level.ensures.rightly in
    in_part_from c.args.view.now.past.begun c.play_from_level.new.writer.past.begun c.play_from_level.new.writer.past.pieces _
    (begins_alike _ _ c.args.view.now.past.begun c.play_from_level.new.writer.past.begun c.args.view.now.past.pieces
    c.play_from_level.new.writer.past.pieces _ _ _ _ _ _ right.told right.tells) c.play_from_level.new.writer.in_part
