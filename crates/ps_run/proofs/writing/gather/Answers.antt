use Rattle.ps_run.proofs.Gathering.{cut_off_apart, gathered_apart, stays}
use Rattle.ps_run.proofs.writing.gather.Goals as goal

pub returns-then-add_if_room-clause-gathered : goal.returns-then-add_if_room-clause-gathered
returns-then-add_if_room-clause-gathered g c = stays _ c.args.gathered.now.items c.add_if_room.new.gathered.items
    c.args.text.now (c.add_if_room.ensures.added c.if-add_if_room.true)

pub returns-clause-gathered : goal.returns-clause-gathered
returns-clause-gathered g c =
    let kept = c.add_if_room.ensures.kept c.if-add_if_room.false in
    let taken = rw kept at c.in_default.ensures.written in
    gathered_apart c.gather_first.result _ _ _ c.args.gathered.now.items _ c.args.text.now taken
    c.gather_first.ensures.gathered

pub returns-clause-stops : goal.returns-clause-stops
returns-clause-stops g c =
    let kept = c.add_if_room.ensures.kept c.if-add_if_room.false in
    let taken = rw kept at c.in_default.ensures.written in
    cut_off_apart c.gather_first.result _ _ _ c.args.gathered.now.items c.args.text.now taken
    c.gather_first.ensures.stops
