-- The view that took the output is the one that began so.
use Rattle.std.proofs.Common.{◌≡◌, ◌∙◌, true, false}
use Rattle.ps_view.proofs.Unmarked.{whole_from}
use Rattle.ps_view.proofs.shows.show_all.Goals as goal

pub returns-in_err-count-clause-as_whole : goal.returns-in_err-count-clause-as_whole
returns-in_err-count-clause-as_whole g c =
    whole_from c.args.view.now.past.begun c.loop-call.view.past.begun c.loop-call.view.past.pieces _ _
    c.loop-call.invariant.begun c.loop-call.view.shown c.loop-call.view.one_size

pub returns-then-count-eq0-clause-as_whole : goal.returns-then-count-eq0-clause-as_whole
returns-then-count-eq0-clause-as_whole g c =
    whole_from c.args.view.now.past.begun c.loop-call.view.past.begun c.loop-call.view.past.pieces _ _
    c.loop-call.invariant.begun c.loop-call.view.shown c.loop-call.view.one_size

pub returns-in_err-map_err-clause-as_whole : goal.returns-in_err-map_err-clause-as_whole
returns-in_err-map_err-clause-as_whole g c =
    whole_from c.args.view.now.past.begun c.take.new.self.past.begun c.take.new.self.past.pieces _ _
    (c.take.ensures.begun ∙ c.loop-call.invariant.begun) c.take.new.self.shown c.take.new.self.one_size

pub returns-clause-as_whole : goal.returns-clause-as_whole
returns-clause-as_whole g c =
    whole_from c.args.view.now.past.begun c.loop-call.view.past.begun c.loop-call.view.past.pieces _ _
    c.loop-call.invariant.begun c.loop-call.view.shown c.loop-call.view.one_size
