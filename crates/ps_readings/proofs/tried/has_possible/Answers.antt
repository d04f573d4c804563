use Rattle.std.proofs.Common.{◌∙◌, sym, ap}
use Rattle.ps_model.specs.meaning.Readings.{one_of_each}
use Rattle.ps_readings.specs.TriedReadings.{some_is_possible}
use Rattle.ps_readings.proofs.TriedChoices.{possible_is, tried_well, tried_ill, none_tried}
use Rattle.ps_readings.proofs.tried.has_possible.Goals as goal

pub loop-reading-init : goal.loop-reading-init
loop-reading-init c =
    ap (some_is_possible c.args.names.now c.args.occurrences.now) (c.in_ok-ways.ensures.left
    ∙ ap one_of_each c.in_ok-lists.ensures) ∙ sym (possible_is c.args.names.now c.args.occurrences.now)

pub returns-then-branch-2 : goal.returns-then-branch-2
returns-then-branch-2 c =
    tried_well c.args.names.now c.args.occurrences.now _ c.in_ok-next.field-0 c.in_ok-is_possible.field-0 _ _ _
    c.in_ok-next.ensures.left c.if-branch.true c.in_ok-is_possible.ensures c.if-branch-2.true
    c.loop-reading.invariant

pub loop-reading-preserved : goal.loop-reading-preserved
loop-reading-preserved c =
    tried_ill c.args.names.now c.args.occurrences.now _ c.in_ok-next.field-0 c.in_ok-is_possible.field-0 _ _ _
    c.in_ok-next.ensures.left c.if-branch.true c.in_ok-is_possible.ensures c.if-branch-2.false
    c.loop-reading.invariant

pub returns : goal.returns
returns c = none_tried c.args.names.now c.args.occurrences.now _ c.in_ok-next.field-0 _ _ _ c.in_ok-next.ensures.left
    c.if-branch.false c.loop-reading.invariant
