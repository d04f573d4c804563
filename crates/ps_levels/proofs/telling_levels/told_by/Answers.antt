use Rattle.std.proofs.Common.{◌≡◌, ◌∙◌, ◌-◌, ap, arith, List}
use Rattle.ps_model.specs.text.Lines.{Line}
use Rattle.ps_model.specs.text.LineNumbers.{lines_between}
use Rattle.ps_model.specs.session.LevelLines.{entry_lines}
use Rattle.ps_laws.proofs.common.LinesInOrder.{between-end}
use Rattle.ps_levels.proofs.ToldSteps.{all-told}
use Rattle.ps_levels.proofs.telling_levels.told_by.Goals as goal

pub loop-place-preserved : goal.loop-place-preserved
loop-place-preserved c =
    record {
      behind = omega (arith, c.loop-place.invariant.behind, c.in_ok-place.ensures.behind);
      within = c.in_ok-place.ensures.within;
      few = omega (arith, c.loop-place.invariant.few, c.in_ok-place.ensures.few, c.in_ok-place.ensures.behind);
      rest = c.in_ok-place.ensures.told ∙ c.loop-place.invariant.rest;
      level = c.in_ok-place.ensures.level ∙ c.loop-place.invariant.level;
    }

pub returns : goal.returns
returns c =
    let text = c.args.source.now in
    let left = ap entry_lines (between-end text c.loop-place.place.line c.args.lines.end (omega arith)) in
    all-told c.args.names.now (c.args.lines.start - 1) c.loop-place.place.above c.loop-place.place.has_level
    (entry_lines (lines_between text c.args.lines.start c.args.lines.end))
    (entry_lines (lines_between text c.loop-place.place.line c.args.lines.end)) c.loop-place.told.items
    c.tell_absence.new.told.items left c.loop-place.invariant.rest c.loop-place.invariant.level
    c.in_ok-tell_absence.ensures
