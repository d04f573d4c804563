use Rattle.std.proofs.Common.{rules, ◌≡◌, ◌∙◌, ◌++◌, ◌&&◌, ap, List, true, false, arith}
use Rattle.std.specs.Prelude.{not}
use Rattle.std.proofs.lemmas.List.{append-nil}
use Rattle.ps_model.specs.text.Lines.{Line}
use Rattle.ps_model.specs.text.LineNumbers.{line_at, lines_between}
use Rattle.ps_model.specs.session.LevelLines.{is_row}
use Rattle.ps_levels.proofs.StretchSteps.{level-goes-on, level-ends}
use Rattle.ps_levels.proofs.stretch.level_end.Goals as goal

pub returns-then-branch-clause-rows : goal.returns-then-branch-clause-rows
returns-then-branch-clause-rows c =
    let text = c.args.source.now in
    let line = c.loop-line.line in
    let above = lines_between text c.args.lines.start line in
    let ends : (line_at text line).is_there && not (is_row (line_at text line)) ≡ true = search rules in
    let found = level-ends text line c.args.lines.end (omega arith) (omega arith) (omega arith) ends in
    c.loop-line.invariant.rows ∙ ap (λ (lines : List Line). above ++ lines) found.0 ∙ append-nil above

pub returns-then-branch-clause-rest : goal.returns-then-branch-clause-rest
returns-then-branch-clause-rest c =
    let text = c.args.source.now in
    let line = c.loop-line.line in
    let ends : (line_at text line).is_there && not (is_row (line_at text line)) ≡ true = search rules in
    let found = level-ends text line c.args.lines.end (omega arith) (omega arith) (omega arith) ends in
    c.loop-line.invariant.rest ∙ found.1

pub loop-line-preserved : goal.loop-line-preserved
loop-line-preserved c =
    let text = c.args.source.now in
    let line = c.loop-line.line in
    let ends : (line_at text line).is_there && not (is_row (line_at text line)) ≡ false = search rules in
    let further = level-goes-on text c.args.lines.start line c.args.lines.end (omega arith) (omega arith) (omega arith)
    (omega arith) ends in
    record {
      rows = c.loop-line.invariant.rows ∙ further.0;
      rest = c.loop-line.invariant.rest ∙ further.1;
    }
