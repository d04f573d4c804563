use Rattle.std.proofs.Common.{◌≡◌, ◌∙◌, sym, ap, map}
use Rattle.ps_model.specs.text.LineNumbers.{line_at}
use Rattle.ps_model.specs.text.Lines.{Line}
use Rattle.ps_model.specs.rules.RuleShape.{RuleShape, at_end}
use Rattle.ps_model.specs.rules.RuleTree.{rows_of, row_of_cells, commands_of}
use Rattle.ps_program.specs.CommandsShown.{commands_shown}
use Rattle.ps_rules.specs.RulesShown.{tree_rows_shown}
use Rattle.ps_rules.specs.ShapesShown.{shape_shown}
use Rattle.ps_laws.proofs.common.LinesInOrder.{line_at-number}
use Rattle.ps_rules.proofs.Rows.{rows-by-cells}
use Rattle.ps_rules.proofs.SameRules.{same-rule}
use Rattle.ps_rules.proofs.rules.rule_of.Goals as goal

pub returns : goal.returns
returns c =
    let line : Line = line_at c.args.source.now c.args.line in
    let shape : RuleShape = shape_shown c.args.shape.now in
    let rows : tree_rows_shown c.in_ok-rows.rows ≡ rows_of shape =
    c.in_ok-rows.ensures ∙ ap (map row_of_cells) c.requires.paired ∙ rows-by-cells shape in
    let commands : commands_shown c.in_ok-commands.commands.value ≡ commands_of line (at_end shape.right) =
    ap commands_shown c.in_ok-commands.ensures.ok ∙ c.in_ok-asked.ensures ∙ ap (commands_of line) c.at_end.ensures in
    same-rule _ _ _ _ _ _ _ _ _ _ _ _ _ _ (sym
    (line_at-number c.args.source.now c.args.line c.requires.there.0 c.requires.there.1))
    c.has_kind.ensures c.has_kind-2.ensures c.in_ok-directions.ensures rows c.has_rows.ensures commands
