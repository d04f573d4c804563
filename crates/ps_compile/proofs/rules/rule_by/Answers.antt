use Rattle.std.proofs.Common.{◌∙◌, ap, map}
use Rattle.ps_model.specs.meaning.CompiledRules.{compiled_cell}
use Rattle.ps_rules.specs.RulesShown.{rule_shown, tree_rows_shown}
use Rattle.ps_readings.specs.ReadingsShown.{reading_shown}
use Rattle.ps_program.specs.Axes.{direction_of}
use Rattle.ps_program.specs.ProgramShown.{rows_shown}
use Rattle.ps_compile.specs.TurnedRows.{row_from}
use Rattle.ps_compile.proofs.TurnedRules.{made-rule}
use Rattle.ps_compile.proofs.rules.rule_by.Goals as goal

pub returns : goal.returns
returns c =
    rw (
      c.in_ok-made.ensures.axis,
      c.in_ok-made.ensures.rows,
      c.in_ok-made.ensures.rewrites,
      c.in_ok-made.ensures.commands,
      c.in_ok-commands.ensures.cases,
    )
    (made-rule c.args.names.now c.args.occurrences.now (rule_shown c.rule-rule.result.now)
    (reading_shown c.args.reading.now) (direction_of c.axis_of-axis.result) c.faces_back-backwards.result
    (rows_shown c.in_ok-rows.rows)
    c.rule-rule.ensures c.axis_of-axis.ensures c.faces_back-backwards.ensures
    (c.in_ok-rows.ensures.rows
    ∙ ap (λ seen. map (row_from c.faces_back-backwards.result
    (compiled_cell c.args.names.now c.args.occurrences.now (reading_shown c.args.reading.now)))
    (tree_rows_shown seen)) c.as_slice.ensures))
