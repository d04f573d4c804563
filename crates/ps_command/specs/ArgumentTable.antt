-- By which rule clap reads an argument of the table.
use Rattle.std.specs.Prelude.{Bool, true, false, not, Some, is_some}
use Rattle.clap.specs.Lexer.{usize_max}
use Rattle.clap.specs.Walk.{is_empty}
use Rattle.clap.specs.Words.{Rule, Text, new_rule}
use Rattle.clap.specs.declared.builder.action.ArgAction.TheVariants.{Append, Set}
use Rattle.ps_command.specs.CommandLines.{bound, flag, option}
use Rattle.ps_command.specs.declared.argument_table.Argument.{Argument}
use Rattle.ps_command.specs.declared.argument_table.Form.{Form}
use Rattle.ps_command.specs.declared.argument_table.Form.TheVariants as form

-- a file, which has no name before it
abbrev pub file : Text → Rule
file name = record (new_rule name) { action = Some Set }

-- files after it, one or more
abbrev pub files : Text → Rule
files name = record (new_rule name) {
  action = Some Append;
  range = Some (record { start_inclusive = 1; end_inclusive = usize_max });
}

-- an argument with a rule on others, if it has one
abbrev pub bound_if : Bool → Rule → Rule
bound_if true rule = bound rule
bound_if false rule = rule

-- an argument of this name that is read so
abbrev pub rule_of_form : Text → Form → Rule
rule_of_form name (form.File _) = bound (file name)
rule_of_form name form.Files = files name
rule_of_form name form.Flag = flag name
rule_of_form name (form.Value _) = option name

-- with what has to stand beside it
abbrev pub rule_with_needs : Argument → Rule
rule_with_needs argument = bound_if (is_some argument.needs) (rule_of_form argument.name.now argument.form)

-- and with what can't stand beside it
abbrev pub rule_for : Argument → Rule
rule_for argument = bound_if (not (is_empty argument.excludes.now)) (rule_with_needs argument)
