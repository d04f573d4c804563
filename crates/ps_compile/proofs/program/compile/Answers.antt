use Rattle.std.proofs.Common.{◌∙◌, ap, subst, List}
use Rattle.std.specs.Prelude.{All}
use Rattle.ps_model.specs.rules.SourceRules.{RuleLine}
use Rattle.ps_laws.specs.WholeRows.{IsWholeLine}
use Rattle.ps_model.specs.declared.rules.Part.TheVariants.{Plain, Late}
use Rattle.ps_compile.specs.CompactPrograms.{compact_program}
use Rattle.ps_compile.proofs.CompactPrograms.{runs-alike}
use Rattle.ps_compile.proofs.RunnablePrograms.{runs-on-boards}
use Rattle.ps_compile.proofs.program.compile.Goals as goal

pub returns-clause-plain_alike : goal.returns-clause-plain_alike
returns-clause-plain_alike c =
    runs-alike c.args.names.now Plain c.args.rules.now c.in_ok-plain.plain (c.in_ok-plain.ensures
    ∙ ap (compact_program c.args.names.now Plain) c.lines.ensures.lines)

pub returns-clause-late_alike : goal.returns-clause-late_alike
returns-clause-late_alike c =
    runs-alike c.args.names.now Late c.args.rules.now c.in_ok-late.late (c.in_ok-late.ensures
    ∙ ap (compact_program c.args.names.now Late) c.lines-2.ensures.lines)

pub returns-clause-plain_runs : goal.returns-clause-plain_runs
returns-clause-plain_runs c =
    runs-on-boards c.args.names.now Plain c.args.rules.now c.in_ok-plain.plain (c.in_ok-plain.ensures
    ∙ ap (compact_program c.args.names.now Plain) c.lines.ensures.lines)
    (subst (λ (lines : List RuleLine). All IsWholeLine lines) c.lines.ensures.lines c.lines.ensures.whole)

pub returns-clause-late_runs : goal.returns-clause-late_runs
returns-clause-late_runs c =
    runs-on-boards c.args.names.now Late c.args.rules.now c.in_ok-late.late (c.in_ok-late.ensures
    ∙ ap (compact_program c.args.names.now Late) c.lines-2.ensures.lines)
    (subst (λ (lines : List RuleLine). All IsWholeLine lines) c.lines-2.ensures.lines c.lines-2.ensures.whole)
