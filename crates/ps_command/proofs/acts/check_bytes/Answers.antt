use Rattle.std.proofs.Common.{sym, ◌∙◌}
use Rattle.ps_check.specs.Checks.{named_line}
use Rattle.ps_command.proofs.DetailsBelow.{line_alone}
use Rattle.ps_command.proofs.acts.check_bytes.Goals as goal

pub returns-then-branch-clause-told : goal.returns-then-branch-clause-told
returns-then-branch-clause-told g c =
    line_alone c.args.detail c.args.text.now (named_line c.args.path.now c.args.text.now) _ _
    (sym c.in_ok-check_named.ensures.accepted ∙ c.if-branch.true) c.in_ok-check_named.ensures.written
