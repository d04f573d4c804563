use Rattle.ps_why.proofs.LineTexts.{line_is}
use Rattle.ps_why.proofs.lines.line_bytes.Goals as goal

pub returns-clause-line : goal.returns-clause-line
returns-clause-line c =
    rw (c.line_end.ensures.end, c.line_start-from.ensures.place) (line_is c.args.text.now c.args.line)
