use Rattle.std.proofs.Common.{rules, ◌≡◌, ◌∙◌, ap, Some, None, false}
use Rattle.ps_model.specs.declared.faults.Fault.{Fault as TheFault}
use Rattle.ps_model.specs.declared.faults.FaultKind.TheVariants.{BadWin, UnknownWinName}
use Rattle.ps_model.specs.text.LineNumbers.{line_at}
use Rattle.ps_model.specs.text.Lines.{Line, is_blank_line}
use Rattle.ps_model.specs.board.WinLines.{win_text, win_read, WinText}
use Rattle.ps_levels.specs.WinsShown.{words_shown}
use Rattle.ps_laws.proofs.common.LinesInOrder.{line_at-number}
use Rattle.ps_levels.proofs.WinSteps.{bad-win, unknown-win-name}
use Rattle.ps_levels.proofs.wins.read_line.Goals as goal

pub returns-in_default : goal.returns-in_default
returns-in_default c = (
  tt,
  (
    tt,
    λ fault e.
        let line : Line = line_at c.args.source.now c.args.line in
        let none : win_text line ≡ None = search rules in
        let blank : is_blank_line line ≡ false = search rules in
        let told : TheFault = record { kind = BadWin; line = c.args.line } in
        let same : told ≡ fault = cc in
        bad-win c.args.names.now line c.args.line
        (line_at-number c.args.source.now c.args.line c.requires.0 c.requires.1) blank none ∙ ap Some same,
  ),
)

pub returns-in_default-2 : goal.returns-in_default-2
returns-in_default-2 c = (
  tt,
  (
    tt,
    λ fault e.
        let line : Line = line_at c.args.source.now c.args.line in
        let text : WinText = words_shown c.in-Some.words in
        let found : win_text line ≡ Some text = search rules in
        let lost : win_read c.args.names.now text ≡ None = search rules in
        let told : TheFault = record { kind = UnknownWinName; line = c.args.line } in
        let same : told ≡ fault = cc in
        unknown-win-name c.args.names.now line c.args.line text
        (line_at-number c.args.source.now c.args.line c.requires.0 c.requires.1) found lost ∙ ap Some same,
  ),
)
