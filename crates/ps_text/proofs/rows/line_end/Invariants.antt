use Rattle.std.proofs.Common.{◌≡◌, ◌+◌, drop}
use Rattle.std.specs.List.{position_or_len}
use Rattle.ps_model.specs.text.Lines.{is_line_feed}
use Rattle.ps_text.proofs.rows.line_end.Given as goal

abbrev pub invariant-loop-at : goal.invariant-loop-at
invariant-loop-at l = l.at + position_or_len is_line_feed (drop l.at l.text) ≡ l.fn.start + position_or_len
    is_line_feed (drop l.fn.start l.text)
