use Rattle.std.proofs.Common.{◌≡◌, ◌++◌, ◌<◌}
use Rattle.std.specs.Prelude.{All}
use Rattle.std.specs.List.{flat_map}
use Rattle.ps_model.specs.text.LineNumbers.{lines_between}
use Rattle.ps_warnings.specs.Marks.{marked}
use Rattle.ps_warnings.specs.NameWarnings.{declaring_lines, others_named}
use Rattle.ps_warnings.proofs.used_names.pass_legend.Given as goal

-- what is left comes to the whole
abbrev pub invariant-loop-line : goal.invariant-loop-line
invariant-loop-line l =
    record {
      used : marked l.used (flat_map (others_named l.names) (lines_between l.source l.line l.fn.lines.end))
          ≡ marked l.initial.used (flat_map (others_named l.names)
          (lines_between l.source l.fn.lines.start l.fn.lines.end));
      declaring : l.declaring.items ++ declaring_lines l.names (lines_between l.source l.line l.fn.lines.end)
          ≡ declaring_lines l.names (lines_between l.source l.fn.lines.start l.fn.lines.end);
      below : All (λ line. line < l.fn.lines.end) l.declaring.items;
    }
