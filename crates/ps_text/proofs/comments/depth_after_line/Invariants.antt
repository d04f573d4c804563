use Rattle.std.proofs.Common.{◌≡◌, ◌+◌, ◌≤◌, drop}
use Rattle.std.specs.Prelude.{fold}
use Rattle.ps_model.specs.text.Lines.{depth_behind}
use Rattle.ps_text.proofs.comments.depth_after_line.Given as goal

abbrev pub invariant-loop-byte : goal.invariant-loop-byte
invariant-loop-byte l =
    record {
      depth : fold depth_behind l.open (drop l.byte-index l.line) ≡ fold depth_behind l.depth l.line;
      most : l.open ≤ l.depth + l.byte-index;
    }
