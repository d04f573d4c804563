use Rattle.std.proofs.Common.{◌≡◌, ◌+◌, ◌++◌, ◌≤◌, drop}
use Rattle.ps_model.specs.text.Lines.{without_comments}
use Rattle.ps_text.proofs.comments.plain_bytes.Given as goal

abbrev pub invariant-loop-byte : goal.invariant-loop-byte
invariant-loop-byte l =
    record {
      plain : l.plain.items ++ without_comments l.open (drop l.byte-index l.line) ≡ without_comments l.depth l.line;
      most : l.open ≤ l.depth + l.byte-index;
    }
