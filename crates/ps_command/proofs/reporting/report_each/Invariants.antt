use Rattle.std.proofs.Common.{◌≡◌, ◌+◌, false, map, take}
use Rattle.ps_command.specs.Reported.{IsReportOfFile, IsReportOfGame, IsReportOfText}
use Rattle.ps_command.specs.Told.{TellsInOrder}
use Rattle.ps_command.proofs.reporting.report_each.Given as goal

-- each of the files passed by is counted, and of those that could be read the reports were told, in their order
abbrev pub invariant-loop-path : goal.invariant-loop-path
invariant-loop-path g l =
    record {
      heard : (g.I.ByteReader.state l.input).has_failed ≡ false;
      well : (g.O.ByteWriter.state l.screen).has_failed ≡ false;
      each : l.games + (l.faulty + l.unread) ≡ l.path-index;
      games : l.games ≡ l.path-index → TellsInOrder (IsReportOfGame l.how)
          (map (λ path. path.now) (take l.path-index l.paths))
          (g.O.ByteWriter.state l.initial.screen).contents (g.O.ByteWriter.state l.screen).contents;
      texts : l.unread ≡ 0 → TellsInOrder (IsReportOfText l.how)
          (map (λ path. path.now) (take l.path-index l.paths))
          (g.O.ByteWriter.state l.initial.screen).contents (g.O.ByteWriter.state l.screen).contents;
      files : TellsInOrder (IsReportOfFile l.how) (map (λ path. path.now) (take l.path-index l.paths))
          (g.O.ByteWriter.state l.initial.screen).contents (g.O.ByteWriter.state l.screen).contents;
    }
