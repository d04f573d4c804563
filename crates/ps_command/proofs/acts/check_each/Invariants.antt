use Rattle.std.proofs.Common.{◌≡◌, ◌+◌, ◌≤◌, false, map, take}
use Rattle.ps_command.specs.Told.{TellsOfFiles, TellsOfGames}
use Rattle.ps_command.proofs.acts.check_each.Given as goal

-- something was said of each of the files passed by, and on the screen, in their order, of those that could be read;
-- where all of them are games, nothing but the line of each
abbrev pub invariant-loop-path : goal.invariant-loop-path
invariant-loop-path g l =
    record {
      heard : (g.I.ByteReader.state l.input).has_failed ≡ false;
      well : (g.O.ByteWriter.state l.screen).has_failed ≡ false;
      each : l.games + (l.faulty + l.unread) ≡ l.path-index;
      written : (g.O.ByteWriter.state l.initial.screen).calls + (l.games + l.faulty)
          ≤ (g.O.ByteWriter.state l.screen).calls;
      games : l.games ≡ l.path-index → TellsOfGames (map (λ path. path.now) (take l.path-index l.paths))
          (g.O.ByteWriter.state l.initial.screen).contents (g.O.ByteWriter.state l.screen).contents;
      files : TellsOfFiles l.detail (map (λ path. path.now) (take l.path-index l.paths))
          (g.O.ByteWriter.state l.initial.screen).contents (g.O.ByteWriter.state l.screen).contents;
    }
