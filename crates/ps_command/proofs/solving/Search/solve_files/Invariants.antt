use Rattle.std.proofs.Common.{◌≡◌, false, map, take, true}
use Rattle.ps_command.specs.Searched.{AreLinesToldOf, AreWonLines}
use Rattle.ps_command.specs.Told.{TellsInOrder}
use Rattle.ps_command.proofs.solving.Search.solve_files.Given as goal

-- of the texts passed by their lines were told, in their order; where all of their levels are won, those alone
abbrev pub invariant-loop-path : goal.invariant-loop-path
invariant-loop-path g l =
    record {
      heard : (g.I.ByteReader.state l.input).has_failed ≡ false;
      well : (g.O.ByteWriter.state l.screen).has_failed ≡ false;
      won : l.all_won ≡ true → TellsInOrder (AreWonLines l.self.question)
          (map (λ path. path.now) (take l.path-index l.paths))
          (g.O.ByteWriter.state l.initial.screen).contents (g.O.ByteWriter.state l.screen).contents;
      told : TellsInOrder (AreLinesToldOf l.self.question) (map (λ path. path.now) (take l.path-index l.paths))
          (g.O.ByteWriter.state l.initial.screen).contents (g.O.ByteWriter.state l.screen).contents;
    }
