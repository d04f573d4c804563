use Rattle.std.proofs.Common.{◌≡◌, false, map, take, true}
use Rattle.ps_command.specs.Replayed.{AreLinesOnWon, AreLinesTold}
use Rattle.ps_command.specs.Told.{TellsInOrder}
use Rattle.ps_command.proofs.replaying.Streams.replay_each.Given as goal

-- of the streams passed by their lines were told, in their order; where all of them win, those alone
abbrev pub invariant-loop-path : goal.invariant-loop-path
invariant-loop-path g l =
    record {
      heard : (g.I.ByteReader.state l.input).has_failed ≡ false;
      well : (g.O.ByteWriter.state l.screen).has_failed ≡ false;
      won : l.all_won ≡ true → TellsInOrder (AreLinesOnWon l.self.form l.self.game.now l.self.text.now)
          (map (λ path. path.now) (take l.path-index l.paths))
          (g.O.ByteWriter.state l.initial.screen).contents (g.O.ByteWriter.state l.screen).contents;
      told : TellsInOrder (AreLinesTold l.self.form l.self.game.now l.self.text.now)
          (map (λ path. path.now) (take l.path-index l.paths))
          (g.O.ByteWriter.state l.initial.screen).contents (g.O.ByteWriter.state l.screen).contents;
    }
