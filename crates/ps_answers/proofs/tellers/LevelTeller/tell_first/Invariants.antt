use Rattle.std.proofs.Common.{◌≡◌, false}
use Rattle.ps_answers.specs.Forms.{told_in}
use Rattle.ps_answers.specs.TellsLevels.{AreLinesOnFirst, Tells}
use Rattle.ps_answers.proofs.tellers.LevelTeller.tell_first.Given as goal

-- the levels passed by have their lines
abbrev pub invariant-loop-before : goal.invariant-loop-before
invariant-loop-before g l =
    record {
      game : l.self.game ≡ l.initial.self.game;
      form : l.self.form ≡ l.initial.self.form;
      name : l.self.name ≡ l.initial.self.name;
      limit : l.self.limit ≡ l.initial.self.limit;
      well : (g.W.ByteWriter.state l.writer).has_failed ≡ false;
      told : Tells (AreLinesOnFirst (g.G.SolvableGame.text l.initial.self.game.now)
          (told_in l.initial.self.form l.initial.self.name.now) l.initial.self.limit l.before l.all_won)
          (g.W.ByteWriter.state l.initial.writer).contents (g.W.ByteWriter.state l.writer).contents;
    }
