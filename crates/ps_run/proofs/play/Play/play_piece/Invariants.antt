use Rattle.std.proofs.Common.{◌≡◌, ℕ, List, ◌++◌, false, take}
use Rattle.ps_model.specs.board.Turns.{Script}
use Rattle.ps_model.specs.game.Tellings.{WriterState}
use Rattle.ps_run.specs.GamesInPlay.{script_in}
use Rattle.ps_run.specs.Played.{HaveGathered, HavePlayed}
use Rattle.ps_run.proofs.play.Play.play_piece.Given as goal

-- the bytes passed by are played, and their texts are gathered as far as they aren't written
abbrev pub invariant-loop-byte : goal.invariant-loop-byte
invariant-loop-byte g l =
    let script : Script = script_in l.fn.self.game in
    let from : WriterState = g.W.ByteWriter.state l.fn.writer in
    let now : WriterState = g.W.ByteWriter.state l.writer in
    record {
      plays : script_in l.self.game ≡ script_in l.fn.self.game;
      well : (g.W.ByteWriter.state l.writer).has_failed ≡ false;
      gathered : (before : WriterState) (read : List ℕ) →
          HavePlayed script before from l.fn.self.game.session l.fn.self.keys read
          → HaveGathered script before now l.self.game.session l.self.keys l.self.gathered.items read
          (read ++ take l.byte-index l.piece);
    }
