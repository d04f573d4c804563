use Rattle.std.proofs.Common.{◌≡◌, [], false}
use Rattle.ps_model.specs.board.Turns.{Script}
use Rattle.ps_model.specs.game.Tellings.{ReaderState, WriterState}
use Rattle.ps_run.specs.GamesInPlay.{script_in}
use Rattle.ps_run.specs.Played.{HavePlayed}
use Rattle.ps_run.specs.Runs.{Stands}
use Rattle.ps_run.proofs.play.Play.play.Given as goal

-- the bytes read so far are played
abbrev pub invariant-loop-call : goal.invariant-loop-call
invariant-loop-call g l =
    let script : Script = script_in l.fn.self.game in
    let had : ReaderState = g.I.ByteReader.state l.fn.reader in
    let has : ReaderState = g.I.ByteReader.state l.reader in
    let from : WriterState = g.W.ByteWriter.state l.fn.writer in
    let now : WriterState = g.W.ByteWriter.state l.writer in
    record {
      plays : script_in l.self.game ≡ script_in l.fn.self.game;
      heard : (g.I.ByteReader.state l.reader).has_failed ≡ false;
      well : (g.W.ByteWriter.state l.writer).has_failed ≡ false;
      stands : (before : WriterState) → HavePlayed script before from l.fn.self.game.session l.fn.self.keys []
          → Stands script had has before now l.self.game.session l.self.keys l._call;
    }
