use Rattle.std.proofs.Common.{rules, ◌∙◌, ◌++◌, take}
use Rattle.ps_run.proofs.Gathering.{all_bytes_played, if_cut, piece_cut_off, piece_goes_on}
use Rattle.ps_run.proofs.play.Play.play_piece.Goals as goal

pub loop-byte-preserved : goal.loop-byte-preserved
loop-byte-preserved g c =
    let next = rw c.loop-byte.invariant.plays at c.in_default.ensures.played in
    record {
      plays = c.in_default.ensures.script ∙ c.loop-byte.invariant.plays;
      well = c.in_default.ensures.well (λ e. cc);
      gathered = λ before read played.
          piece_goes_on _ before _ _ _ _ read c.args.piece.now c.loop-byte.byte-index c.loop-byte-test.true
          (next before read (read ++ take c.loop-byte.byte-index c.args.piece.now)
          (c.loop-byte.invariant.gathered before read played));
    }

pub returns-clause-played : goal.returns-clause-played
returns-clause-played g c = all_bytes_played c.flush.result _ _ _ _ _ _ c.args.piece.now c.loop-byte.byte-index
    (search rules) c.loop-byte.invariant.gathered c.flush.ensures.written

pub returns-clause-stops : goal.returns-clause-stops
returns-clause-stops g c = if_cut _ c.flush.result c.flush.ensures.fault
    (λ stops before read played.
    piece_cut_off _ before _ _ _ _ _ read c.args.piece.now c.loop-byte.byte-index (search rules) stops
    (c.loop-byte.invariant.gathered before read played))
    c.flush.ensures.stops
