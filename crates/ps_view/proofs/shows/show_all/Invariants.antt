use Rattle.std.proofs.Common.{◌≡◌, false}
use Rattle.std.specs.Prelude.{◌||◌}
use Rattle.ps_devices.specs.Devices.{Loses}
use Rattle.ps_view.specs.Pieces.{output_of}
use Rattle.ps_view.proofs.shows.show_all.Given as goal

-- both devices are well, and the view that began so has taken what the reader gave
abbrev pub invariant-loop-call : goal.invariant-loop-call
invariant-loop-call g l =
    record {
      heard : (g.I.ByteReader.state l.input).has_failed ≡ false;
      well : ((g.W.ByteWriter.state l.view.writer.now).has_failed || (l.view.wants_memory || l.view.is_worn)) ≡ false;
      begun : l.view.past.begun ≡ l.initial.view.past.begun;
      none_empty : (g.I.ByteReader.state l.input).empty_calls ≡ (g.I.ByteReader.state l.initial.input).empty_calls;
      given : Loses (g.I.ByteReader.state l.initial.input).remaining (g.I.ByteReader.state l.input).remaining
          (output_of l.view.past.pieces);
    }
