use Rattle.std.proofs.Common.{ℕ, List, subst}
use Rattle.std.specs.Prelude.{string_bytes}
use Rattle.ps_devices.specs.Devices.{Grows}
use Rattle.ps_command.proofs.reporting.report_bytes.Goals as goal

pub returns-in-Ok-clause-told : goal.returns-in-Ok-clause-told
returns-in-Ok-clause-told g c =
    let W : List ℕ → Type 0 = λ bytes. Grows (g.O.ByteWriter.state c.args.screen.now).contents
    (g.O.ByteWriter.state c.write_whole.new.writer).contents bytes in
    record {
      lines = string_bytes c.in_ok-told.told.lines;
      are = c.in_ok-told.ensures.lines;
      wrote = subst W c.as_bytes.ensures.value c.in-Ok.ensures.taken;
    }
