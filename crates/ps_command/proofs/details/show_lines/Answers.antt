use Rattle.std.proofs.Common.{◌∙◌, ℕ, List, sym, subst}
use Rattle.std.specs.Prelude.{string_bytes}
use Rattle.ps_devices.specs.Devices.{Grows}
use Rattle.ps_command.proofs.DetailsBelow.{lines_below}
use Rattle.ps_command.proofs.details.show_lines.Goals as goal

pub returns-in-Ok-clause-told : goal.returns-in-Ok-clause-told
returns-in-Ok-clause-told g c =
    let lines : List ℕ = string_bytes c.in_ok-lines.lines in
    let W : List ℕ → Type 0 = λ bytes. Grows (g.O.ByteWriter.state c.args.screen.now).contents
    (g.O.ByteWriter.state c.write_whole.new.writer).contents bytes in
    record {
      more = lines;
      is = lines_below c.args.text.now lines c.in-Some.fault c.requires.refused
          (sym c.in_ok-fault.ensures ∙ c.in-Some.is) c.in_ok-lines.ensures;
      wrote = subst W c.as_bytes.ensures.value c.in-Ok.ensures.taken;
    }
