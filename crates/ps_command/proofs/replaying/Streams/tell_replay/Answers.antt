use Rattle.std.proofs.Common.{◌∙◌, ℕ, List, subst}
use Rattle.ps_devices.specs.Devices.{Grows}
use Rattle.ps_command.proofs.replaying.Streams.tell_replay.Goals as goal

pub returns-in-Ok-clause-told : goal.returns-in-Ok-clause-told
returns-in-Ok-clause-told g c =
    let W : List ℕ → Type 0 = λ bytes. Grows (g.O.ByteWriter.state c.args.screen.now).contents
    (g.O.ByteWriter.state c.write_whole.new.writer).contents bytes in
    subst W (c.as_bytes.ensures.value ∙ c.in_ok-told.ensures) c.in-Ok.ensures.taken
