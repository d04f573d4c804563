use Rattle.std.proofs.Common.{◌≡◌, ◌+◌, ◌-◌, false}
use Rattle.ps_model.specs.declared.limits.TheConstants.{READ_LIMIT}
use Rattle.ps_devices.specs.Devices.{Loses}
use Rattle.ps_command.proofs.after_keys.read_keys_given.Given as goal

-- the reader is well, and has given the keys
abbrev pub invariant-loop-piece : goal.invariant-loop-piece
invariant-loop-piece g l =
    record {
      heard : (g.I.ByteReader.state l.input).has_failed ≡ false;
      read : Loses (g.I.ByteReader.state l.initial.input).remaining (g.I.ByteReader.state l.input).remaining
          l.keys.items;
    }

abbrev pub decreases-loop-piece : goal.decreases-loop-piece
decreases-loop-piece g l = READ_LIMIT + 1 - l.keys.len
