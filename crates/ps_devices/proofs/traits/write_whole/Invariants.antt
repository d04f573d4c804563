use Rattle.std.proofs.Common.{◌≡◌, length, ◌+◌, ◌-◌, ◌<◌, ◌≤◌, take}
use Rattle.ps_devices.specs.Devices.{Grows}
use Rattle.ps_devices.proofs.traits.write_whole.Given as goal

-- a front of the bytes was taken, by no more calls than bytes
abbrev pub invariant-loop-done : goal.invariant-loop-done
invariant-loop-done g l = record {
  within : l.done ≤ length l.bytes;
  taken : Grows (g.W.ByteWriter.state l.initial.writer).contents (g.W.ByteWriter.state l.writer).contents
      (take l.done l.bytes);
  well : (g.W.ByteWriter.state l.writer).has_failed ≡ (g.W.ByteWriter.state l.initial.writer).has_failed;
  calls : (g.W.ByteWriter.state l.writer).calls ≤ (g.W.ByteWriter.state l.initial.writer).calls + l.done;
  called : 0 < l.done → (g.W.ByteWriter.state l.initial.writer).calls < (g.W.ByteWriter.state l.writer).calls;
  counts : (g.W.ByteWriter.state l.initial.writer).calls ≤ (g.W.ByteWriter.state l.writer).calls;
  none_empty : (g.W.ByteWriter.state l.writer).empty_calls ≡ (g.W.ByteWriter.state l.initial.writer).empty_calls;
  shorts : (g.W.ByteWriter.state l.initial.writer).short_calls ≤ (g.W.ByteWriter.state l.writer).short_calls;
  -- where something is left, each call took less than it was handed
  so_far : l.done < length l.bytes →
      (g.W.ByteWriter.state l.writer).calls + (g.W.ByteWriter.state l.initial.writer).short_calls
      ≤ (g.W.ByteWriter.state l.initial.writer).calls + (g.W.ByteWriter.state l.writer).short_calls;
  few : (g.W.ByteWriter.state l.writer).calls + (g.W.ByteWriter.state l.initial.writer).short_calls
      ≤ (g.W.ByteWriter.state l.initial.writer).calls + (1 + (g.W.ByteWriter.state l.writer).short_calls);
}

abbrev pub decreases-loop-done : goal.decreases-loop-done
decreases-loop-done g l = length l.bytes - l.done
