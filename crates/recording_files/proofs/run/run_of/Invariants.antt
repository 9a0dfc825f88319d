-- The bytes so far are packets that were counted.
use Rattle.std.proofs.Common.{◌-◌, ◌≤◌, length, take}
use Rattle.recording_files.specs.Run.{IsRun}
use Rattle.recording_files.proofs.run.run_of.Given as goal

abbrev pub invariant-loop-len : goal.invariant-loop-len
invariant-loop-len l = record {
  within : l.len ≤ length l.bytes;
  few : l.frames ≤ l.len;
  run : IsRun l.layout (take l.len l.bytes) l.frames l.greatest;
}

abbrev pub decreases-loop-len : goal.decreases-loop-len
decreases-loop-len l = length l.bytes - l.len
