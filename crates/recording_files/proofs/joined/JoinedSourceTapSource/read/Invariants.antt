-- The buffer's prefix was given, and no failure was counted.
use Rattle.std.proofs.Common.{◌≡◌, ◌≤◌, length, take}
use Rattle.recording_files.specs.Handed.{ConsumesGiven, known_of}
use Rattle.recording_files.proofs.joined.JoinedSourceTapSource.read.Given as goal

abbrev pub invariant-loop : goal.invariant-loop
invariant-loop g l = record {
  within : l.done ≤ length l.buf;
  same : l.self.failures ≡ l.initial.self.failures;
  given : ConsumesGiven (known_of g.F.TapSource.remaining g.F.TapSource.told g.P.FileSupply.files l.initial.self) (known_of g.F.TapSource.remaining g.F.TapSource.told g.P.FileSupply.files l.self) (take l.done l.buf);
}
