-- The buffer's prefix was given, and the source hasn't failed.
use Rattle.std.proofs.Common.{◌≡◌, ◌≤◌, length, take}
use Rattle.std.specs.Io.KnownBytes.{Consumes}
use Rattle.pcap_io.specs.Told.{StaysTold}
use Rattle.pcapng.specs.Handed.{remaining_of, told_of}
use Rattle.pcapng.proofs.source.RecordingSourceTapSource.read.Given as goal

abbrev pub invariant-loop : goal.invariant-loop
invariant-loop g l = record {
  within : l.done ≤ length l.buf;
  same : l.self.failures ≡ l.initial.self.failures;
  told : StaysTold (remaining_of g.S.TapSource.remaining l.initial.self) (told_of g.S.TapSource.remaining l.initial.self) (told_of g.S.TapSource.remaining l.self);
  given : Consumes (remaining_of g.S.TapSource.remaining l.initial.self) (remaining_of g.S.TapSource.remaining l.self) (take l.done l.buf);
}
