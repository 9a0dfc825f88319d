-- The buffer's prefix is what the source gave.
use Rattle.std.proofs.Common.{length, ◌-◌, ◌≡◌, ◌≤◌, take}
use Rattle.std.specs.Io.KnownBytes.{Consumes}
use Rattle.pcap_io.specs.Told.{StaysTold}
use Rattle.pcap_io.proofs.transfer.fill.Given as goal

abbrev pub invariant-loop-done : goal.invariant-loop-done
invariant-loop-done g l = record {
  within : l.done ≤ length l.buf;
  given : Consumes (g.S.TapSource.remaining l.initial.source) (g.S.TapSource.remaining l.source) (take l.done l.buf);
  same : g.S.TapSource.failures l.source ≡ g.S.TapSource.failures l.initial.source;
  told : StaysTold (g.S.TapSource.remaining l.initial.source) (g.S.TapSource.told l.initial.source) (g.S.TapSource.told l.source);
}

abbrev pub decreases-loop-done : goal.decreases-loop-done
decreases-loop-done g l = length l.initial.buf - l.done
