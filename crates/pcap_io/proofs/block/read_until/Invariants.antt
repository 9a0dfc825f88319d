-- The bytes that stand before the place of the next read, and what the source has left, are together as they were.
use Rattle.std.proofs.Common.{◌≡◌, ◌-◌, ◌≤◌, length, take}
use Rattle.std.specs.Io.KnownBytes.{Keeps, prepend_known}
use Rattle.pcap_io.specs.Told.{StaysTold}
use Rattle.pcap_io.proofs.block.read_until.Given as goal

abbrev pub invariant-loop-end : goal.invariant-loop-end
invariant-loop-end g l = record {
  within : l.end ≤ length l.bytes;
  kept : Keeps (prepend_known (take l.initial.end l.initial.bytes) (g.S.TapSource.remaining l.initial.source))
      (prepend_known (take l.end l.bytes) (g.S.TapSource.remaining l.source));
  same : g.S.TapSource.failures l.source ≡ g.S.TapSource.failures l.initial.source;
  told : StaysTold (g.S.TapSource.remaining l.initial.source) (g.S.TapSource.told l.initial.source) (g.S.TapSource.told l.source);
}

abbrev pub decreases-loop-end : goal.decreases-loop-end
decreases-loop-end g l = l.len - l.end
