-- The frames so far were given, and the reader goes on.
use Rattle.std.proofs.Common.{◌≡◌, ◌-◌}
use Rattle.pcap_io.specs.Reader.{position_of, reading_of, remaining_of, source_of}
use Rattle.pcap_io.specs.declared.recording.Stage.TheVariants.{Going}
use Rattle.pcap_io.specs.Told.{StaysTold}
use Rattle.filter_run.specs.WholeTap.{Gives}
use Rattle.filter_run.proofs.tap.read_frames.Given as goal

abbrev pub invariant-loop-frame : goal.invariant-loop-frame
invariant-loop-frame g l = record {
  gives : Gives (reading_of g.S.TapSource.remaining g.S.TapSource.failures g.S.TapSource.told l.fn.reader) l.frames.items (position_of l.reader) (remaining_of g.S.TapSource.remaining l.reader);
  tells : StaysTold (remaining_of g.S.TapSource.remaining l.fn.reader) (g.S.TapSource.told (source_of l.fn.reader)) (g.S.TapSource.told (source_of l.reader));
  going : (position_of l.reader).stage ≡ Going;
  no_failure : g.S.TapSource.failures (source_of l.reader) ≡ g.S.TapSource.failures (source_of l.fn.reader);
}

abbrev pub decreases-loop-frame : goal.decreases-loop-frame
decreases-loop-frame g l = (position_of l.reader).most - (position_of l.reader).count
