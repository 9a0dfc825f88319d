-- A writer of captures, as contracts see it.
use Rattle.std.specs.Prelude.{Bool, Result, Ok, Err}
use Rattle.pcap_io.specs.declared.writer.CaptureWriter.{CaptureWriter}

-- the sink that it writes to
abbrev pub sink_of : {W : Type 0} → CaptureWriter W → W
sink_of writer = writer.sink

-- its device has failed
abbrev pub has_failed : {W : Type 0} → CaptureWriter W → Bool
has_failed writer = writer.failed

-- the sink that it wrote to, whether it stands or gave that back
abbrev pub sink_after : {W : Type 0} → Result (CaptureWriter W) W → W
sink_after (Ok writer) = sink_of writer
sink_after (Err sink) = sink
