-- The frames that were counted stand in the batch, and the reader gave those that were added.
use Rattle.std.proofs.Common.{◌≡◌, ◌-◌, ◌<◌, ◌≤◌, length, max}
use Rattle.pcap_io.specs.Batches.{AddsFrames}
use Rattle.pcap_io.specs.Reader.{block_of, position_of, reading_of}
use Rattle.pcap_io.specs.declared.recording.Stage.TheVariants.{Going}
use Rattle.pcap_io.proofs.reader.TapReader.add_all_held.Given as goal

abbrev pub invariant-loop-count : goal.invariant-loop-count
invariant-loop-count g l = record {
  going : (position_of l.self).stage ≡ Going;
  block : l.batch.block ≡ block_of l.self;
  adds : AddsFrames (reading_of g.S.TapSource.remaining g.S.TapSource.failures g.S.TapSource.told l.fn.self) (reading_of g.S.TapSource.remaining g.S.TapSource.failures g.S.TapSource.told l.self)
      l.fn.batch l.batch;
  counted : length l.batch.left ≡ l.count;
  some : 0 < l.count;
  few : l.count ≤ max l.most 1;
}

abbrev pub decreases-loop-count : goal.decreases-loop-count
decreases-loop-count g l = l.most - l.count
