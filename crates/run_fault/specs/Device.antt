-- A run's devices as it sees them, and what it wrote to them (this project's profile).
use Rattle.std.specs.Prelude.{ℕ, List, take, Option}
use Rattle.std.specs.Io.KnownBytes.{Appends}
use Rattle.pcap_io.specs.declared.told.Told.{Told}
pub use Rattle.pcap_io.specs.declared.device.TapSource.{Ghosts as SourceMembers}
pub use Rattle.pcap_io.specs.declared.device.OutSink.{Ghosts as SinkMembers}

-- a recording's source: the bytes that it still gives, where they are known, its count of failures, and what it tells at the end
pub record SourceView : Type 0 where
  pub remaining : Option (List ℕ)
  pub failures : ℕ
  pub told : Told

-- an output's sink: the bytes that it took, where they are known, and its count of failures
pub record SinkView : Type 0 where
  pub contents : Option (List ℕ)
  pub failures : ℕ

-- the view of a source, and of a sink: each by the ghost members of its trait
abbrev pub source_at : {S : Type 0} → SourceMembers S → S → SourceView
source_at s source = record { remaining = s.remaining source; failures = s.failures source; told = s.told source }

abbrev pub sink_at : {W : Type 0} → SinkMembers W → W → SinkView
sink_at w sink = record { contents = w.contents sink; failures = w.failures sink }

-- the devices of a run that reads one source and writes one sink
pub record Devices : Type 0 where
  pub source : SourceView
  pub sink : SinkView

abbrev pub devices_of : {S W : Type 0} → SourceMembers S → SinkMembers W → S → W → Devices
devices_of s w source sink = record { source = source_at s source; sink = sink_at w sink }

-- known bytes grow by the bytes, or by a prefix of them
abbrev pub AppendsSome : Option (List ℕ) → Option (List ℕ) → List ℕ → Type 0
AppendsSome old new bytes = (n : ℕ) × Appends old new (take n bytes)
