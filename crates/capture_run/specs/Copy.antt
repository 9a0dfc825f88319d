-- A copy of the packets after a recording's file header (this project's profile): what it read, what it wrote, and why it stopped.
use Rattle.std.specs.Prelude.{◌≡◌, ◌⊎◌, ℕ, ◌≤◌, ◌<◌, List, [], ◌∷◌, ◌++◌, length, take, Option, Some, Result, Ok, Err, IfSome}
use Rattle.std.specs.Io.KnownBytes.{Appends}
use Rattle.afdx_frame.specs.Frame.{Frame}
use Rattle.afdx_frame.specs.declared.key.Network.TheVariants as networks
use Rattle.bpf_isa.specs.declared.packed.Packed.{Packed}
use Rattle.filter_workers.specs.Filters.{answer_for}
use Rattle.packet_format.specs.Packets.{Format}
use Rattle.packet_format.specs.Writer.{IsPcapng}
use Rattle.pcap_io.specs.Device.{AppendsPrefix, CountsFailure}
use Rattle.pcap_io.specs.Position.{TakesAPacket, EndLeaves, LacksBytes, LacksMemory, Reading, Reads, ending_here}
use Rattle.pcap_io.specs.declared.position.Position.{Position}
use Rattle.pcap_io.specs.declared.recording.Ending.{Ending}
use Rattle.pcap_io.specs.Told.{StaysTold}
use Rattle.pcap_io.specs.declared.told.Told.{Told}
use Rattle.capture_run.specs.OneCapture.{packet_of, packets_of}
use Rattle.run_fault.specs.declared.fault.Output.TheVariants as output
use Rattle.run_fault.specs.declared.fault.WatchFault.{WatchFault}
use Rattle.run_fault.specs.declared.fault.WatchFault.TheVariants as watch

-- A call that writes a frame's packet leaves the sink so. Memory is missing only for the packet of an accepted frame.
abbrev pub WritesAccepted : Format → List Packed → Frame → Result (Unit {0}) WatchFault → Option (List ℕ) → Option (List ℕ) → ℕ → ℕ → Type 0
WritesAccepted format p f (Ok done) old new before after = Appends old new (packet_of format p f) × (after ≡ before)
WritesAccepted format p f (Err (watch.Write output.Capture)) old new before after = AppendsPrefix old new (packet_of format p f) × CountsFailure before after
WritesAccepted format p f (Err watch.Memory) old new before after = IsPcapng format × (0 < answer_for p f) × (new ≡ old) × (after ≡ before)
WritesAccepted format p f (Err fault) old new before after = ⊥

-- the view of a copy's reader and writer
pub record Copying : Type 0 where
  pub reading : Reading
  -- all that the reader read ahead of its position
  pub unread : List ℕ
  pub contents : Option (List ℕ)
  pub failures : ℕ

abbrev pub copying_of : Reading → List ℕ → Option (List ℕ) → ℕ → Copying
copying_of reading unread contents failures = record { reading = reading; unread = unread; contents = contents; failures = failures }

-- The reader gave these frames, and stood at the position with `left` after them. The packets of the accepted ones were written.
pub record HasCopied (format : Format) (p : List Packed) (frames : List Frame) (position : Position) (left : Option (List ℕ)) (old new : Copying) : Type 0 where
  pub reads : Reads old.reading.position old.reading.remaining frames position left
  pub written : Appends old.contents new.contents (packets_of format p frames)

-- all was copied up to the ending, which is with what the source tells
pub record IsCopied (format : Format) (p : List Packed) (ending : Ending) (old new : Copying) : Type 0 where
  pub frames : List Frame
  pub position : Position
  pub left : Option (List ℕ)
  pub copied : HasCopied format p frames position left old new
  pub bounded : position.count ≤ position.most
  pub told : Told
  pub tells : StaysTold old.reading.remaining old.reading.told told
  pub ends : IfSome left (λ bytes. ending_here position told bytes ≡ Some ending)
  pub taken : EndLeaves left new.reading.remaining ending
  pub gone : TakesAPacket left new.reading.remaining
  pub source : new.reading.failures ≡ old.reading.failures
  pub sink : new.failures ≡ old.failures

-- the source failed after these frames, and before it gave the next packet whole
pub record StopsAtRead (format : Format) (p : List Packed) (old new : Copying) : Type 0 where
  pub frames : List Frame
  pub position : Position
  pub left : Option (List ℕ)
  pub copied : HasCopied format p frames position left old new
  pub lacks : LacksBytes position left new.reading.remaining new.unread
  pub source : CountsFailure old.reading.failures new.reading.failures
  pub sink : new.failures ≡ old.failures

-- there was no memory for the packet after these frames
pub record StopsAtMemory (format : Format) (p : List Packed) (old new : Copying) : Type 0 where
  pub frames : List Frame
  pub position : Position
  pub left : Option (List ℕ)
  pub copied : HasCopied format p frames position left old new
  pub lacks : LacksBytes position left new.reading.remaining new.unread
  pub out_of_memory : LacksMemory position left new.reading.remaining
  pub source : new.reading.failures ≡ old.reading.failures
  pub sink : new.failures ≡ old.failures

-- the sink failed at the packet of the last frame, of which it has a prefix
pub record StopsAtWrite (format : Format) (p : List Packed) (old new : Copying) : Type 0 where
  pub frames : List Frame
  pub frame : Frame
  pub position : Position
  pub count : ℕ
  pub reads : Reads old.reading.position old.reading.remaining (frames ++ frame ∷ []) position new.reading.remaining
  pub within : count < length (packet_of format p frame)
  pub written : Appends old.contents new.contents (packets_of format p frames ++ take count (packet_of format p frame))
  pub source : new.reading.failures ≡ old.reading.failures
  pub sink : CountsFailure old.failures new.failures

-- there was no memory for the packet of the last frame, which is accepted
pub record StopsAtPacket (format : Format) (p : List Packed) (old new : Copying) : Type 0 where
  pub frames : List Frame
  pub frame : Frame
  pub position : Position
  pub reads : Reads old.reading.position old.reading.remaining (frames ++ frame ∷ []) position new.reading.remaining
  pub pcapng : IsPcapng format
  pub accepted : 0 < answer_for p frame
  pub written : Appends old.contents new.contents (packets_of format p frames)
  pub source : new.reading.failures ≡ old.reading.failures
  pub sink : new.failures ≡ old.failures

-- why a copy stopped
abbrev pub StopsCopy : Format → List Packed → WatchFault → Copying → Copying → Type 0
StopsCopy format p (watch.Read networks.A) old new = StopsAtRead format p old new
StopsCopy format p (watch.Write output.Capture) old new = StopsAtWrite format p old new
StopsCopy format p watch.Memory old new = StopsAtMemory format p old new ⊎ StopsAtPacket format p old new
StopsCopy format p _ old new = ⊥
