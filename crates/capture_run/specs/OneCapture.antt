-- A capture, what a whole run leaves, and why it was aborted (this project's profile). The bytes of a capture in each format are those of
-- packet_format; a packet has no comment here.
use Rattle.std.specs.Prelude.{◌≡◌, ◌⊎◌, ℕ, ◌<◌, min, List, [], ◌∷◌, ◌++◌, length, take, Option, None, Err, IfSome, ◌==◌, if◌then◌else◌}
use Rattle.std.specs.Io.KnownBytes.{Appends}
use Rattle.afdx_frame.specs.Frame.{Frame}
use Rattle.afdx_frame.specs.declared.key.Network.TheVariants as networks
use Rattle.bpf_isa.specs.declared.packed.Packed.{Packed}
use Rattle.filter_workers.specs.Filters.{answer_for}
use Rattle.packet_format.specs.Packets.{Format, Pcap, Pcapng, head_by, packet_by}
use Rattle.pcap_io.specs.Device.{AppendsPrefix, CountsFailure, TakesAtMost, TakesFewer}
use Rattle.pcap_io.specs.Layout.{header_of}
use Rattle.pcap_io.specs.Position.{TakesAPacket, EndLeaves, LacksBytes, LacksMemory, Opens}
use Rattle.pcap_io.specs.declared.layout.HeaderFault.{HeaderFault}
use Rattle.pcap_io.specs.declared.layout.Layout.{Layout}
use Rattle.pcap_io.specs.declared.layout.TheConstants.{FILE_HEADER_LEN}
use Rattle.pcap_io.specs.declared.position.Position.{Position}
use Rattle.pcap_io.specs.declared.recording.Ending.{Ending}
use Rattle.run_fault.specs.declared.fault.Output.TheVariants as output
use Rattle.run_fault.specs.declared.fault.WatchFault.{WatchFault}
use Rattle.run_fault.specs.declared.fault.WatchFault.TheVariants as watch
use Rattle.run_fault.specs.Recording.{HasReadTap, IsRecording, LeavesUnread}
use Rattle.run_fault.specs.Device.{Devices}

-- how many bytes are kept of an accepted frame
abbrev pub kept_len : List Packed → Frame → ℕ
kept_len p f = min (answer_for p f) (length f.bytes)

-- the packet of a frame in a capture; a rejected frame has none
abbrev pub packet_of : Format → List Packed → Frame → List ℕ
packet_of format p f = if answer_for p f == 0 then [] else packet_by format f (kept_len p f) None

-- the packets of the accepted frames, in order
abbrev pub packets_of : Format → List Packed → List Frame → List ℕ
packets_of format p [] = []
packets_of format p (f ∷ fs) = packet_of format p f ++ packets_of format p fs

-- the whole capture of frames
abbrev pub capture_by : Format → List Packed → List Frame → List ℕ
capture_by format p frames = head_by format ++ packets_of format p frames

-- that in the format of pcap
abbrev pub capture_text : List Packed → List Frame → List ℕ
capture_text p frames = capture_by Pcap p frames

-- the frames that the filter accepts
abbrev pub accepted : List Packed → List Frame → List Frame
accepted p [] = []
accepted p (f ∷ fs) = if answer_for p f == 0 then accepted p fs else f ∷ accepted p fs

-- ---- all that a run saw of its devices

-- neither device failed
pub record NoFailures (before after : Devices) : Type 0 where
  pub source : after.source.failures ≡ before.source.failures
  pub sink : after.sink.failures ≡ before.sink.failures

-- ---- a whole capture

-- The recording, in which a timestamp may lie `late` nanoseconds below the greatest before it, was read to its ending, and the sink has the
-- capture of its frames. Of the source nothing is left after a clean or a
-- truncated recording. After a bad one no more is gone than the header of the packet that ends it, and what was read ahead.
pub record IsCapturedBy (format : Format) (late : ℕ) (p : List Packed) (ending : Ending) (before after : Devices) : Type 0 where
  pub frames : List Frame
  pub position : Position
  pub left : Option (List ℕ)
  pub rest : Option (List ℕ)
  pub read : HasReadTap networks.A late before.source.told before.source.remaining frames position left
  pub complete : IfSome before.source.remaining (λ bytes. IsRecording networks.A late before.source.told bytes frames ending)
  pub taken : EndLeaves left rest ending
  pub gone : TakesAPacket left rest
  pub ahead : List ℕ
  pub unread : LeavesUnread ahead rest after.source.remaining
  pub written : Appends before.sink.contents after.sink.contents (capture_by format p frames)
  pub no_failure : NoFailures before after

-- ---- an aborted capture

-- The bytes begin with no file header of this project, and this is the first reason. No more than a file header is gone, and
-- nothing was written.
pub record IsHeaderFault (fault : HeaderFault) (before after : Devices) : Type 0 where
  pub found : IfSome before.source.remaining (λ bytes. header_of before.source.told bytes ≡ Err fault)
  pub taken : TakesAtMost FILE_HEADER_LEN before.source.remaining after.source.remaining
  pub unwritten : after.sink.contents ≡ before.sink.contents
  pub no_failure : NoFailures before after

-- The source failed before it gave a whole file header, and nothing was written.
pub record FailsToOpen (before after : Devices) : Type 0 where
  pub taken : TakesFewer FILE_HEADER_LEN before.source.remaining after.source.remaining
  pub unwritten : after.sink.contents ≡ before.sink.contents
  pub source : CountsFailure before.source.failures after.source.failures
  pub sink : after.sink.failures ≡ before.sink.failures

-- The source failed after these frames, of which the sink has the whole capture, and before it gave the next packet whole.
pub record FailsToRead (format : Format) (late : ℕ) (p : List Packed) (before after : Devices) : Type 0 where
  pub frames : List Frame
  pub position : Position
  pub left : Option (List ℕ)
  pub rest : Option (List ℕ)
  pub read : HasReadTap networks.A late before.source.told before.source.remaining frames position left
  pub ahead : List ℕ
  pub unread : LeavesUnread ahead rest after.source.remaining
  pub lacks : LacksBytes position left rest ahead
  pub written : Appends before.sink.contents after.sink.contents (capture_by format p frames)
  pub source : CountsFailure before.source.failures after.source.failures
  pub sink : after.sink.failures ≡ before.sink.failures

-- There was no memory for the packet after these frames. Its header is good, claims at least 1 byte and is gone, and fewer bytes than it
-- claims were read ahead. The sink has the whole capture of the frames.
pub record FailsToAllocate (format : Format) (late : ℕ) (p : List Packed) (before after : Devices) : Type 0 where
  pub frames : List Frame
  pub position : Position
  pub left : Option (List ℕ)
  pub rest : Option (List ℕ)
  pub read : HasReadTap networks.A late before.source.told before.source.remaining frames position left
  pub ahead : List ℕ
  pub unread : LeavesUnread ahead rest after.source.remaining
  pub lacks : LacksBytes position left rest ahead
  pub out_of_memory : LacksMemory position left rest
  pub written : Appends before.sink.contents after.sink.contents (capture_by format p frames)
  pub no_failure : NoFailures before after

-- The sink failed at what a capture begins with, of which it has a prefix. No frame was read.
pub record FailsToBegin (format : Format) (before after : Devices) : Type 0 where
  pub layout : Layout
  pub opened : Option (List ℕ)
  pub opens : Opens before.source.told before.source.remaining opened layout
  pub unread : opened ≡ after.source.remaining
  pub written : AppendsPrefix before.sink.contents after.sink.contents (head_by format)
  pub source : after.source.failures ≡ before.source.failures
  pub sink : CountsFailure before.sink.failures after.sink.failures

-- The sink failed at the packet of an accepted frame, the last that was read. It has the whole capture of the frames before that, and a
-- prefix of the packet.
pub record FailsToWrite (format : Format) (late : ℕ) (p : List Packed) (before after : Devices) : Type 0 where
  pub frames : List Frame
  pub frame : Frame
  pub position : Position
  pub left : Option (List ℕ)
  pub count : ℕ
  pub read : HasReadTap networks.A late before.source.told before.source.remaining (frames ++ frame ∷ []) position left
  pub ahead : List ℕ
  pub unread : LeavesUnread ahead left after.source.remaining
  pub within : count < length (packet_of format p frame)
  pub written : Appends before.sink.contents after.sink.contents (capture_by format p frames ++ take count (packet_of format p frame))
  pub source : after.source.failures ≡ before.source.failures
  pub sink : CountsFailure before.sink.failures after.sink.failures

-- There was no memory for the packet of an accepted frame, the last that was read. The sink has the whole capture of the frames before that.
pub record FailsToMake (format : Format) (late : ℕ) (p : List Packed) (before after : Devices) : Type 0 where
  pub frames : List Frame
  pub frame : Frame
  pub position : Position
  pub left : Option (List ℕ)
  pub read : HasReadTap networks.A late before.source.told before.source.remaining (frames ++ frame ∷ []) position left
  pub ahead : List ℕ
  pub unread : LeavesUnread ahead left after.source.remaining
  pub accepted : 0 < answer_for p frame
  pub written : Appends before.sink.contents after.sink.contents (capture_by format p frames)
  pub no_failure : NoFailures before after

-- There was no memory. What is written of a pcap file needs none, so it was for a packet that is read. In a pcapng file it may be for what the
-- file begins with too, and then nothing was read or written, or for the packet of an accepted frame.
abbrev pub RunsOutOfMemory : Format → ℕ → List Packed → Devices → Devices → Type 0
RunsOutOfMemory Pcap late p before after = FailsToAllocate Pcap late p before after
RunsOutOfMemory (Pcapng interfaces names) late p before after =
    FailsToAllocate (Pcapng interfaces names) late p before after
    ⊎ ((after ≡ before) ⊎ FailsToMake (Pcapng interfaces names) late p before after)

-- why a capture was aborted, and what stands then
abbrev pub IsAbortedBy : Format → ℕ → List Packed → WatchFault → Devices → Devices → Type 0
IsAbortedBy format late p (watch.Header networks.A fault) before after = IsHeaderFault fault before after
IsAbortedBy format late p (watch.Read networks.A) before after = FailsToOpen before after ⊎ FailsToRead format late p before after
IsAbortedBy format late p (watch.Write output.Capture) before after = FailsToBegin format before after ⊎ FailsToWrite format late p before after
IsAbortedBy format late p watch.Memory before after = RunsOutOfMemory format late p before after
IsAbortedBy format late p _ before after = ⊥
