-- From what a copy did between opening and giving the devices back to what the whole call leaves.
use Rattle.std.proofs.Common.{◌≡◌, ◌∙◌, ℕ, ◌^◌, List, [], ◌∷◌, ◌++◌, Option, take, arith, subst, sym, inl, inr, ◌⊎◌}
use Rattle.std.specs.Io.KnownBytes.{Appends}
use Rattle.afdx_frame.specs.Frame.{Frame}
use Rattle.afdx_frame.specs.declared.key.Network.TheVariants as networks
use Rattle.bpf_isa.specs.declared.packed.Packed.{Packed}
use Rattle.packet_format.specs.Packets.{Format, Pcap, Pcapng, head_by}
use Rattle.pcap_io.specs.Device.{CountsFailure}
use Rattle.pcap_io.specs.Position.{Opens, Reads, start_at}
use Rattle.pcap_io.specs.declared.position.Position.{Position}
use Rattle.pcap_io.specs.declared.recording.Ending.{Ending}
use Rattle.run_fault.specs.Recording.{HasReadTap, LeavesUnread, most_frames}
use Rattle.run_fault.specs.Device.{Devices}
use Rattle.capture_run.specs.OneCapture.{FailsToAllocate, FailsToMake, IsAbortedBy, IsCapturedBy, capture_by, packet_of}
use Rattle.capture_run.specs.Copy.{Copying, IsCopied, StopsAtMemory, StopsAtPacket, StopsCopy}
use Rattle.run_fault.specs.declared.fault.Output.TheVariants as output
use Rattle.run_fault.specs.declared.fault.WatchFault.{WatchFault}
use Rattle.run_fault.specs.declared.fault.WatchFault.TheVariants as watch
use Rattle.capture_run.proofs.Copying.{written_after, written_within}
use Rattle.pcap_io.specs.Told.{StaysTold}
use Rattle.run_fault.proofs.Recording.{complete, read_within, tells_opened}

-- Between `old` and `new` a copy was made: before it the reader was opened and what a capture begins with was written, and after it both
-- devices were given back.
pub record Brackets (format : Format) (late : ℕ) (before after : Devices) (old new : Copying) : Type 0 where
  pub start : old.reading.position ≡ start_at networks.A old.reading.position.layout (2 ^ 32) late
  pub opens : Opens before.source.told before.source.remaining old.reading.remaining old.reading.position.layout
  pub tells : StaysTold before.source.remaining before.source.told old.reading.told
  pub header : Appends before.sink.contents old.contents (head_by format)
  pub source_before : old.reading.failures ≡ before.source.failures
  pub sink_before : old.failures ≡ before.sink.failures
  pub unread : LeavesUnread new.unread new.reading.remaining after.source.remaining
  pub contents : after.sink.contents ≡ new.contents
  pub source_after : after.source.failures ≡ new.reading.failures
  pub sink_after : after.sink.failures ≡ new.failures

has_read : (format : Format) (late : ℕ) (before after : Devices) (old new : Copying) (frames : List Frame) (position : Position) (left : Option (List ℕ)) → Brackets format late before after old new
    → Reads old.reading.position old.reading.remaining frames position left → HasReadTap networks.A late before.source.told before.source.remaining frames position left
has_read format late before after old new frames position left b reads = record {
  layout = old.reading.position.layout;
  opened = old.reading.remaining;
  opens = b.opens;
  reads = subst (λ (x : Position). Reads x old.reading.remaining frames position left) b.start reads;
  bounded = read_within (start_at networks.A old.reading.position.layout most_frames late) position old.reading.remaining left frames
      (subst (λ (x : Position). Reads x old.reading.remaining frames position left) b.start reads) (omega arith);
}

captured : (format : Format) (late : ℕ) (p : List Packed) (ending : Ending) (before after : Devices) (old new : Copying) → Brackets format late before after old new
    → IsCopied format p ending old new → IsCapturedBy format late p ending before after
captured format late p ending before after old new b c =
    let read = has_read format late before after old new c.frames c.position c.left b c.copied.reads in
    record {
      frames = c.frames;
      position = c.position;
      left = c.left;
      rest = new.reading.remaining;
      read = read;
      complete = complete networks.A late before.source.told c.told before.source.remaining read.opened c.left read.layout c.frames c.position ending read.opens read.reads
          (tells_opened old.reading.position before.source.told old.reading.told c.told before.source.remaining old.reading.remaining old.reading.position.layout b.opens b.tells c.tells) c.ends;
      taken = c.taken;
      gone = c.gone;
      ahead = new.unread;
      unread = b.unread;
      written = subst (λ (x : Option (List ℕ)). Appends before.sink.contents x (capture_by format p c.frames)) (sym b.contents)
          (written_after format p before.sink.contents old.contents new.contents c.frames b.header c.copied.written);
      no_failure = record { source = b.source_after ∙ c.source ∙ b.source_before; sink = b.sink_after ∙ c.sink ∙ b.sink_before };
    }

-- the copy's writer has the format of the run
pub captured_in : (was format : Format) (late : ℕ) (p : List Packed) (ending : Ending) (before after : Devices) (old new : Copying) → was ≡ format
    → Brackets format late before after old new → IsCopied was p ending old new → IsCapturedBy format late p ending before after
captured_in was format late p ending before after old new same b c =
    captured format late p ending before after old new b (subst (λ (x : Format). IsCopied x p ending old new) same c)

-- a failure counted between
counted : (a b c d : ℕ) → b ≡ a → d ≡ c → CountsFailure b c → CountsFailure a d
counted a b c d before after h = after ∙ subst (λ (x : ℕ). CountsFailure x c) before h

-- there was no memory for a packet of the recording
allocates : (format : Format) (late : ℕ) (p : List Packed) (before after : Devices) (old new : Copying) → Brackets format late before after old new
    → StopsAtMemory format p old new → FailsToAllocate format late p before after
allocates format late p before after old new b h = record {
  frames = h.frames;
  position = h.position;
  left = h.left;
  rest = new.reading.remaining;
  read = has_read format late before after old new h.frames h.position h.left b h.copied.reads;
  ahead = new.unread;
  unread = b.unread;
  lacks = h.lacks;
  out_of_memory = h.out_of_memory;
  written = subst (λ (x : Option (List ℕ)). Appends before.sink.contents x (capture_by format p h.frames)) (sym b.contents)
      (written_after format p before.sink.contents old.contents new.contents h.frames b.header h.copied.written);
  no_failure = record { source = b.source_after ∙ h.source ∙ b.source_before; sink = b.sink_after ∙ h.sink ∙ b.sink_before };
}

-- or for one of the capture
makes : (format : Format) (late : ℕ) (p : List Packed) (before after : Devices) (old new : Copying) → Brackets format late before after old new
    → StopsAtPacket format p old new → FailsToMake format late p before after
makes format late p before after old new b h = record {
  frames = h.frames;
  frame = h.frame;
  position = h.position;
  left = new.reading.remaining;
  read = has_read format late before after old new (h.frames ++ h.frame ∷ []) h.position new.reading.remaining b h.reads;
  ahead = new.unread;
  unread = b.unread;
  accepted = h.accepted;
  written = subst (λ (x : Option (List ℕ)). Appends before.sink.contents x (capture_by format p h.frames)) (sym b.contents)
      (written_after format p before.sink.contents old.contents new.contents h.frames b.header h.written);
  no_failure = record { source = b.source_after ∙ h.source ∙ b.source_before; sink = b.sink_after ∙ h.sink ∙ b.sink_before };
}

lacks_memory : (format : Format) (late : ℕ) (p : List Packed) (before after : Devices) (old new : Copying) → Brackets format late before after old new
    → StopsAtMemory format p old new ⊎ StopsAtPacket format p old new → IsAbortedBy format late p watch.Memory before after
lacks_memory Pcap late p before after old new b (inl h) = allocates Pcap late p before after old new b h
lacks_memory Pcap late p before after old new b (inr h) = absurd h.pcapng
lacks_memory (Pcapng interfaces names) late p before after old new b (inl h) = inl (allocates (Pcapng interfaces names) late p before after old new b h)
lacks_memory (Pcapng interfaces names) late p before after old new b (inr h) = inr (inr (makes (Pcapng interfaces names) late p before after old new b h))

aborted : (format : Format) (late : ℕ) (p : List Packed) (fault : WatchFault) (before after : Devices) (old new : Copying) → Brackets format late before after old new
    → StopsCopy format p fault old new → IsAbortedBy format late p fault before after
aborted format late p watch.Workers before after old new b h = absurd h
aborted format late p (watch.Header network fault) before after old new b h = absurd h
aborted format late p (watch.Read networks.A) before after old new b h = inr (record {
  frames = h.frames;
  position = h.position;
  left = h.left;
  rest = new.reading.remaining;
  read = has_read format late before after old new h.frames h.position h.left b h.copied.reads;
  ahead = new.unread;
  unread = b.unread;
  lacks = h.lacks;
  written = subst (λ (x : Option (List ℕ)). Appends before.sink.contents x (capture_by format p h.frames)) (sym b.contents)
      (written_after format p before.sink.contents old.contents new.contents h.frames b.header h.copied.written);
  source = counted _ _ _ _ b.source_before b.source_after h.source;
  sink = b.sink_after ∙ h.sink ∙ b.sink_before;
})
aborted format late p (watch.Read networks.B) before after old new b h = absurd h
aborted format late p (watch.Write output.Capture) before after old new b h = inr (record {
  frames = h.frames;
  frame = h.frame;
  position = h.position;
  left = new.reading.remaining;
  count = h.count;
  within = h.within;
  read = has_read format late before after old new (h.frames ++ h.frame ∷ []) h.position new.reading.remaining b h.reads;
  ahead = new.unread;
  unread = b.unread;
  written = subst (λ (x : Option (List ℕ)). Appends before.sink.contents x (capture_by format p h.frames ++ take h.count (packet_of format p h.frame))) (sym b.contents)
      (written_within format p before.sink.contents old.contents new.contents h.frames (take h.count (packet_of format p h.frame)) b.header h.written);
  source = b.source_after ∙ h.source ∙ b.source_before;
  sink = counted _ _ _ _ b.sink_before b.sink_after h.sink;
})
aborted format late p (watch.Write output.Ledger) before after old new b h = absurd h
aborted format late p watch.Spawn before after old new b h = absurd h
aborted format late p watch.RingLost before after old new b h = absurd h
aborted format late p watch.Memory before after old new b h = lacks_memory format late p before after old new b h
aborted format late p watch.Filters before after old new b h = absurd h

pub aborted_in : (was format : Format) (late : ℕ) (p : List Packed) (fault : WatchFault) (before after : Devices) (old new : Copying) → was ≡ format
    → Brackets format late before after old new → StopsCopy was p fault old new → IsAbortedBy format late p fault before after
aborted_in was format late p fault before after old new same b h =
    aborted format late p fault before after old new b (subst (λ (x : Format). StopsCopy x p fault old new) same h)
