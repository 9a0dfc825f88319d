-- How far a recording was read, and what is left of its source (the file is pcap savefile 2.4; the bounds are this project's profile).
use Rattle.std.specs.Prelude.{◌≡◌, ℕ, ◌+◌, ◌^◌, ◌≤◌, List, length, drop, Option, Some, Ok, Err, IfSome}
use Rattle.std.specs.Io.KnownBytes.{prepend_known}
use Rattle.afdx_frame.specs.Frame.{Frame}
use Rattle.afdx_frame.specs.declared.bounds.TheConstants.{MAX_SNAPLEN}
use Rattle.afdx_frame.specs.declared.key.Network.{Network}
use Rattle.pcap_io.specs.Device.{TakesAtMost, TakesFewer}
use Rattle.pcap_io.specs.Layout.{header_of}
use Rattle.pcap_io.specs.Position.{TakesAPacket, EndLeaves, Holds, Opens, Reads, ending_here, start_at}
use Rattle.pcap_io.specs.declared.layout.HeaderFault.{HeaderFault}
use Rattle.pcap_io.specs.declared.layout.Layout.{Layout}
use Rattle.pcap_io.specs.declared.layout.TheConstants.{FILE_HEADER_LEN}
use Rattle.pcap_io.specs.declared.position.Position.{Position}
use Rattle.pcap_io.specs.declared.recording.Ending.{Ending}
use Rattle.pcap_io.specs.declared.told.Told.{Told}
use Rattle.run_fault.specs.Device.{SourceView}

-- of these bytes the source still gives all but those that were read ahead, at most a block of them
abbrev pub LeavesUnread : List ℕ → Option (List ℕ) → Option (List ℕ) → Type 0
LeavesUnread unread left remaining = (length unread ≤ MAX_SNAPLEN) × (left ≡ prepend_known unread remaining)

-- The recording's parse: the bytes are a file header, these frames and, with what the source tells, this ending. Every list of bytes
-- with a good header has just one parse. 2^32 frames are read at the most.
pub record IsRecording (network : Network) (late : ℕ) (told : Told) (bytes : List ℕ) (frames : List Frame) (ending : Ending) : Type 0 where
  pub layout : Layout
  pub header : header_of told bytes ≡ Ok layout
  pub holds : Holds (start_at network layout (2 ^ 32) late) told (drop FILE_HEADER_LEN bytes) frames ending

-- the recording ends here: with this ending, which leaves no more gone than stated
pub record Ends (q : Position) (told : Told) (before after : Option (List ℕ)) (ending : Ending) : Type 0 where
  pub here : IfSome before (λ bytes. ending_here q told bytes ≡ Some ending)
  pub left : EndLeaves before after ending
  pub gone : TakesAPacket before after

-- 2^32 frames are read at the most
abbrev pub most_frames : ℕ
most_frames = 2 ^ 32

-- The bytes are a file header and then the packets of these frames, read as those of the network from number 0 on. A reader stands
-- at `position` after them, and `left` follows.
pub record HasReadTap (network : Network) (late : ℕ) (told : Told) (bytes : Option (List ℕ)) (frames : List Frame) (position : Position) (left : Option (List ℕ)) : Type 0 where
  pub layout : Layout
  pub opened : Option (List ℕ)
  pub opens : Opens told bytes opened layout
  pub reads : Reads (start_at network layout most_frames late) opened frames position left
  pub bounded : position.count ≤ most_frames

-- These frames were read. No more is gone than a packet after them, and what was read ahead.
pub record IsReadPart (network : Network) (late : ℕ) (before after : SourceView) (frames : List Frame) : Type 0 where
  pub position : Position
  pub left : Option (List ℕ)
  pub rest : Option (List ℕ)
  pub ahead : List ℕ
  pub read : HasReadTap network late before.told before.remaining frames position left
  pub gone : TakesAPacket left rest
  pub unread : LeavesUnread ahead rest after.remaining

-- The recording was read to its ending: these are all its frames. Of the source nothing is left after a clean or a truncated
-- recording; after a bad one no more is gone than the header of the packet that ends it, and what was read ahead.
pub record IsReadWhole (network : Network) (late : ℕ) (before after : SourceView) (frames : List Frame) (ending : Ending) : Type 0 where
  pub part : IsReadPart network late before after frames
  pub complete : IfSome before.remaining (λ bytes. IsRecording network late before.told bytes frames ending)
  pub taken : EndLeaves part.left part.rest ending
  pub no_failure : after.failures ≡ before.failures

-- ---- a recording that is not opened

-- the bytes begin with no file header of this project, and this is the first reason; no more than a file header is gone
abbrev pub HasHeaderFault : HeaderFault → SourceView → SourceView → Type 0
HasHeaderFault f before after =
    IfSome before.remaining (λ bytes. header_of before.told bytes ≡ Err f) × TakesAtMost FILE_HEADER_LEN before.remaining after.remaining

-- the source failed before it gave a whole file header
abbrev pub FailsAtHeader : SourceView → SourceView → Type 0
FailsAtHeader before after = TakesFewer FILE_HEADER_LEN before.remaining after.remaining

-- the file header was read, and no more
abbrev pub WasOpened : SourceView → SourceView → Type 0
WasOpened before after = (layout : Layout) × Opens before.told before.remaining after.remaining layout
