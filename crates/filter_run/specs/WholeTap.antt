-- A recording that is read whole into memory, as network A.
use Rattle.std.specs.Prelude.{◌≡◌, ◌⊎◌, ℕ, ◌≤◌, List, Option}
use Rattle.afdx_frame.specs.Frame.{Frame}
use Rattle.afdx_frame.specs.declared.key.Network.TheVariants as networks
use Rattle.pcap_io.specs.Device.{CountsFailure}
use Rattle.pcap_io.specs.Position.{LacksBytes, LacksMemory, Reading, Reads, TakesFrame}
use Rattle.pcap_io.specs.declared.position.Position.{Position}
use Rattle.pcap_io.specs.declared.recording.Ending.{Ending}
use Rattle.pcap_io.specs.Told.{StaysTold}
use Rattle.pcap_io.specs.declared.told.Told.{Told}
use Rattle.run_fault.specs.Recording.{LeavesUnread}
use Rattle.run_fault.specs.Recording.{Ends}
use Rattle.run_fault.specs.Recording.{FailsAtHeader, HasHeaderFault, HasReadTap, IsReadWhole}
use Rattle.run_fault.specs.Device.{SourceView}
use Rattle.run_fault.specs.declared.fault.WatchFault.{WatchFault}
use Rattle.run_fault.specs.declared.fault.WatchFault.TheVariants as watch

-- ---- the recording

-- the tap was read to this ending, as network A, and these are all its frames; a timestamp may lie `late` nanoseconds below the greatest
-- before it
abbrev pub IsTap : ℕ → SourceView → SourceView → List Frame → Ending → Type 0
IsTap late before after frames ending = IsReadWhole networks.A late before after frames ending

-- The source failed after these frames, and before it gave the next packet whole.
pub record FailsInTap (late : ℕ) (before after : SourceView) : Type 0 where
  pub frames : List Frame
  pub position : Position
  pub left : Option (List ℕ)
  pub rest : Option (List ℕ)
  pub ahead : List ℕ
  pub read : HasReadTap networks.A late before.told before.remaining frames position left
  pub lacks : LacksBytes position left rest ahead
  pub unread : LeavesUnread ahead rest after.remaining

-- There was no memory for the packet after these frames, whose header is gone, or for one more frame, which is gone.
pub record LacksTapMemory (late : ℕ) (before after : SourceView) : Type 0 where
  pub frames : List Frame
  pub position : Position
  pub left : Option (List ℕ)
  pub rest : Option (List ℕ)
  pub ahead : List ℕ
  pub read : HasReadTap networks.A late before.told before.remaining frames position left
  pub lacks : LacksMemory position left rest ⊎ ((f : Frame) × TakesFrame position left rest f)
  pub unread : LeavesUnread ahead rest after.remaining

-- why a tap wasn't read, and what that leaves of its source
abbrev pub IsTapRefusal : ℕ → WatchFault → SourceView → SourceView → Type 0
IsTapRefusal late (watch.Header networks.A f) before after = HasHeaderFault f before after × (after.failures ≡ before.failures)
IsTapRefusal late (watch.Read networks.A) before after =
    (FailsAtHeader before after ⊎ FailsInTap late before after) × CountsFailure before.failures after.failures
IsTapRefusal late watch.Memory before after = LacksTapMemory late before after × (after.failures ≡ before.failures)
IsTapRefusal late fault before after = ⊥

-- ---- its reader

-- A reader gave these frames, and stood at the position with `left` after them.
pub record Gives (old : Reading) (frames : List Frame) (position : Position) (left : Option (List ℕ)) : Type 0 where
  pub reads : Reads old.position old.remaining frames position left
  pub bounded : position.count ≤ position.most
  pub same_most : position.most ≡ old.position.most

-- it gave these frames, and then, with what its source tells there, this ending of the recording
pub record GivesAll (old new : Reading) (frames : List Frame) (ending : Ending) : Type 0 where
  pub position : Position
  pub left : Option (List ℕ)
  pub gives : Gives old frames position left
  pub told : Told
  pub tells : StaysTold old.remaining old.told told
  pub ends : Ends position told left new.remaining ending
  pub no_failure : new.failures ≡ old.failures

-- it gave these frames, and its source failed before the next packet was whole
pub record StopsInPacket (old new : Reading) (ahead : List ℕ) : Type 0 where
  pub frames : List Frame
  pub position : Position
  pub left : Option (List ℕ)
  pub gives : Gives old frames position left
  pub lacks : LacksBytes position left new.remaining ahead

-- it gave these frames, and there was no memory for the next packet, whose header is gone, or for one more frame, which is gone
pub record StopsForMemory (old new : Reading) : Type 0 where
  pub frames : List Frame
  pub position : Position
  pub left : Option (List ℕ)
  pub gives : Gives old frames position left
  pub lacks : LacksMemory position left new.remaining ⊎ ((f : Frame) × TakesFrame position left new.remaining f)

-- why a reader's frames weren't taken
abbrev pub StopsReading : WatchFault → Reading → Reading → List ℕ → Type 0
StopsReading (watch.Read networks.A) old new ahead = StopsInPacket old new ahead × CountsFailure old.failures new.failures
StopsReading watch.Memory old new ahead = StopsForMemory old new × (new.failures ≡ old.failures)
StopsReading fault old new ahead = ⊥
