-- A tap that is read by a thread of its own.
use Rattle.std.specs.Prelude.{◌++◌, ◌≡◌, ℕ, true, false, List, [], None, ⊤}
use Rattle.afdx_frame.specs.declared.key.Network.{Network}
use Rattle.pcap_io.specs.Position.{Reading}
use Rattle.pcap_io.specs.Reader.{reading_of}
use Rattle.pcap_io.specs.declared.reader.TapReader.{TapReader}
use Rattle.pcap_io.specs.declared.recording.Stage.TheVariants.{Going}
use Rattle.tap_queue.specs.Items.{Gives, is_over}
use Rattle.tap_queue.specs.Ring.{has_lost, taken_items}
use Rattle.tap_queue.specs.declared.end.TapEnd.{TapEnd}
use Rattle.tap_queue.specs.declared.item.TapItem.{TapItem}
use Rattle.run_fault.specs.Recording.{LeavesUnread}
use Rattle.tap_merge.specs.Reads.{HasPut, ReadsOn}
use Rattle.tap_merge.specs.Taps.{HasRead}
use Rattle.tap_merge.specs.declared.feeding.Feeding.{Feeding}
use Rattle.tap_merge.specs.declared.tap_thread.TapFeed.{TapFeed}
use Rattle.tap_merge.specs.declared.tap_thread.TapFeed.TheVariants.{Thread, Local}
use Rattle.run_fault.specs.Device.{SourceMembers, SourceView}
use Rattle.run_fault.specs.Recording.{most_frames}

-- a reader that was opened and has read nothing more
pub record IsStarted (network : Network) (late : ℕ) (before : SourceView) (reading : Reading) : Type 0 where
  pub read : HasRead network late before [] None reading
  pub going : reading.position.stage ≡ Going
  pub most : reading.position.most ≡ most_frames

-- the promise of a tap, however it is read
abbrev pub promise_of : {S : Type 0} → TapFeed S → Feeding S
promise_of (Thread thread) = thread.promise
promise_of (Local tap) = tap.promise

-- the promise was kept so far, where the thread that takes the items reads the tap
abbrev pub IsFeeding : {S : Type 0} → SourceMembers S → TapFeed S → Type 0
IsFeeding s (Thread thread) = ⊤
IsFeeding s (Local tap) = HasPut s tap.promise.reader.value tap.promise.put.value tap.fed

-- the promise of a tap is kept still
pub record KeepsFeeding {S : Type 0} (s : SourceMembers S) (old new : TapFeed S) : Type 0 where
  pub promise : promise_of new ≡ promise_of old
  pub feeding : IsFeeding s new

-- the tap is read by a thread of its own still, or it was read on
abbrev pub FeedsOn : {S : Type 0} → TapFeed S → TapFeed S → Type 0
FeedsOn (Thread old) (Thread new) = ⊤
FeedsOn (Local old) (Local new) = ReadsOn old.fed new.fed
FeedsOn _ _ = ⊥

-- All items of a reader, up to an ending or a fault, were taken from the ring, and its source came back.
pub record IsSettled {S : Type 0} (s : SourceMembers S) (reader : TapReader S) (end : TapEnd) (source : S) : Type 0 where
  pub reading : Reading
  pub ahead : List ℕ
  pub gives : Gives (reading_of s.remaining s.failures s.told reader) (taken_items end) reading
  pub over : is_over (taken_items end) ≡ true
  pub sound : has_lost end ≡ false
  pub leaves : LeavesUnread ahead reading.remaining (s.remaining source)
  pub same_failures : s.failures source ≡ reading.failures

-- Some first items of a reader were taken from the ring, whatever it gave after them, and its source came back.
pub record IsLeft {S : Type 0} (s : SourceMembers S) (reader : TapReader S) (end : TapEnd) (source : S) : Type 0 where
  pub reading : Reading
  pub ahead : List ℕ
  pub more : List TapItem
  pub gives : Gives (reading_of s.remaining s.failures s.told reader) (taken_items end ++ more) reading
  pub sound : has_lost end ≡ false
  pub leaves : LeavesUnread ahead reading.remaining (s.remaining source)
  pub same_failures : s.failures source ≡ reading.failures
