-- Two recordings as their items come over rings, and are merged (this project's profile).
use Rattle.std.specs.Prelude.{IfSome, ◌≡◌, ◌⊎◌, ℕ, ◌≤◌, true, false, List, [], ◌∷◌, ◌++◌, length, Option, Some, None, ⊤}
use Rattle.std.specs.List.{AllByRecursion}
use Rattle.std.specs.Option.{ForSome}
use Rattle.afdx_frame.specs.Frame.{Frame}
use Rattle.afdx_frame.specs.declared.key.Network.{Network}
use Rattle.afdx_frame.specs.declared.key.Network.TheVariants.{A, B}
use Rattle.ordered_merge.specs.Merge.{CanFetchAll, Follows, MergerState, Tap, ended, fetched_all, tap_of}
use Rattle.pcap_io.specs.declared.item.ReadFault.TheVariants.{Device, Failed as HasFailed}
use Rattle.pcap_io.specs.declared.recording.Ending.{Ending}
use Rattle.tap_queue.specs.Items.{frame_items, frames_in, is_over}
use Rattle.tap_queue.specs.Ring.{SameEnd, has_lost, late_of, network_of, taken_items}
use Rattle.tap_queue.specs.declared.end.TapEnd.{TapEnd}
use Rattle.tap_queue.specs.declared.item.TapItem.{TapItem}
use Rattle.tap_queue.specs.declared.item.TapItem.TheVariants as items
use Rattle.run_fault.specs.Recording.{most_frames}
use Rattle.run_fault.specs.declared.fault.WatchFault.{WatchFault}
use Rattle.run_fault.specs.declared.fault.WatchFault.TheVariants as watch
use Rattle.tap_merge.specs.declared.rings.Rings.{Rings}

-- ---- one ring

abbrev pub EndsWith : TapItem → List TapItem → Type 0
EndsWith item items = (before : List TapItem) × (items ≡ before ++ item ∷ [])

-- More items may have been taken of the ring since; after an ending or a fault none is. Nothing is known of them once one was lost.
pub record TakesOn (old new : TapEnd) : Type 0 where
  pub same : SameEnd old new
  pub going : has_lost new ≡ false → has_lost old ≡ false
  pub more : has_lost new ≡ false → (more : List TapItem) × (taken_items new ≡ taken_items old ++ more) × (is_over (taken_items old) ≡ true → more ≡ [])

-- the next frame that is taken is the merger's next one of the network
pub record AgreesWith (network : Network) (end : TapEnd) (m : MergerState) : Type 0 where
  pub network_is : network_of end ≡ network
  pub late_is : late_of end ≡ m.late
  pub going : (tap_of m network).ended ≡ false
  pub number : (tap_of m network).next ≡ length (frames_in (taken_items end))
  pub high : (bound : ℕ) → AllByRecursion (λ (g : Frame). g.stamp ≤ bound) (frames_in (taken_items end)) →
      ForSome (tap_of m network).high (λ high. high ≤ bound)

-- frames were taken and merged
abbrev pub MergesFrames : Network → TapEnd → TapEnd → MergerState → MergerState → Type 0
MergesFrames network old new m m' =
    (fs : List Frame) × (taken_items new ≡ taken_items old ++ frame_items fs) × CanFetchAll network m fs × (m' ≡ fetched_all m fs)

-- items were taken and merged: frames, or the recording's ending
abbrev pub MergesItem : Network → Option Ending → TapEnd → TapEnd → MergerState → MergerState → Type 0
MergesItem network None old new m m' = MergesFrames network old new m m'
MergesItem network (Some ending) old new m m' = (taken_items new ≡ taken_items old ++ items.End ending ∷ []) × (m' ≡ ended m network)

-- all that a fault says of the items of a network: a source that failed gave the last of them; a ring is lost where an item was, or where more was asked
-- for after its ending or a fault
abbrev pub TapFault : Network → WatchFault → TapEnd → Type 0
TapFault network (watch.Read failed) end = (failed ≡ network) × (has_lost end ≡ false) × EndsWith (items.Failed Device) (taken_items end)
TapFault network watch.Memory end = ⊤
TapFault network watch.RingLost end = (has_lost end ≡ true) ⊎ (is_over (taken_items end) ≡ true)
TapFault network fault end = ⊥

-- all that a fault says of frames that came together: there was no memory for them, or one was lost
abbrev pub StopsTogether : WatchFault → TapEnd → Type 0
StopsTogether watch.Memory end = is_over (taken_items end) ≡ false
StopsTogether watch.RingLost end = has_lost end ≡ true
StopsTogether fault end = ⊥

-- the last item isn't a source's failure
abbrev pub IsNotFailed : List TapItem → Type 0
IsNotFailed taken = EndsWith (items.Failed Device) taken → ⊥

-- an item was lost, or the ending was taken before, or a fault came that no reader gives first
abbrev pub IsLost : TapEnd → TapEnd → Type 0
IsLost old new = (has_lost new ≡ true) ⊎ (is_over (taken_items old) ≡ true) ⊎ EndsWith (items.Failed HasFailed) (taken_items new)

-- the recording's source failed, and its failure was taken
abbrev pub TakesFailure : WatchFault → TapEnd → TapEnd → Type 0
TakesFailure (watch.Read network) old new = taken_items new ≡ taken_items old ++ items.Failed Device ∷ []
TakesFailure fault old new = ⊤

-- this, where a source failed
abbrev pub WhereFailed : WatchFault → Type 0 → Type 0
WhereFailed (watch.Read network) P = P
WhereFailed fault P = ⊤

-- ---- both rings

-- all that the merger knows of a network: it has ended where its ending was taken
abbrev pub HasEnding : Option Ending → Tap → List TapItem → Type 0
HasEnding None tap items = tap.ended ≡ false
HasEnding (Some ending) tap taken = (tap.ended ≡ true) × EndsWith (items.End ending) taken

abbrev pub ring_of : TapEnd → TapEnd → Network → TapEnd
ring_of a b A = a
ring_of a b B = b

-- all that a fault says of both rings
abbrev pub RingsFault : WatchFault → TapEnd → TapEnd → Type 0
RingsFault fault a b = (network : Network) × TapFault network fault (ring_of a b network)

-- All frames that were taken of both rings were merged, and of them these cut, in order. A fault that was met is of one of the rings.
pub record HasTaken (late : ℕ) (cut : List Frame) (rings : Rings) : Type 0 where
  pub late_is : rings.merger.late ≡ late
  pub network_a : network_of rings.a ≡ A
  pub network_b : network_of rings.b ≡ B
  pub late_a : late_of rings.a ≡ late
  pub late_b : late_of rings.b ≡ late
  pub few_a : length (frames_in (taken_items rings.a)) ≤ most_frames
  pub few_b : length (frames_in (taken_items rings.b)) ≤ most_frames
  pub follows : Follows rings.merger (frames_in (taken_items rings.a)) (frames_in (taken_items rings.b)) cut
  pub ended_a : HasEnding rings.end_a rings.merger.a (taken_items rings.a)
  pub ended_b : HasEnding rings.end_b rings.merger.b (taken_items rings.b)
  pub failed : IfSome rings.fault (λ fault. RingsFault fault rings.a rings.b)

-- the merged frames of a network are the first of those taken; where it has ended in the merger they are all, and its ending was taken
pub record AreFirst (frames : List Frame) (tap : Tap) (taken : List TapItem) : Type 0 where
  pub more : List Frame
  pub all : frames_in taken ≡ frames ++ more
  pub over : tap.ended ≡ true → (more ≡ []) × (ending : Ending) × EndsWith (items.End ending) taken

-- Merging stopped, with these frames merged and of them these cut. Nothing is known of a ring once an item was lost.
pub record StopsTaking (late : ℕ) (cut : List Frame) (a b : TapEnd) : Type 0 where
  pub merger : MergerState
  pub frames_a : List Frame
  pub frames_b : List Frame
  pub late_is : merger.late ≡ late
  pub follows : Follows merger frames_a frames_b cut
  pub first_a : has_lost a ≡ false → AreFirst frames_a merger.a (taken_items a)
  pub first_b : has_lost b ≡ false → AreFirst frames_b merger.b (taken_items b)
