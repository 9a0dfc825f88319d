-- How both taps of a run are read into their rings.
use Rattle.run_fault.specs.Device.{SourceMembers}
use Rattle.tap_merge.specs.Threads.{FeedsOn, IsFeeding, KeepsFeeding}
use Rattle.watch_run.specs.declared.running.Feeds.{Feeds}

-- the promises of both are kept so far
pub record AreFeeding {S T : Type 0} (s : SourceMembers S) (t : SourceMembers T) (feeds : Feeds S T) : Type 0 where
  pub a : IsFeeding s feeds.a
  pub b : IsFeeding t feeds.b

-- the promises of both are kept still
pub record KeepFeeding {S T : Type 0} (s : SourceMembers S) (t : SourceMembers T) (old new : Feeds S T) : Type 0 where
  pub a : KeepsFeeding s old.a new.a
  pub b : KeepsFeeding t old.b new.b

-- both taps are read on: by threads of their own still, or their rings were filled
pub record FeedOn {S T : Type 0} (old new : Feeds S T) : Type 0 where
  pub a : FeedsOn old.a new.a
  pub b : FeedsOn old.b new.b
