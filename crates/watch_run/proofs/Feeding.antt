-- Taps that are read into their rings, a step after the other.
use Rattle.std.proofs.Common.{◌≡◌, ap, ◌∙◌, refl}
use Rattle.run_fault.specs.Device.{SourceMembers}
use Rattle.watch_run.specs.Feeds.{AreFeeding, KeepFeeding}
use Rattle.tap_merge.specs.Threads.{promise_of}
use Rattle.tap_merge.specs.declared.feeding.Feeding.{Feeding}
use Rattle.watch_run.specs.Ready.{IsStartedOf}
use Rattle.watch_run.specs.declared.running.Feeds.{Feeds}
use Rattle.watch_run.specs.declared.running.Running.{Running}
use Rattle.watch_run.specs.declared.threads.Ready.{Ready}

pub begins_feeding : {S T : Type 0} (s : SourceMembers S) (t : SourceMembers T) (feeds : Feeds S T) → AreFeeding s t feeds → KeepFeeding s t feeds feeds
begins_feeding s t feeds are = record { a = record { promise = refl; feeding = are.a }; b = record { promise = refl; feeding = are.b } }

pub feeding_now : {S T : Type 0} (s : SourceMembers S) (t : SourceMembers T) (old new : Feeds S T) → KeepFeeding s t old new → AreFeeding s t new
feeding_now s t old new keep = record { a = keep.a.feeding; b = keep.b.feeding }

pub still_feeding : {S T : Type 0} (s : SourceMembers S) (t : SourceMembers T) (old mid new : Feeds S T) → KeepFeeding s t old mid → KeepFeeding s t mid new →
    KeepFeeding s t old new
still_feeding s t old mid new first then = record {
  a = record { promise = then.a.promise ∙ first.a.promise; feeding = then.a.feeding };
  b = record { promise = then.b.promise ∙ first.b.promise; feeding = then.b.feeding };
}

-- the readers that are read are those that the run was started with
pub reads_of : {S T W L : Type 0} (s : SourceMembers S) (t : SourceMembers T) (ready : Ready S T W L) (running : Running S T) (feeds : Feeds S T) → IsStartedOf ready running →
    KeepFeeding s t running.feeds feeds → ((promise_of feeds.a).reader.value ≡ ready.a) × ((promise_of feeds.b).reader.value ≡ ready.b)
reads_of {S = S} {T = T} s t ready running feeds started keep = (
  ap (λ (p : Feeding S). p.reader.value) keep.a.promise ∙ started.a,
  ap (λ (p : Feeding T). p.reader.value) keep.b.promise ∙ started.b,
)
