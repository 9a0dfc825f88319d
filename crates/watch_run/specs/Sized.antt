-- Runs of given sizes, and what they come to: what those of the program do.
use Rattle.std.specs.Prelude.{ℕ, IfSome}
use Rattle.std.specs.Option.{option_map}
use Rattle.watch_run.specs.Filters.{Making}
use Rattle.vl_config.specs.Document.{VlTable}
use Rattle.watch_run.specs.Round.{IsWorkerCount}
use Rattle.run_fault.specs.Device.{SourceMembers, SinkMembers, sink_at, source_at}
use Rattle.run_fault.specs.Opening.{devices_at}
use Rattle.run_fault.specs.declared.refused.WatchRefused.{WatchRefused}
use Rattle.watch_run.specs.Running.{IsRunningAborted}
use Rattle.watch_run.specs.Watch.{IsWatchAborted, IsWatched}
use Rattle.watch_run.specs.declared.one_thread.Watched.{Watched}

module _ {S T W L : Type 0} (s : SourceMembers S) (t : SourceMembers T) (w : SinkMembers W) (l : SinkMembers L) where
  -- the whole run over these devices is done
  abbrev pub HasWatched : Making → VlTable → S → T → W → L → Watched S T W L → Type 0
  HasWatched ps vl_table a b capture ledger done =
      IsWatched ps vl_table done.endings done.tally (devices_at s t w l a b capture ledger) (devices_at s t w l done.a done.b done.capture done.ledger)

  -- the run over these devices was aborted, on one thread
  abbrev pub HasAborted : Making → VlTable → S → T → W → L → WatchRefused S T W L → Type 0
  HasAborted ps vl_table a b capture ledger refused =
      IfSome refused.a (λ a'. IfSome refused.b (λ b'. IsWatchAborted ps vl_table refused.fault (devices_at s t w l a b capture ledger)
      (devices_at s t w l a' b' refused.capture refused.ledger)))

  -- the whole run over these devices is done by so many workers
  abbrev pub HasRun : ℕ → Making → VlTable → S → T → W → L → Watched S T W L → Type 0
  HasRun workers ps vl_table a b capture ledger done = IsWorkerCount workers × HasWatched ps vl_table a b capture ledger done

  -- the run over these devices was aborted, on threads
  abbrev pub HasStopped : ℕ → Making → VlTable → S → T → W → L → WatchRefused S T W L → Type 0
  HasStopped workers ps vl_table a b capture ledger refused =
      IsRunningAborted workers ps vl_table refused.fault (devices_at s t w l a b capture ledger) (option_map (source_at s) refused.a)
      (option_map (source_at t) refused.b) (sink_at w refused.capture) (sink_at l refused.ledger)
