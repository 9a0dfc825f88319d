-- Laws of any two runs over the same bytes.
use Rattle.std.specs.Prelude.{◌≡◌, ◌<◌, ℕ, List, Some, slice_index_or}
use Rattle.watch_run.specs.Filters.{Making}
use Rattle.pcap_io.specs.declared.recording.Ending.{Ending}
use Rattle.afdx_frame.specs.declared.key.TheConstants.{VL_ID_COUNT}
use Rattle.verdict_ledger.specs.declared.link_counts.LinkCounts.{LinkCounts}
use Rattle.verdict_ledger.specs.declared.tally.Tally.{Tally}
use Rattle.vl_config.specs.Document.{VlTable}
use Rattle.watch_run.specs.Watch.{IsWatched}
use Rattle.run_fault.specs.Opening.{WatchDevices}

-- Two sets of devices expose the same bytes: both recordings, of which the same is told, and what the outputs held.
pub record HoldSameBytes (one other : WatchDevices) : Type 0 where
  pub bytes_a : List ℕ
  pub bytes_b : List ℕ
  pub capture : List ℕ
  pub ledger : List ℕ
  pub one_a : one.a.remaining ≡ Some bytes_a
  pub other_a : other.a.remaining ≡ Some bytes_a
  pub told_a : one.a.told ≡ other.a.told
  pub one_b : one.b.remaining ≡ Some bytes_b
  pub other_b : other.b.remaining ≡ Some bytes_b
  pub told_b : one.b.told ≡ other.b.told
  pub one_capture : one.capture.contents ≡ Some capture
  pub other_capture : other.capture.contents ≡ Some capture
  pub one_ledger : one.ledger.contents ≡ Some ledger
  pub other_ledger : other.ledger.contents ≡ Some ledger

-- Both outputs hold the same bytes, and both runs say the same of them.
pub record WroteSame (endings endings' : List Ending) (tally tally' : Tally) (one other : WatchDevices) : Type 0 where
  pub capture : one.capture.contents ≡ other.capture.contents
  pub ledger : one.ledger.contents ≡ other.ledger.contents
  pub same_endings : endings ≡ endings'
  pub same_totals : tally.totals ≡ tally'.totals
  pub same_links : (id : ℕ) (none : LinkCounts) → id < VL_ID_COUNT → slice_index_or tally.counts.items id none ≡ slice_index_or tally'.counts.items id none

-- Whole runs with the same filters and the same table over the same bytes write the same bytes, on one thread or on threads, with any number
-- of workers, however these run.
abbrev pub SameBytesInSameBytesOut : Type 0
SameBytesInSameBytesOut =
    (ps : Making) (vl_table : VlTable) (endings endings' : List Ending) (tally tally' : Tally) (before before' after after' : WatchDevices)
    → HoldSameBytes before before' → IsWatched ps vl_table endings tally before after → IsWatched ps vl_table endings' tally' before' after'
    → WroteSame endings endings' tally tally' after after'
