-- A ledger, as contracts see it.
use Rattle.std.specs.Prelude.{◌≡◌, ℕ, ◌<◌, Bool, List, slice_index_or, Result, Ok, Err}
use Rattle.afdx_frame.specs.declared.key.TheConstants.{VL_ID_COUNT}
use Rattle.vl_config.specs.Document.{VlTable}
use Rattle.verdict_ledger.specs.Entry.{Entry}
use Rattle.verdict_ledger.specs.Tally.{totals_of, link_counts}
use Rattle.verdict_ledger.specs.declared.fault.LedgerRefused.{LedgerRefused}
use Rattle.verdict_ledger.specs.declared.ledger.Ledger.{Ledger}
use Rattle.verdict_ledger.specs.declared.tally.Tally.{Tally}
use Rattle.verdict_ledger.specs.declared.totals.Totals.{Totals}
use Rattle.verdict_ledger.specs.declared.link_counts.LinkCounts.{LinkCounts}
use Rattle.verdict_ledger.specs.declared.version.LedgerVersion.{LedgerVersion}

-- the sink that it writes to
abbrev pub sink_of : {W : Type 0} → Ledger W → W
sink_of ledger = ledger.spool.sink

-- a call has met a fault
abbrev pub has_failed : {W : Type 0} → Ledger W → Bool
has_failed ledger = ledger.failed

-- the version of its text
abbrev pub version_in : {W : Type 0} → Ledger W → LedgerVersion
version_in ledger = ledger.version

-- the counts of all frames
abbrev pub totals_in : {W : Type 0} → Ledger W → Totals
totals_in ledger = ledger.tally.totals

-- the totals, and the counts of each link
abbrev pub tally_in : {W : Type 0} → Ledger W → Tally
tally_in ledger = ledger.tally

-- the sink that it wrote to, whether it stands or gave that back
abbrev pub begun_sink : {W : Type 0} → Result (Ledger W) (LedgerRefused W) → W
begun_sink (Ok ledger) = sink_of ledger
begun_sink (Err refused) = refused.sink

-- the sink that a finished ledger wrote to, whatever counts it gave
abbrev pub finished_sink : {W T : Type 0} → Result (W × T) (LedgerRefused W) → W
finished_sink (Ok finished) = finished.0
finished_sink (Err refused) = refused.sink

-- The tally of these entries. It has counts for each identifier of 16 bits.
pub record IsTallyOf (entries : List Entry) (tally : Tally) : Type 0 where
  pub totals : tally.totals ≡ totals_of entries
  pub links : (id : ℕ) (none : LinkCounts) → id < VL_ID_COUNT → slice_index_or tally.counts.items id none ≡ link_counts entries (record { 0 = id })

-- The ledger has the lines of these entries, under this table and this number of filters.
pub record StandsAfter {W : Type 0} (ledger : Ledger W) (vl_table : VlTable) (number : ℕ) (entries : List Entry) : Type 0 where
  pub links : ledger.links.items ≡ vl_table.links
  pub filters : ledger.filters ≡ number
  pub tally : IsTallyOf entries ledger.tally
