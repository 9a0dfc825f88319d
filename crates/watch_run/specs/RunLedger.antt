-- The ledger of a run is read back whole (this project's format).
use Rattle.std.specs.Prelude.{◌≡◌, ◌^◌, ◌<◌, ◌≤◌, List, [], length, map, Some}
use Rattle.std.specs.List.{AllByRecursion}
use Rattle.afdx_frame.specs.Frame.{Frame}
use Rattle.ledger_text.specs.Ledger.{ReadLine, ReadsLines}
use Rattle.ledger_text.specs.declared.order.Counts.TheVariants as counts
use Rattle.ledger_text.specs.declared.order.LedgerStage.TheVariants as stages
use Rattle.pcap_io.specs.declared.recording.Ending.{Ending}
use Rattle.watch_run.specs.Filters.{Making, entries_by, ledger_by}
use Rattle.vl_config.specs.Document.{VlTable}
use Rattle.pcap_io.specs.Word.{frames_before}
use Rattle.watch_run.specs.ReadBack.{IsHeld, IsNamed, written_lines}

-- A run: at most eight filters, a table whose links have names, frames of recordings, and how these end.
pub record IsRun (ps : Making) (vl_table : VlTable) (frames : List Frame) (a b : Ending) : Type 0 where
  pub filters : length ps.filters ≤ 8
  pub named : AllByRecursion IsNamed vl_table.links
  pub held : AllByRecursion IsHeld frames
  pub few : length frames < 2 ^ 64
  pub few_a : frames_before a < 2 ^ 64
  pub few_b : frames_before b < 2 ^ 64

-- Its ledger is lines that say what became of each frame, and the counts, and nothing more.
abbrev pub RunLedgerIsRead : Type 0
RunLedgerIsRead = (ps : Making) (vl_table : VlTable) (frames : List Frame) (a b : Ending) → IsRun ps vl_table frames a b
    → (rs : List ReadLine) × (map (λ r. r.line) rs ≡ written_lines ps.version vl_table (length ps.filters) (entries_by ps vl_table frames))
    × ReadsLines stages.Head (Some (ledger_by ps vl_table frames a b)) rs (stages.Counts counts.Total) (Some [])
