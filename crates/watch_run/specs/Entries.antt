-- The text that is written of frames (this project's profile).
use Rattle.std.specs.Prelude.{◌≡◌, List, [], ◌++◌, map}
use Rattle.afdx_frame.specs.Frame.{Frame}
use Rattle.watch_run.specs.Filters.{Making, keep_by, packets_of}
use Rattle.filter_workers.specs.Filters.{mask_by}
use Rattle.watch_run.specs.declared.entries.Entries.{Entries}
use Rattle.verdict_ledger.specs.Entry.{entries_of}
use Rattle.verdict_ledger.specs.Text.{lines_text}
use Rattle.vl_config.specs.Document.{VlTable}
use Rattle.vl_judge.specs.Judgement.{Judgement}
use Rattle.vl_judge.specs.Verdicts.{verdicts}

-- these are the verdicts of a round's frames, which follow on others
abbrev pub AreVerdicts : VlTable → List Frame → List Frame → List Judgement → Type 0
AreVerdicts vl_table frames round said = verdicts vl_table (frames ++ round) ≡ verdicts vl_table frames ++ said

-- nothing
pub record AreNone (entries : Entries) : Type 0 where
  pub keeps_are : entries.keeps.items ≡ []
  pub masks_are : entries.masks.items ≡ []
  pub packets_are : entries.packets.items ≡ []
  pub lines_are : entries.lines.items ≡ []

-- all that is written of these frames, of which these are the verdicts
pub record AreEntries (ps : Making) (frames : List Frame) (verdicts : List Judgement) (entries : Entries) : Type 0 where
  pub keeps_are : entries.keeps.items ≡ map (keep_by ps.filters) frames
  pub masks_are : entries.masks.items ≡ map (mask_by ps.filters) frames
  pub packets_are : entries.packets.items ≡ packets_of ps.format (entries_of frames verdicts entries.keeps.items entries.masks.items)
  pub lines_are : entries.lines.items ≡ lines_text ps.version (entries_of frames verdicts entries.keeps.items entries.masks.items)

-- the first ones, and then more
pub record AreJoined (first more both : Entries) : Type 0 where
  pub keeps_are : both.keeps.items ≡ first.keeps.items ++ more.keeps.items
  pub masks_are : both.masks.items ≡ first.masks.items ++ more.masks.items
  pub packets_are : both.packets.items ≡ first.packets.items ++ more.packets.items
  pub lines_are : both.lines.items ≡ first.lines.items ++ more.lines.items
