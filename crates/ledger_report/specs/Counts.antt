-- How many of a ledger's lines of frames say what (this project's format). The lines stand in the ledger's order.
use Rattle.std.specs.Prelude.{◌≡◌, ℕ, ◌/◌, ◌%◌, Bool, true, false, List, [], ◌∷◌, filter, map, slice_index, Option, Some, None}
use Rattle.afdx_frame.specs.Frame.{frame_with}
use Rattle.afdx_frame.specs.declared.key.Network.{Network}
use Rattle.afdx_frame.specs.declared.key.Network.TheVariants.{A, B}
use Rattle.afdx_frame.specs.declared.key.VlId.{VlId}
use Rattle.verdict_ledger.specs.Entry.{Entry, entry_with}
use Rattle.verdict_ledger.specs.Ledger.{IsTallyOf}
use Rattle.verdict_ledger.specs.Tally as tally
use Rattle.verdict_ledger.specs.Tally.{totals_of}
use Rattle.verdict_ledger.specs.declared.link_counts.LinkCounts.{LinkCounts}
use Rattle.verdict_ledger.specs.declared.totals.Totals.{Totals}
use Rattle.ledger_text.specs.declared.frame.FrameLine.{FrameLine}
use Rattle.ledger_report.specs.declared.counts.FrameCounts.{FrameCounts}

abbrev pub is_same_network : Network → Network → Bool
is_same_network A A = true
is_same_network A B = false
is_same_network B A = false
is_same_network B B = true

abbrev pub is_on : Network → FrameLine → Bool
is_on network line = is_same_network network line.network

-- the first bytes of a frame of this link
abbrev pub address_of : Option VlId → List ℕ
address_of None = []
address_of (Some id) = 0 ∷ 0 ∷ 0 ∷ 0 ∷ id.0 / 256 ∷ id.0 % 256 ∷ []

-- a ledger's entry that counts as the line does: with its link, its verdict, how many bytes are kept, and its mask
abbrev pub entry_of : FrameLine → Entry
entry_of line = entry_with (frame_with line.network line.number line.stamp.0 0 (address_of line.link)) line.verdict line.kept line.mask

abbrev pub entries_of : List FrameLine → List Entry
entries_of lines = map entry_of lines

-- the ledger's counts of these lines: those of its line `total`
abbrev pub counts_of : List FrameLine → Totals
counts_of lines = totals_of (entries_of lines)

abbrev pub network_counts : List FrameLine → Network → Totals
network_counts lines network = counts_of (filter (is_on network) lines)

-- the counts of the line of a link, by its identifier
abbrev pub link_counts : List FrameLine → ℕ → LinkCounts
link_counts lines id = tally.link_counts (entries_of lines) (record { 0 = id })

-- how many frames a filter accepts
abbrev pub filter_count : List FrameLine → ℕ → ℕ
filter_count lines filter = slice_index (counts_of lines).filters filter

-- The counts are those of these lines: of all with each link and each filter, and of each network.
pub record AreCountsOf (lines : List FrameLine) (counts : FrameCounts) : Type 0 where
  pub tally : IsTallyOf (entries_of lines) counts.tally
  pub a : counts.a ≡ network_counts lines A
  pub b : counts.b ≡ network_counts lines B
