-- Each frame counts in one column of a line of counts, so that the columns add up to the number of frames.
use Rattle.std.specs.Prelude.{◌≡◌, ◌+◌, List}
use Rattle.std.specs.List.{AllByRecursion}
use Rattle.afdx_frame.specs.declared.key.VlId.{VlId}
use Rattle.vl_judge.specs.Judgement.{IsReached}
use Rattle.verdict_ledger.specs.Entry.{Entry}
use Rattle.verdict_ledger.specs.Tally.{link_counts, totals_of}
use Rattle.verdict_ledger.specs.declared.totals.Totals.{Totals}
use Rattle.verdict_ledger.specs.declared.link_counts.LinkCounts.{LinkCounts}

-- each verdict stops where a judgement stops it, as each verdict of `vl_judge` does
abbrev pub AreVerdicts : List Entry → Type 0
AreVerdicts entries = AllByRecursion (λ e. IsReached e.verdict) entries

abbrev pub IsSumOfAll : Totals → Type 0
IsSumOfAll t =
    t.frames ≡ t.cut + t.runt + t.oversize + t.foreign + t.unconfigured + t.toolong + t.excess + t.out + t.copy + t.delivered

abbrev pub IsSumOfLink : LinkCounts → Type 0
IsSumOfLink k = k.frames ≡ k.toolong + k.excess + k.out + k.copy + k.delivered

abbrev pub TotalsAddUp : Type 0
TotalsAddUp = (entries : List Entry) → AreVerdicts entries → IsSumOfAll (totals_of entries)

abbrev pub LinksAddUp : Type 0
LinksAddUp = (entries : List Entry) (id : VlId) → AreVerdicts entries → IsSumOfLink (link_counts entries id)
