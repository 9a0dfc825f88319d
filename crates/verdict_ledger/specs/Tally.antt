-- The counts of a ledger (this project's profile): each counts the entries of one word.
use Rattle.std.specs.Prelude.{ℕ, ◌/◌, ◌%◌, ◌^◌, ◌==◌, Bool, true, false, ◌&&◌, List, [], ◌∷◌, length, filter, map, count_by, is_some}
use Rattle.afdx_frame.specs.declared.key.VlId.{VlId}
use Rattle.vl_config.specs.Class.{is_on_a_link}
use Rattle.vl_config.specs.declared.class.Class.{Class}
use Rattle.vl_config.specs.declared.class.Class.TheVariants.{Cut, Runt, Oversize, Foreign, Unconfigured, TooLong, Regular}
use Rattle.vl_judge.specs.Judgement.{is_copy, is_delivered, is_excess, is_out}
use Rattle.vl_judge.specs.Verdicts.{is_of}
use Rattle.verdict_ledger.specs.Entry.{Entry}
use Rattle.verdict_ledger.specs.declared.totals.Totals.{Totals}
use Rattle.verdict_ledger.specs.declared.link_counts.LinkCounts.{LinkCounts}

-- ---- the words

abbrev pub is_class : Class → Class → Bool
is_class Cut Cut = true
is_class Runt Runt = true
is_class Oversize Oversize = true
is_class Foreign Foreign = true
is_class Unconfigured Unconfigured = true
is_class TooLong TooLong = true
is_class Regular Regular = true
is_class _ _ = false

-- filter i accepts the frame
abbrev pub has_bit : ℕ → ℕ → Bool
has_bit i mask = mask / 2 ^ i % 2 == 1

-- ---- the counts of entries

abbrev pub class_count : Class → List Entry → ℕ
class_count class entries = count_by (λ e. is_class class e.verdict.class) entries

abbrev pub filter_count : List Entry → ℕ → ℕ
filter_count entries i = count_by (λ e. has_bit i e.mask) entries

-- the counts of all frames
unfoldable pub totals_of : List Entry → Totals
totals_of entries = record {
  frames = length entries;
  accepted = count_by (λ e. is_some e.keep) entries;
  cut = class_count Cut entries;
  runt = class_count Runt entries;
  oversize = class_count Oversize entries;
  foreign = class_count Foreign entries;
  unconfigured = class_count Unconfigured entries;
  toolong = class_count TooLong entries;
  excess = count_by (λ e. is_excess e.verdict) entries;
  out = count_by (λ e. is_out e.verdict) entries;
  copy = count_by (λ e. is_copy e.verdict) entries;
  delivered = count_by (λ e. is_delivered e.verdict) entries;
  filters = map (filter_count entries) (0 ∷ 1 ∷ 2 ∷ 3 ∷ 4 ∷ 5 ∷ 6 ∷ 7 ∷ []);
}

-- the counts of the frames of one link
unfoldable pub counts_of : List Entry → LinkCounts
counts_of entries = record {
  frames = length entries;
  accepted = count_by (λ e. is_some e.keep) entries;
  toolong = class_count TooLong entries;
  excess = count_by (λ e. is_excess e.verdict) entries;
  out = count_by (λ e. is_out e.verdict) entries;
  copy = count_by (λ e. is_copy e.verdict) entries;
  delivered = count_by (λ e. is_delivered e.verdict) entries;
}

-- the entry is of the configured link with this identifier
abbrev pub is_entry_of : VlId → Entry → Bool
is_entry_of id e = is_on_a_link e.verdict.class && is_of id e.frame

-- the counts of a configured link
abbrev pub link_counts : List Entry → VlId → LinkCounts
link_counts entries id = counts_of (filter (is_entry_of id) entries)
