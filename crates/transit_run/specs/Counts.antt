-- The counts of a ledger of transits (this project's profile): each counts the lines of one outcome, and stops at its type's maximum.
use Rattle.std.specs.Prelude.{◌≡◌, ◌≢◌, ℕ, ◌+◌, ◌-◌, ◌^◌, ◌==◌, Bool, true, false, List, [], length, map, filter, count_by, min, Option, Some, None, is_some, slice_get, slice_index, slice_set, if◌then◌else◌}
use Rattle.std.specs.List.{AllByRecursion}
use Rattle.afdx_frame.specs.declared.key.VlId.{VlId}
use Rattle.vl_config.specs.declared.class.Class.{Class}
use Rattle.vl_config.specs.declared.class.Class.TheVariants as class
use Rattle.transit_run.specs.Line.{link_of}
use Rattle.transit_run.specs.Outcome.{fate_place, origin_place}
use Rattle.transit_run.specs.declared.rows.Head.{Head}
use Rattle.transit_run.specs.declared.line.Line.{Line}
use Rattle.transit_run.specs.declared.line.Line.TheVariants.{Before, After}
use Rattle.transit_run.specs.declared.line.BeforeLine.{BeforeLine}
use Rattle.transit_run.specs.declared.line.AfterLine.{AfterLine}
use Rattle.transit_run.specs.declared.kind.Kind.{Kind}
use Rattle.transit_run.specs.declared.kind.Kind.TheVariants as kind
use Rattle.transit_run.specs.declared.outcome.Fate.{Fate}
use Rattle.transit_run.specs.declared.outcome.Fate.TheVariants as fate
use Rattle.transit_run.specs.declared.outcome.Origin.{Origin}
use Rattle.transit_run.specs.declared.outcome.Origin.TheVariants as origin
use Rattle.transit_run.specs.declared.tally.Tally.{Tally}
use Rattle.transit_run.specs.declared.counts.LinkCounts.{LinkCounts}
use Rattle.transit_run.specs.declared.counts.Counts.{Counts}

abbrev pub capped : ℕ → ℕ
capped count = min count (2 ^ 64 - 1)

-- ---- lines

abbrev pub head_of : Line → Head
head_of (Before line) = line.head
head_of (After line) = line.head

-- the line of a frame that went in
abbrev pub is_before : Line → Bool
is_before (Before line) = true
is_before (After line) = false

-- the line of a frame that came out, alone or as the partner of one that went in
abbrev pub has_come_out : Line → Bool
has_come_out (Before line) = is_some line.partner
has_come_out (After line) = true

abbrev pub has_fate : Fate → Line → Bool
has_fate it (Before line) = fate_place line.fate == fate_place it
has_fate it (After line) = false

abbrev pub has_origin : Origin → Line → Bool
has_origin it (Before line) = false
has_origin it (After line) = origin_place line.origin == origin_place it

abbrev pub is_foreign_class : Class → Bool
is_foreign_class class.Foreign = true
is_foreign_class _ = false

abbrev pub is_unconfigured_class : Class → Bool
is_unconfigured_class class.Unconfigured = true
is_unconfigured_class _ = false

-- a frame that went in with another constant field than the table's
abbrev pub is_foreign : Line → Bool
is_foreign (Before line) = is_foreign_class line.head.class
is_foreign (After line) = false

-- a frame that went in of a link that the table lacks
abbrev pub is_unconfigured : Line → Bool
is_unconfigured (Before line) = is_unconfigured_class line.head.class
is_unconfigured (After line) = false

abbrev pub same_link : Option VlId → Option VlId → Bool
same_link None None = true
same_link None (Some b) = false
same_link (Some a) None = false
same_link (Some a) (Some b) = a.0 == b.0

-- the line's frame is of the link, or of none
abbrev pub is_of : Option VlId → Line → Bool
is_of link line = same_link link (link_of (head_of line))

-- ---- counts

-- The tally is that of the lines.
pub record IsTallyOf (tally : Tally) (lines : List Line) : Type 0 where
  pub before : tally.before ≡ capped (count_by is_before lines)
  pub after : tally.after ≡ capped (count_by has_come_out lines)
  pub fates : (it : Fate) → slice_index tally.fates (fate_place it) ≡ capped (count_by (has_fate it) lines)
  pub origins : (it : Origin) → slice_index tally.origins (origin_place it) ≡ capped (count_by (has_origin it) lines)

-- the tally after the line of a frame that went in
abbrev pub with_before : Tally → BeforeLine → Tally
with_before tally line = record tally {
  before = capped (tally.before + 1);
  after = if is_some line.partner then capped (tally.after + 1) else tally.after;
  fates = slice_set tally.fates (fate_place line.fate) (capped (slice_index tally.fates (fate_place line.fate) + 1));
}

-- the tally after the line of a frame without a partner that came out
abbrev pub with_after : Tally → AfterLine → Tally
with_after tally line = record tally {
  after = capped (tally.after + 1);
  origins = slice_set tally.origins (origin_place line.origin) (capped (slice_index tally.origins (origin_place line.origin) + 1));
}

-- the counts after a line, as far as its frame's class goes
abbrev pub with_class : Counts → Line → Counts
with_class counts line = record counts {
  foreign = if is_foreign line then capped (counts.foreign + 1) else counts.foreign;
  unconfigured = if is_unconfigured line then capped (counts.unconfigured + 1) else counts.unconfigured;
}

-- the count of a kind of fault
abbrev pub count_of : Tally → Kind → ℕ
count_of tally kind.Dropped = slice_index tally.fates (fate_place fate.Dropped)
count_of tally kind.Lax = slice_index tally.fates (fate_place fate.Lax)
count_of tally kind.Leak = slice_index tally.fates (fate_place fate.Leak)
count_of tally kind.Slow = slice_index tally.fates (fate_place fate.Slow)
count_of tally kind.Overtaken = slice_index tally.fates (fate_place fate.Overtaken)
count_of tally kind.Changed = slice_index tally.fates (fate_place fate.Changed)
count_of tally kind.Twice = slice_index tally.origins (origin_place origin.Twice)
count_of tally kind.New = slice_index tally.origins (origin_place origin.New)

-- the link of each place
abbrev pub links_of : Counts → List (Option VlId)
links_of counts = map (λ one. one.link) counts.links.items

-- the place of a link; 0 too where it has none
abbrev pub place_of : Counts → Option VlId → ℕ
place_of counts None = 0
place_of counts (Some id) = slice_index counts.index.items id.0

-- the link has a place
abbrev pub IsListed : List (Option VlId) → Option VlId → Type 0
IsListed links link = (place : ℕ) × (slice_get links place ≡ Some link)

-- Each link has one place, which the index holds; the first is that of frames that name no link.
pub record IsIndexed (index : List ℕ) (links : List (Option VlId)) : Type 0 where
  pub first : slice_get links 0 ≡ Some None
  pub once : (place : ℕ) → slice_get links place ≡ Some None → place ≡ 0
  pub listed : (id : VlId) → slice_index index id.0 ≢ 0 → slice_get links (slice_index index id.0) ≡ Some (Some id)
  pub found : (place : ℕ) (id : VlId) → slice_get links place ≡ Some (Some id) → slice_index index id.0 ≡ place

-- The counts are those of the lines, and those of each link are those of its lines.
pub record IsCountOf (counts : Counts) (lines : List Line) : Type 0 where
  pub all : IsTallyOf counts.all lines
  pub foreign : counts.foreign ≡ capped (count_by is_foreign lines)
  pub unconfigured : counts.unconfigured ≡ capped (count_by is_unconfigured lines)
  pub links : (place : ℕ) (one : LinkCounts) → slice_get counts.links.items place ≡ Some one → IsTallyOf one.tally (filter (is_of one.link) lines)
  pub listed : AllByRecursion (λ line. IsListed (links_of counts) (link_of (head_of line))) lines
  pub room : length counts.index.items ≡ 65536
  pub indexed : IsIndexed counts.index.items (links_of counts)
