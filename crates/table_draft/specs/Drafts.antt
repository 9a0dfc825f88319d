-- A draft is read back as the table that it says (this project's profile). Times of a table are in nanoseconds.
use Rattle.std.specs.Prelude.{◌≡◌, ℕ, ◌*◌, ◌<◌, List, [], length, slice_index_or, string_bytes}
use Rattle.std.specs.Option.{option_map}
use Rattle.vl_config.specs.Document.{IsTableOfText, VlTable}
use Rattle.vl_config.specs.Link.{VirtualLink}
use Rattle.table_draft.specs.declared.draft.Draft.{Draft}
use Rattle.table_draft.specs.declared.known.Drafted.{Drafted}
use Rattle.table_draft.specs.declared.estimate.Estimate.{Estimate}

-- a link of a table has these values
pub record HasValues (values : Estimate) (link : VirtualLink) : Type 0 where
  pub bag : link.bag ≡ values.bag_ms * 1000000
  pub jitter : link.jitter ≡ values.jitter_us * 1000
  pub smax : link.smax ≡ values.smax
  pub integrity : link.integrity ≡ values.integrity
  pub redundancy : link.redundancy ≡ values.redundancy
  pub skew : link.skew ≡ values.skew_us * 1000

-- it is the one that a draft says
pub record IsLinkOf (drafted : Drafted) (link : VirtualLink) : Type 0 where
  pub id : link.id ≡ drafted.id
  pub name : link.name ≡ string_bytes drafted.name
  pub group : link.group ≡ option_map string_bytes drafted.group
  pub values : HasValues drafted.values link

abbrev pub AreLinksOf : List Drafted → List VirtualLink → Type 0
AreLinksOf drafted links =
    (length links ≡ length drafted)
    × ((i : ℕ) → i < length links → (d : Drafted) (l : VirtualLink) → IsLinkOf (slice_index_or drafted i d) (slice_index_or links i l))

-- a table is the one that a draft says
pub record IsTableOf (draft : Draft) (vl_table : VlTable) : Type 0 where
  pub constant : vl_table.constant ≡ draft.constant
  pub late : vl_table.late ≡ draft.late_us * 1000
  pub links : AreLinksOf draft.links.items vl_table.links
  pub filters : vl_table.filters ≡ []

-- the text of a draft is read as the table that the draft says
pub record ReadsBack (draft : Draft) : Type 0 where
  pub vl_table : VlTable
  pub read : IsTableOfText (string_bytes draft.text) vl_table
  pub same : IsTableOf draft vl_table
