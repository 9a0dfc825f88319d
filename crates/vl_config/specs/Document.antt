-- A TOML document as a table of virtual links, and its first fault (this project's profile).
use Rattle.std.specs.Prelude.{◌≡◌, ℕ, ◌+◌, ◌*◌, ◌≤◌, ◌⊎◌, IsTrue, Bool, true, false, ◌||◌, List, [], ◌∷◌, ◌++◌, length, map, Option, Some, None, unwrap_or, ◌==◌, nat_eq, nat_lt, if◌then◌else◌, IsPermutation}
use Rattle.std.specs.Option.{option_map, option_map_or, option_and_then, option_or}
use Rattle.std.specs.List.{list_any, IsDistinct}
use Rattle.std.specs.List.Sorted.{IsNonDecreasingBy}
use Rattle.std.specs.Cmp.Lexicographic.{pointwise}
use Rattle.toml.specs.Data.{Data, Items, no_items, item, Members, no_members, get_member, as_str, as_bool, as_array, as_table}
use Rattle.toml.specs.Errors.{IsBlank}
use Rattle.toml.specs.Parse.{parse_document}
use Rattle.vl_config.specs.declared.config.TheConstants.{MAX_LINKS, MAX_TABLE_FILTERS}
use Rattle.vl_config.specs.declared.fault.ConfigFault.{ConfigFault}
use Rattle.vl_config.specs.declared.fault.ConfigFault.TheVariants.{Text, Kind, TwiceId, TwiceName, TooMany}
use Rattle.vl_config.specs.declared.key.Key.{Key}
use Rattle.vl_config.specs.declared.key.Key.TheVariants.{Constant, Link, LateUs, Filters, Id, Name, BagMs, JitterUs, Smax, Integrity, Redundancy, SkewUs, Group}
use Rattle.vl_config.specs.Keys.{key_name, natural_in, top_keys, link_keys, keys_fault}
use Rattle.afdx_frame.specs.declared.key.VlId.{VlId}
use Rattle.vl_config.specs.Link.{VirtualLink, bags_ms, is_name}

-- ---- the values at keys; where there is none of the type, 0, false or nothing

abbrev pub number_at : Key → Members → ℕ
number_at key members = unwrap_or (option_and_then natural_in (get_member (key_name key) members)) 0

abbrev pub text_of : Data → List ℕ
text_of d = unwrap_or (as_str d) []

abbrev pub text_at : Key → Members → List ℕ
text_at key members = option_map_or text_of (get_member (key_name key) members) []

abbrev pub text_if_at : Key → Members → Option (List ℕ)
text_if_at key members = option_map text_of (get_member (key_name key) members)

abbrev pub flag_at : Key → Members → Bool
flag_at key members = unwrap_or (option_and_then as_bool (get_member (key_name key) members)) false

abbrev pub data_of : Items → List Data
data_of no_items = []
data_of (item d ds) = d ∷ data_of ds

abbrev pub items_of_array : Data → List Data
items_of_array d = option_map_or data_of (as_array d) []

abbrev pub items_at : Key → Members → List Data
items_at key members = option_map_or items_of_array (get_member (key_name key) members) []

-- ---- the links, in the order of the document

abbrev pub link_of : Members → VirtualLink
link_of members = record {
  id = record { 0 = number_at Id members };
  name = text_at Name members;
  bag = number_at BagMs members * 1000000;
  jitter = number_at JitterUs members * 1000;
  smax = number_at Smax members;
  integrity = flag_at Integrity members;
  redundancy = flag_at Redundancy members;
  skew = number_at SkewUs members * 1000;
  group = text_if_at Group members;
}

abbrev pub link_in : Data → VirtualLink
link_in d = link_of (unwrap_or (as_table d) no_members)

abbrev pub links_of : Members → List VirtualLink
links_of members = map link_in (items_at Link members)

-- ---- the first fault

-- the first fault of the keys of the link at an index
abbrev pub link_fault : ℕ → Data → Option ConfigFault
link_fault place d = option_map_or (keys_fault link_keys (Some place)) (as_table d) (Some (Kind None))

-- the first fault of the keys of links, the first of which is at this index
abbrev pub links_fault : ℕ → List Data → Option ConfigFault
links_fault place [] = None
links_fault place (d ∷ ds) = option_or (link_fault place d) (links_fault (place + 1) ds)

-- more than 4096 links, or than 7 filters
abbrev pub count_fault : Members → Option ConfigFault
count_fault members =
    if nat_lt MAX_LINKS (length (items_at Link members)) || nat_lt MAX_TABLE_FILTERS (length (items_at Filters members)) then Some TooMany else None

-- an earlier link has the identifier or the name of the link at an index
abbrev pub has_id : VlId → VirtualLink → Bool
has_id id link = link.id.0 == id.0

abbrev pub has_same_id : VirtualLink → VirtualLink → Bool
has_same_id one other = one.id.0 == other.id.0

abbrev pub has_name : List ℕ → VirtualLink → Bool
has_name name link = pointwise nat_eq link.name name

abbrev pub twice_in : ℕ → List VirtualLink → VirtualLink → Option ConfigFault
twice_in place earlier link =
    if list_any (has_id link.id) earlier then Some (TwiceId (Some place))
    else (if list_any (has_name link.name) earlier then Some (TwiceName (Some place)) else None)

-- the first of these links that has what an earlier one has; `place` is the index of the first
abbrev pub twice_fault : ℕ → List VirtualLink → List VirtualLink → Option ConfigFault
twice_fault place earlier [] = None
twice_fault place earlier (link ∷ links) =
    option_or (twice_in place earlier link) (twice_fault (place + 1) (earlier ++ link ∷ []) links)

abbrev pub document_fault : Members → Option ConfigFault
document_fault members =
    option_or (keys_fault top_keys None members)
    (option_or (count_fault members)
    (option_or (links_fault 0 (items_at Link members))
    (twice_fault 0 [] (links_of members))))

-- the first fault of a text
abbrev pub first_fault : List ℕ → Option ConfigFault
first_fault text = option_map_or document_fault (parse_document text) (Some Text)

-- Reading may take memory: the text has more than blanks and comments, or the keys of its top table have no fault.
abbrev pub MayAllocate : List ℕ → Type 0
MayAllocate text =
    (¬ IsBlank text) ⊎ ((members : Members) × (parse_document text ≡ Some members) × (keys_fault top_keys None members ≡ None))

-- ---- the table

-- times are in nanoseconds
pub record VlTable : Type 0 where
  pub constant : ℕ
  pub links : List VirtualLink
  pub late : ℕ
  pub filters : List (List ℕ)

-- the bounds of each table: at most 4096 links by rising identifier, no two of one identifier, a lateness of at most 1 s, and at most 7 filters
pub record IsVlTable (vl_table : VlTable) : Type 0 where
  pub rising : IsNonDecreasingBy (λ link. link.id.0) vl_table.links
  pub distinct : IsDistinct has_same_id vl_table.links
  pub few_links : length vl_table.links ≤ MAX_LINKS
  pub late : vl_table.late ≤ 1000000000
  pub few_filters : length vl_table.filters ≤ MAX_TABLE_FILTERS

-- the table that a document without a fault says, with its links by rising identifier
pub record IsTableOf (members : Members) (vl_table : VlTable) : Type 0 where
  pub constant : vl_table.constant ≡ number_at Constant members
  pub links : IsPermutation (links_of members) vl_table.links
  pub rising : IsNonDecreasingBy (λ link. link.id.0) vl_table.links
  pub late : vl_table.late ≡ number_at LateUs members * 1000
  pub filters : vl_table.filters ≡ map text_of (items_at Filters members)

-- the table that a text without a fault says
abbrev pub IsTableOfText : List ℕ → VlTable → Type 0
IsTableOfText text vl_table = (members : Members) × (parse_document text ≡ Some members) × IsTableOf members vl_table

-- the numbers of a link's table are in range
pub record HasRanges (members : Members) : Type 0 where
  pub id : number_at Id members ≤ 65535
  pub name : IsTrue (is_name (text_at Name members))
  pub bag : IsTrue (list_any (λ ms. ms * 1000000 == number_at BagMs members * 1000000) bags_ms)
  pub bag_bound : number_at BagMs members ≤ 128
  pub jitter : number_at JitterUs members ≤ 100000
  pub smallest : 64 ≤ number_at Smax members
  pub largest : number_at Smax members ≤ 1518
  pub skew : number_at SkewUs members ≤ 1000000
  pub group : IsTrue (option_map_or is_name (text_if_at Group members) true)
