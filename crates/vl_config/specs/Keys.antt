-- The keys of the table: their names, types and ranges (this project's profile), on the table that the text's TOML document is.
use Rattle.std.specs.Prelude.{codes, ℕ, ℤ, pos, negsuc, ◌/◌, ◌%◌, Bool, true, false, ◌&&◌, ◌||◌, not, List, [], ◌∷◌, Option, Some, None, is_some, is_none, ◌==◌, nat_eq, nat_le, if◌then◌else◌}
use Rattle.std.specs.Option.{option_map_or, option_and_then}
use Rattle.std.specs.List.{list_any}
use Rattle.std.specs.Cmp.Lexicographic.{pointwise}
use Rattle.toml.specs.Data.{Data, array, Items, no_items, item, Members, no_members, member, get_member, as_str, as_integer, as_bool, as_table}
use Rattle.vl_config.specs.declared.fault.ConfigFault.{ConfigFault}
use Rattle.vl_config.specs.declared.fault.ConfigFault.TheVariants.{Missing, Kind, Range, UnknownKey}
use Rattle.vl_config.specs.declared.key.Key.{Key}
use Rattle.vl_config.specs.declared.key.Key.TheVariants.{Constant, Link, LateUs, Filters, Id, Name, BagMs, JitterUs, Smax, Integrity, Redundancy, SkewUs, Group}
use Rattle.vl_config.specs.Link.{bags_ms, is_name}

abbrev pub top_keys : List Key
top_keys = Constant ∷ Link ∷ LateUs ∷ Filters ∷ []

abbrev pub link_keys : List Key
link_keys = Id ∷ Name ∷ BagMs ∷ JitterUs ∷ Smax ∷ Integrity ∷ Redundancy ∷ SkewUs ∷ Group ∷ []

abbrev pub key_name : Key → List ℕ
key_name Constant = codes "constant"
key_name Link = codes "link"
key_name LateUs = codes "late_us"
key_name Filters = codes "filters"
key_name Id = codes "id"
key_name Name = codes "name"
key_name BagMs = codes "bag_ms"
key_name JitterUs = codes "jitter_us"
key_name Smax = codes "smax"
key_name Integrity = codes "integrity"
key_name Redundancy = codes "redundancy"
key_name SkewUs = codes "skew_us"
key_name Group = codes "group"

-- all but these four must be there
abbrev pub is_required : Key → Bool
is_required Link = false
is_required LateUs = false
is_required Filters = false
is_required Group = false
is_required _ = true

-- ---- types

-- each item of an array passes the test
abbrev pub all_items : (Data → Bool) → Items → Bool
all_items test no_items = true
all_items test (item d ds) = test d && all_items test ds

abbrev pub is_array_of : (Data → Bool) → Data → Bool
is_array_of test (array ds) = all_items test ds
is_array_of test _ = false

abbrev pub is_kind : Key → Data → Bool
is_kind Link d = is_array_of (λ i. is_some (as_table i)) d
is_kind Filters d = is_array_of (λ i. is_some (as_str i)) d
is_kind Name d = is_some (as_str d)
is_kind Group d = is_some (as_str d)
is_kind Integrity d = is_some (as_bool d)
is_kind Redundancy d = is_some (as_bool d)
is_kind _ d = is_some (as_integer d)

-- ---- ranges

-- an integer of 0 or more
abbrev pub natural_of : ℤ → Option ℕ
natural_of (pos n) = Some n
natural_of (negsuc n) = None

abbrev pub natural_in : Data → Option ℕ
natural_in d = option_and_then natural_of (as_integer d)

-- The constant field of a destination address is 32 bits; its first byte ends in two bits 1, which make the address locally
-- administered and a group's (IEEE 802).
abbrev pub allows : Key → ℕ → Bool
allows Constant n = nat_le n 4294967295 && (n / 16777216 % 4 == 3)
allows Id n = nat_le n 65535
allows BagMs n = list_any (λ ms. n == ms) bags_ms
allows JitterUs n = nat_le n 100000
allows Smax n = nat_le 64 n && nat_le n 1518
allows _ n = nat_le n 1000000

abbrev pub in_range : Key → Data → Bool
in_range Link d = true
in_range Filters d = true
in_range Integrity d = true
in_range Redundancy d = true
in_range Name d = option_map_or is_name (as_str d) false
in_range Group d = option_map_or is_name (as_str d) false
in_range key d = option_map_or (allows key) (natural_in d) false

-- ---- the first fault of the keys of a table; `place` is the index of the link, none at the top

abbrev pub is_missing : Members → Key → Bool
is_missing members key = is_required key && is_none (get_member (key_name key) members)

abbrev pub is_other_kind : Members → Key → Bool
is_other_kind members key = option_map_or (λ d. not (is_kind key d)) (get_member (key_name key) members) false

abbrev pub is_out_of_range : Members → Key → Bool
is_out_of_range members key = option_map_or (λ d. not (in_range key d)) (get_member (key_name key) members) false

abbrev pub is_known : List Key → List ℕ → Bool
is_known keys name = list_any (λ key. pointwise nat_eq (key_name key) name) keys

abbrev pub is_unknown : List Key → List ℕ → Bool
is_unknown keys name = not (is_known keys name)

-- the table has a key that is none of these
abbrev pub has_unknown : List Key → Members → Bool
has_unknown keys no_members = false
has_unknown keys (member name d ms) = is_unknown keys name || has_unknown keys ms

abbrev pub keys_fault : List Key → Option ℕ → Members → Option ConfigFault
keys_fault keys place members =
    if list_any (is_missing members) keys then Some (Missing place)
    else (if list_any (is_other_kind members) keys then Some (Kind place)
    else (if list_any (is_out_of_range members) keys then Some (Range place)
    else (if has_unknown keys members then Some (UnknownKey place)
    else None)))
