-- The items of an array, and the values of the vector that holds them.
use Rattle.std.proofs.Common.{◌≡◌, Bool, ◌&&◌, ◌||◌, List, [], ◌∷◌, map, String, Global, string_bytes, refl, ap}
use Rattle.std.specs.List.{list_all, list_any}
use Rattle.std.specs.Map.{keys_of}
use Rattle.toml.specs.Data.{Data}
use Rattle.toml.specs.View.{view, items_view, members_view}
use Rattle.toml.specs.declared.value.Value.{Value}
use Rattle.vl_config.specs.Keys.{all_items, has_unknown, is_unknown}
use Rattle.vl_config.specs.Document.{data_of}
use Rattle.vl_config.specs.declared.key.Key.{Key}

pub all_items_view : (test : Data → Bool) (values : List Value) →
    all_items test (items_view values) ≡ list_all (λ value. test (view value)) values
all_items_view test [] = refl
all_items_view test (v ∷ vs) = ap (λ more. test (view v) && more) (all_items_view test vs)

-- the keys of a table and those of the map that holds it
pub has_unknown_view : (keys : List Key) (entries : List (String Global × Value)) →
    has_unknown keys (members_view entries) ≡ list_any (λ name. is_unknown keys (string_bytes name)) (keys_of entries)
has_unknown_view keys [] = refl
has_unknown_view keys (e ∷ es) = ap (λ more. is_unknown keys (string_bytes e.0) || more) (has_unknown_view keys es)

-- the items of an array as a list
pub data_of_view : (values : List Value) → data_of (items_view values) ≡ map view values
data_of_view [] = refl
data_of_view (v ∷ vs) = ap (λ more. view v ∷ more) (data_of_view vs)
