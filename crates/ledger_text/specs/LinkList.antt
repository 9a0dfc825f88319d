-- Lists of links as a person writes them (this project's profile).
use Rattle.std.specs.Prelude.{◌≡◌, ℕ, ◌<◌, ◌≤◌, ◌==◌, ◌⊎◌, Bool, true, false, List, [], length, Option, Some, None, slice_index, nat_lt, if◌then◌else◌, ⊤}
use Rattle.std.specs.Char.{is_ascii_digit}
use Rattle.std.specs.List.{Contains, HoldsAt, position_or_len, before_first, after_first}
use Rattle.std.specs.Str.Parse.{AllDigits, digits_value}
use Rattle.vl_config.specs.Document.{VlTable}
use Rattle.vl_config.specs.Link.{VirtualLink}
use Rattle.ledger_text.specs.Pattern.{IsMatch}
use Rattle.ledger_text.specs.declared.link_list.ItemFault.{ItemFault}
use Rattle.ledger_text.specs.declared.link_list.ItemFault.TheVariants.{Empty, Number, Order, NeedsTable, NoSuchLink}
use Rattle.ledger_text.specs.declared.link_list.LinkSetFault.{LinkSetFault}
use Rattle.ledger_text.specs.declared.link_list.LinkSetFault.TheVariants.{Item, Memory}

abbrev pub is_dash : ℕ → Bool
is_dash byte = byte == 45

-- the text before the dash of a range; a number stands for the range from it to itself
abbrev pub low_text : List ℕ → List ℕ
low_text item = before_first is_dash item

-- the text after the dash of a range
abbrev pub high_text : List ℕ → List ℕ
high_text item = if nat_lt (position_or_len is_dash item) (length item) then after_first is_dash item else item

-- decimal digits, at least one, of a number below 65536
pub record IsNumber (text : List ℕ) : Type 0 where
  pub digits : AllDigits 10 text
  pub some : 0 < length text
  pub bound : digits_value 10 text < 65536

-- numbers, of which the first is the lower
pub record IsRange (item : List ℕ) : Type 0 where
  pub low : IsNumber (low_text item)
  pub high : IsNumber (high_text item)
  pub order : digits_value 10 (low_text item) ≤ digits_value 10 (high_text item)

-- an item that begins with a digit is a number or a range
abbrev pub begins_with_digit : List ℕ → Bool
begins_with_digit item = is_ascii_digit (slice_index item 0)

-- a link whose name the pattern matches
abbrev pub HasMatch : List VirtualLink → List ℕ → Type 0
HasMatch links pattern = (link : VirtualLink) × Contains links link × IsMatch pattern link.name

-- a link with this identifier whose name the pattern matches
abbrev pub IsNamed : List VirtualLink → List ℕ → ℕ → Type 0
IsNamed links pattern id = (link : VirtualLink) × Contains links link × IsMatch pattern link.name × (link.id.0 ≡ id)

-- a name that a link of the table has
abbrev pub IsKnown : Option VlTable → List ℕ → Type 0
IsKnown None pattern = ⊥
IsKnown (Some vl_table) pattern = HasMatch vl_table.links pattern

-- the link of the table with this identifier has the name
abbrev pub IsKnownAs : Option VlTable → List ℕ → ℕ → Type 0
IsKnownAs None pattern id = ⊥
IsKnownAs (Some vl_table) pattern id = IsNamed vl_table.links pattern id

-- the item takes the identifier: a range that holds it, or a pattern for the name of a link with it
abbrev pub Takes : Option VlTable → List ℕ → ℕ → Type 0
Takes vl_table item id =
    ((begins_with_digit item ≡ true) × (digits_value 10 (low_text item) ≤ id) × (id ≤ digits_value 10 (high_text item)))
    ⊎ ((begins_with_digit item ≡ false) × IsKnownAs vl_table item id)

-- one of the items takes the identifier
abbrev pub IsTakenByOne : Option VlTable → List (List ℕ) → ℕ → Type 0
IsTakenByOne vl_table items id = (k : ℕ) × (k < length items) × HoldsAt (λ item. Takes vl_table item id) items k

-- the item is a number, a range or the name of a link of the table
abbrev pub IsRight : Option VlTable → List ℕ → Type 0
IsRight vl_table item =
    ((begins_with_digit item ≡ true) × IsRange item)
    ⊎ ((begins_with_digit item ≡ false) × (0 < length item) × IsKnown vl_table item)

-- the fault of an item
abbrev pub IsItemFault : Option VlTable → List ℕ → ItemFault → Type 0
IsItemFault vl_table item Empty = item ≡ []
IsItemFault vl_table item Number = (begins_with_digit item ≡ true) × (IsNumber (low_text item) → IsNumber (high_text item) → ⊥)
IsItemFault vl_table item Order =
    (begins_with_digit item ≡ true) × IsNumber (low_text item) × IsNumber (high_text item)
    × (digits_value 10 (high_text item) < digits_value 10 (low_text item))
IsItemFault vl_table item NeedsTable = (begins_with_digit item ≡ false) × (0 < length item) × (vl_table ≡ None)
IsItemFault vl_table item NoSuchLink =
    (begins_with_digit item ≡ false) × (0 < length item) × ((vl_table ≡ None) → ⊥) × (IsKnown vl_table item → ⊥)

-- The item is the first that is wrong, and this is why. Memory may be refused at any text.
abbrev pub IsLinkSetFault : Option VlTable → List (List ℕ) → LinkSetFault → Type 0
IsLinkSetFault vl_table items (Item index why) =
    (index < length items) × HoldsAt (λ item. IsItemFault vl_table item why) items index
    × ((k : ℕ) → k < index → HoldsAt (λ item. IsRight vl_table item) items k)
IsLinkSetFault vl_table items Memory = ⊤

-- the two numbers of a range's text, and its fault
abbrev pub IsRangeFault : List ℕ → ItemFault → Type 0
IsRangeFault item Number = IsNumber (low_text item) → IsNumber (high_text item) → ⊥
IsRangeFault item Order =
    IsNumber (low_text item) × IsNumber (high_text item) × (digits_value 10 (high_text item) < digits_value 10 (low_text item))
IsRangeFault item _ = ⊥
