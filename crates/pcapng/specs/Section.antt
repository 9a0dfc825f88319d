-- Sections: the interfaces that they describe, and which of them is read (this project's choice).
use Rattle.std.specs.Prelude.{ℕ, Bool, true, false, bytes_eq, ◌||◌, List, [], ◌∷◌, ◌++◌, map, slice_get, Option, Some, None, Result, Ok, Err, nat_lt, ◌==◌, if◌then◌else◌}
use Rattle.std.specs.Option.{option_map}
use Rattle.pcap_io.specs.declared.layout.ByteOrder.{ByteOrder}
use Rattle.pcap_io.specs.declared.recording.BadReason.{BadReason}
use Rattle.pcap_io.specs.declared.recording.BadReason.TheVariants as reasons
use Rattle.pcapng.specs.Interface.{Described, bytes_of_name, described_of, has_name, name_bytes, time_of}
use Rattle.pcapng.specs.declared.choice.Choice.{Choice}
use Rattle.pcapng.specs.declared.choice.Choice.TheVariants.{Any, Number, Name}
use Rattle.pcapng.specs.declared.section.Met.{Met}
use Rattle.pcapng.specs.declared.section.Role.{Role}
use Rattle.pcapng.specs.declared.section.Role.TheVariants as roles
use Rattle.pcapng.specs.declared.section.Section.{Section}
use Rattle.pcapng.specs.declared.section.TheConstants.{MAX_INTERFACES}

-- the memory of the interface of which packets were taken in earlier sections
pub record Remembered : Type 0 where
  -- its number in the last of them that had packets of it
  pub number : ℕ
  -- its name, where one of them gave it one: the last
  pub name : Option (List ℕ)

-- The knowledge of a recording where a block begins.
pub record Known : Type 0 where
  pub choice : Choice
  -- the byte order of the section
  pub order : ByteOrder
  -- the interfaces that the section has described
  pub interfaces : List Described
  -- the number of the interface of which the section had the last packet that was taken, where it had one
  pub taken : Option ℕ
  -- the interface of which packets were taken in earlier sections, where some were
  pub before : Option Remembered
  -- where a name was chosen: the number of the first interface of this name that the section has described
  pub named : Option ℕ
  -- the chosen interface was described, in this section or an earlier one
  pub described : Bool

-- the memory of an interface that was met
abbrev pub remembered_of : Met → Remembered
remembered_of m = record { number = m.number; name = bytes_of_name m.name }

-- the knowledge of a section
abbrev pub known_of : Section → Known
known_of s = record {
  choice = s.choice;
  order = s.order;
  interfaces = map described_of s.interfaces.items;
  taken = s.taken;
  before = option_map remembered_of s.met;
  named = s.named;
  described = s.described;
}

-- with no choice any interface is described
abbrev pub needs_none : Choice → Bool
needs_none Any = true
needs_none (Number number) = false
needs_none (Name name) = false

-- before the first section
abbrev pub unknown : Choice → ByteOrder → Known
unknown choice order = record { choice = choice; order = order; interfaces = []; taken = None; before = None; named = None; described = needs_none choice }

-- an interface's name, or, where it has none, the one that it had before
abbrev pub name_kept : Option (List ℕ) → Option Remembered → Option (List ℕ)
name_kept (Some name) before = Some name
name_kept None None = None
name_kept None (Some m) = m.name

-- an interface that had packets, as it is remembered
abbrev pub remembers : ℕ → Option Described → Option Remembered → Option Remembered
remembers number None before = before
remembers number (Some i) before = Some (record { number = number; name = name_kept i.name before })

-- after a section, of whose interfaces packets of this one were taken, where it had some
abbrev pub before_next : Option ℕ → List Described → Option Remembered → Option Remembered
before_next None interfaces before = before
before_next (Some number) interfaces before = remembers number (slice_get interfaces number) before

-- a section of this byte order begins, with no interfaces
abbrev pub in_section : ByteOrder → Known → Known
in_section order k = record k {
  order = order;
  interfaces = [];
  taken = None;
  before = before_next k.taken k.interfaces k.before;
  named = None;
}

-- the number is known, and this one
abbrev pub is_number : Option ℕ → ℕ → Bool
is_number None number = false
is_number (Some known) number = known == number

-- the interface is the chosen one: of those of the chosen name the section's first
abbrev pub is_chosen : Choice → Option ℕ → Described → Bool
is_chosen Any named i = true
is_chosen (Number number) named i = i.number == number
is_chosen (Name name) named i = is_number named i.number

-- the number of the first interface of the chosen name, after one more is described: only the first of a section is chosen
abbrev pub first_named : Choice → Option ℕ → Described → Option ℕ
first_named Any named i = named
first_named (Number number) named i = named
first_named (Name name) (Some first) i = Some first
first_named (Name name) None i = if has_name (name_bytes name) i.name then Some i.number else None

-- the number of the interface that is described next: so many stand before it
abbrev pub next_number : ℕ → Result ℕ BadReason
next_number count = if nat_lt count MAX_INTERFACES then Ok count else Err reasons.TooManyInterfaces

-- one more interface is described, and then this is the number of the first of the chosen name
abbrev pub with_named : Option ℕ → Described → Known → Known
with_named named i k =
    record k { interfaces = k.interfaces ++ (i ∷ []); named = named; described = k.described || is_chosen k.choice named i }

-- one more interface is described
abbrev pub with_interface : Described → Known → Known
with_interface i k = with_named (first_named k.choice k.named i) i k

-- ---- packets

-- two names are equal; where one is missing, what the numbers say
abbrev pub same_name : Option (List ℕ) → Option (List ℕ) → Bool → Bool
same_name (Some a) (Some b) same_number = bytes_eq a b
same_name (Some a) None same_number = same_number
same_name None b same_number = same_number

-- An interface of a later section is the one of earlier sections: sections count their interfaces anew, so it is known by its name, and by its
-- number only where one of the two has no name.
abbrev pub is_same : Remembered → ℕ → Option (List ℕ) → Bool
is_same m number name = same_name m.name name (m.number == number)

abbrev pub taken_if : Bool → Result Role BadReason
taken_if true = Ok roles.Taken
taken_if false = Err reasons.SeveralInterfaces

-- the first packet of a section that is to be taken is of the interface of earlier sections, where there was one
abbrev pub role_after : Option Remembered → ℕ → Option (List ℕ) → Result Role BadReason
role_after None number name = Ok roles.Taken
role_after (Some m) number name = taken_if (is_same m number name)

-- with no choice, packets are of one interface
abbrev pub role_among : Choice → Option ℕ → Option Remembered → ℕ → Option (List ℕ) → Result Role BadReason
role_among Any (Some taken) before number name = taken_if (taken == number)
role_among Any None before number name = role_after before number name
role_among (Number wanted) taken before number name = Ok roles.Taken
role_among (Name wanted) taken before number name = Ok roles.Taken

-- the role of a packet of this number and interface
abbrev pub role_with : Known → ℕ → Described → Result Role BadReason
role_with k number i =
    if is_chosen k.choice k.named i then (if i.ethernet then role_among k.choice k.taken k.before number i.name else Ok roles.Counted) else Ok roles.Skipped

abbrev pub role_at : Known → ℕ → Option Described → Result Role BadReason
role_at k number None = Err reasons.UnknownInterface
role_at k number (Some i) = role_with k number i

-- the role of a packet of the interface of this number
abbrev pub role_of : Known → ℕ → Result Role BadReason
role_of k number = role_at k number (slice_get k.interfaces number)

-- a packet of the interface of this number was taken
abbrev pub with_taken : ℕ → Known → Known
with_taken number k = record k { taken = Some number }

-- the interface of this number had a packet
abbrev pub noted : ℕ → Role → Known → Known
noted number roles.Taken k = with_taken number k
noted number roles.Counted k = k
noted number roles.Skipped k = k

abbrev pub stamp_from : Option ℕ → Result ℕ BadReason
stamp_from None = Err reasons.StampRange
stamp_from (Some time) = Ok time

-- the time of a timestamp of an interface
abbrev pub stamp_with : Option Described → ℕ → Result ℕ BadReason
stamp_with None count = Err reasons.UnknownInterface
stamp_with (Some i) count = stamp_from (time_of i.resolution i.offset count)

-- the time of a timestamp of the interface of this number
abbrev pub stamp_of : Known → ℕ → ℕ → Result ℕ BadReason
stamp_of k number count = stamp_with (slice_get k.interfaces number) count
