-- Interface descriptions (draft-ietf-opsawg-pcapng, section "Interface Description Block"), and the time of a timestamp.
use Rattle.std.specs.Prelude.{ℕ, ◌+◌, ◌-◌, ◌*◌, ◌/◌, ◌^◌, Bool, false, bytes_eq, List, [], ◌∷◌, length, take, drop, slice_range, Option, Some, None, Result, Ok, Err, nat_lt, nat_le, ◌==◌, if◌then◌else◌}
use Rattle.pcap_io.specs.Layout.{number_in}
use Rattle.pcap_io.specs.declared.layout.ByteOrder.{ByteOrder}
use Rattle.pcap_io.specs.declared.recording.BadReason.{BadReason}
use Rattle.pcap_io.specs.declared.recording.BadReason.TheVariants.{BlockBounds}
use Rattle.pcapng.specs.Options.{Options, options_of, value_of}
use Rattle.pcapng.specs.declared.choice.InterfaceName.{InterfaceName}
use Rattle.pcapng.specs.declared.choice.TheConstants.{MAX_NAME_LEN}
use Rattle.pcapng.specs.declared.interface.Interface.{Interface}
use Rattle.pcapng.specs.declared.interface.Offset.{Offset}
use Rattle.pcapng.specs.declared.interface.Offset.TheVariants.{Later, Earlier}
use Rattle.pcapng.specs.declared.interface.Resolution.{Resolution}
use Rattle.pcapng.specs.declared.interface.Resolution.TheVariants.{Decimal, Binary}

-- The facts of an interface that its description says.
pub record Described : Type 0 where
  -- its number in its section, from 0
  pub number : ℕ
  -- if_name, where it is no longer than a name that can be chosen
  pub name : Option (List ℕ)
  pub ethernet : Bool
  pub resolution : Resolution
  pub offset : Offset

-- a name's bytes
abbrev pub name_bytes : InterfaceName → List ℕ
name_bytes name = take name.len name.bytes

abbrev pub bytes_of_name : Option InterfaceName → Option (List ℕ)
bytes_of_name None = None
bytes_of_name (Some name) = Some (name_bytes name)

-- it is this name
abbrev pub has_name : List ℕ → Option (List ℕ) → Bool
has_name name None = false
has_name name (Some own) = bytes_eq own name

-- the description of an interface
abbrev pub described_of : Interface → Described
described_of i = record {
  number = i.number;
  name = bytes_of_name i.name;
  ethernet = i.ethernet;
  resolution = i.resolution;
  offset = i.offset;
}

-- ---- options

-- if_name, code 2
abbrev pub name_from : Option (List ℕ) → Option (List ℕ)
name_from None = None
name_from (Some name) = if nat_le (length name) MAX_NAME_LEN then Some name else None

-- the part of a second that timestamps count: where the top bit is set, the rest is the power of 2, else the number is that of 10
abbrev pub resolution_of : ℕ → Resolution
resolution_of value = if nat_lt value 128 then Decimal value else Binary (value - 128)

-- if_tsresol, code 9, of one byte: 10^-6 where there is none. None: it has another length.
abbrev pub resolution_from : Option (List ℕ) → Option Resolution
resolution_from None = Some (Decimal 6)
resolution_from (Some []) = None
resolution_from (Some (value ∷ [])) = Some (resolution_of value)
resolution_from (Some (value ∷ next ∷ rest)) = None

-- seconds, in two's complement of 64 bits
abbrev pub offset_of : ℕ → Offset
offset_of value = if nat_lt value (2 ^ 63) then Later value else Earlier (2 ^ 64 - value)

-- if_tsoffset, code 14, of eight bytes: 0 where there is none. None: it has another length.
abbrev pub offset_from : ByteOrder → Option (List ℕ) → Option Offset
offset_from order None = Some (Later 0)
offset_from order (Some value) = if length value == 8 then Some (offset_of (number_in order 8 value)) else None

abbrev pub described_by : ℕ → Bool → Option (List ℕ) → Option Resolution → Option Offset → Result Described BadReason
described_by number ethernet name None offset = Err BlockBounds
described_by number ethernet name (Some resolution) None = Err BlockBounds
described_by number ethernet name (Some resolution) (Some offset) =
    Ok (record { number = number; name = name; ethernet = ethernet; resolution = resolution; offset = offset })

abbrev pub described_with : ByteOrder → ℕ → Bool → Options → Result Described BadReason
described_with order number ethernet options =
    described_by number ethernet (name_from (value_of 2 options)) (resolution_from (value_of 9 options)) (offset_from order (value_of 14 options))

-- the options of a whole description
abbrev pub interface_options : ByteOrder → List ℕ → Options
interface_options order block = options_of order (slice_range block 16 (length block - 4))

-- The interface of this number that a whole block describes. Link type 1 is Ethernet.
abbrev pub interface_of : ByteOrder → ℕ → List ℕ → Result Described BadReason
interface_of order number block = described_with order number (number_in order 2 (drop 8 block) == 1) (interface_options order block)

-- ---- the time of a timestamp

-- how many counts make a second
abbrev pub counts_per_second : Resolution → ℕ
counts_per_second (Decimal power) = 10 ^ power
counts_per_second (Binary power) = 2 ^ power

-- so many counts in nanoseconds, cut down to whole ones
abbrev pub nanoseconds_of : Resolution → ℕ → ℕ
nanoseconds_of resolution count = count * 10 ^ 9 / counts_per_second resolution

-- a time from 1970 on, and before second 2^32
abbrev pub in_range : ℕ → Option ℕ
in_range time = if nat_lt time (2 ^ 32 * 1000000000) then Some time else None

-- so many nanoseconds, with an offset. None: before 1970, or from second 2^32 on
abbrev pub time_with : Offset → ℕ → Option ℕ
time_with (Later seconds) nanoseconds = in_range (nanoseconds + seconds * 1000000000)
time_with (Earlier seconds) nanoseconds =
    if nat_lt nanoseconds (seconds * 1000000000) then None else in_range (nanoseconds - seconds * 1000000000)

-- the time of a timestamp in nanoseconds since 1970
abbrev pub time_of : Resolution → Offset → ℕ → Option ℕ
time_of resolution offset count = time_with offset (nanoseconds_of resolution count)
