-- Bytes are given for bytes.
use Rattle.std.proofs.Common.{◌≡◌, ℕ, zero, suc, ◌+◌, ◌-◌, ◌/◌, ◌%◌, ◌<◌, Bool, true, false, if◌then◌else◌, ◌==◌, List, [], ◌∷◌, ◌++◌, length, take, drop, slice_range, nat_lt, Option, Some, None, IfSome, Result, Ok, Err, refl, subst, arith}
use Rattle.std.proofs.Common.{lit<}
use Rattle.std.specs.Int.{byte_at, bytes_high_first, bytes_low_first}
use Rattle.byteorder.specs.Endian.{big_number}
use Rattle.pcap_io.proofs.Bytes.{bytes_of-from}
use Rattle.pcap_io.proofs.PacketBytes.{IsBytes-drop}
use Rattle.pcap_io.proofs.Parse.{IsBytes-take}
use Rattle.pcap_io.specs.Bytes.{are_bytes-true, IsBytes, bytes_of}
use Rattle.pcap_io.specs.Recording.{header_bytes}
use Rattle.pcap_io.specs.declared.layout.ByteOrder.{ByteOrder}
use Rattle.pcap_io.specs.declared.layout.ByteOrder.TheVariants.{Little}
use Rattle.pcap_io.specs.declared.recording.BadReason.{BadReason}
use Rattle.pcap_io.specs.declared.recording.BadReason.TheVariants.{NoSuchInterface}
use Rattle.pcap_io.specs.declared.told.Told.TheVariants as tolds
use Rattle.pcapng.proofs.Orders.{unless_failed}
use Rattle.pcapng.specs.Block.{fields_of, interface_fault, lengths_agree, packet_fault, section_fault, start_of, unless}
use Rattle.pcapng.specs.File.{Blocks, Read, as_later, block, blocks_from, blocks_of, blocks_within, cut, described_read, ended, first_of, given_at, given_after, given_for, numbered_read, opened, packet_as, packet_bytes, pcap_of, read_as, read_of, read_with, stamped_read, unreadable}
use Rattle.pcapng.specs.Handed.{given_as, given_of}
use Rattle.pcapng.specs.Interface.{Described}
use Rattle.pcapng.specs.Section.{Known, in_section, next_number, role_of, stamp_of, unknown, with_interface, with_taken}
use Rattle.pcapng.specs.Given.{Given, only, plain}
use Rattle.pcap_io.specs.Capture.{capture_header, capture_layout}
use Rattle.pcapng.specs.Text.{packet_header_bytes}
use Rattle.pcapng.specs.declared.block.BlockKind.{BlockKind}
use Rattle.pcapng.specs.declared.block.BlockKind.TheVariants as kinds
use Rattle.pcapng.specs.declared.block.BlockStart.{BlockStart}
use Rattle.pcapng.specs.declared.block.FirstSection.{FirstSection}
use Rattle.pcapng.specs.declared.block.FirstSection.TheVariants as firsts
use Rattle.pcapng.specs.declared.block.PacketFields.{PacketFields}
use Rattle.pcapng.specs.declared.block.StartFault.{StartFault}
use Rattle.pcapng.specs.declared.choice.Choice.{Choice}
use Rattle.pcapng.specs.declared.section.Role.{Role}
use Rattle.pcapng.specs.declared.section.Role.TheVariants as roles

none : IsBytes []
none i = lit< tt

one : (x : ℕ) (xs : List ℕ) → x < 256 → IsBytes xs → IsBytes (x ∷ xs)
one x xs less rest zero = less
one x xs less rest (suc i) = rest i

both : (xs ys : List ℕ) → IsBytes xs → IsBytes ys → IsBytes (xs ++ ys)
both [] ys p q = q
both (x ∷ xs) ys p q = one x (xs ++ ys) (p zero) (both xs ys (λ i. p (suc i)) q)

fits_byte : (i x : ℕ) → byte_at i x < 256
fits_byte zero x = omega arith
fits_byte (suc i) x = omega arith

low_first : (i n x : ℕ) → IsBytes (bytes_low_first i n x)
low_first i zero x = none
low_first i (suc n) x = one (byte_at i x) (bytes_low_first (suc i) n x) (fits_byte i x) (low_first (suc i) n x)

high_first : (n x : ℕ) → IsBytes (bytes_high_first n x)
high_first zero x = none
high_first (suc n) x = one (byte_at n x) (bytes_high_first n x) (fits_byte n x) (high_first n x)

-- ---- headers

header : (seconds fraction captured original : ℕ) → IsBytes (header_bytes capture_layout seconds fraction captured original)
header seconds fraction captured original =
    let a = bytes_low_first 0 4 seconds in
    let b = bytes_low_first 0 4 fraction in
    let c = bytes_low_first 0 4 captured in
    let d = bytes_low_first 0 4 original in
    both a (b ++ (c ++ d)) (low_first 0 4 seconds) (both b (c ++ d) (low_first 0 4 fraction) (both c d (low_first 0 4 captured) (low_first 0 4 original)))

file_header : IsBytes capture_header
unfolding capture_header
file_header = are_bytes-true capture_header refl

-- ---- all that a block gives

none_given : (k : Known) (r : Result (Unit {0}) BadReason) (found : Read) → read_with [] k r ≡ Ok found → IsBytes found.given
none_given k (Err told) found e = cc
none_given k (Ok done) found e =
    let same : record { given = []; known = k } ≡ found = cc in
    subst (λ (f : Read). IsBytes f.given) same none

some_given : (given : List ℕ) (k : Known) (r : Result (Unit {0}) BadReason) (found : Read) → IsBytes given → read_with given k r ≡ Ok found → IsBytes found.given
some_given given k (Err told) found fits e = cc
some_given given k (Ok done) found fits e =
    let same : record { given = given; known = k } ≡ found = cc in
    subst (λ (f : Read). IsBytes f.given) same fits

described : (k : Known) (r : Result Described BadReason) (end : Result (Unit {0}) BadReason) (found : Read) → described_read k r end ≡ Ok found → IsBytes found.given
described k (Err told) end found e = cc
described k (Ok i) end found e = none_given (with_interface i k) end found e

numbered : (k : Known) (o : ByteOrder) (bytes : List ℕ) (r : Result ℕ BadReason) (found : Read) → numbered_read k o bytes r ≡ Ok found → IsBytes found.given
numbered k o bytes (Err told) found e = cc
numbered k o bytes (Ok number) found e = described k _ (unless (interface_fault o bytes)) found e

stamped : (k : Known) (o : ByteOrder) (fields : PacketFields) (bytes : List ℕ) (r : Result ℕ BadReason) (found : Read) → IsBytes bytes
    → stamped_read k o fields bytes r ≡ Ok found → IsBytes found.given
stamped k o fields bytes (Err told) found fits e = cc
stamped k o fields bytes (Ok time) found fits e =
    some_given (packet_bytes fields bytes time) (with_taken fields.interface k) (unless (packet_fault o fields.captured_len bytes)) found
    (both (packet_header_bytes time fields.captured_len fields.original_len) (slice_range bytes 28 (28 + fields.captured_len))
    (header (time / 1000000000) (time % 1000000000) fields.captured_len fields.original_len)
    (IsBytes-take ((28 + fields.captured_len) - 28) (drop 28 bytes) (IsBytes-drop 28 bytes fits)))
    (unless_failed _ _ _ found e).1

packet : (k : Known) (o : ByteOrder) (fields : PacketFields) (bytes : List ℕ) (r : Result Role BadReason) (found : Read) → IsBytes bytes
    → packet_as k o fields bytes r ≡ Ok found → IsBytes found.given
packet k o fields bytes (Err told) found fits e = cc
packet k o fields bytes (Ok roles.Taken) found fits e = stamped k o fields bytes (stamp_of k fields.interface fields.timestamp) found fits e
packet k o fields bytes (Ok roles.Counted) found fits e = none_given k (unless (packet_fault o fields.captured_len bytes)) found e
packet k o fields bytes (Ok roles.Skipped) found fits e = none_given k (unless (packet_fault o fields.captured_len bytes)) found e

other : (k : Known) (b : Bool) (told : BadReason) (found : Read) → (if b then read_with [] k (Ok tt) else Err told) ≡ Ok found → IsBytes found.given
other k true told found e = none_given k (Ok tt) found e
other k false told found e = cc

as_kind : (kind : BlockKind) (k : Known) (o : ByteOrder) (bytes : List ℕ) (found : Read) → IsBytes bytes → read_as kind k o bytes ≡ Ok found → IsBytes found.given
as_kind kinds.Section k o bytes found fits e = none_given (in_section o k) (as_later (unless (section_fault o bytes))) found e
as_kind kinds.Interface k o bytes found fits e = numbered k o bytes (next_number _) found e
as_kind kinds.Packet k o bytes found fits e = packet k o (fields_of o kinds.Packet bytes) bytes (role_of k _) found fits e
as_kind kinds.ObsoletePacket k o bytes found fits e = packet k o (fields_of o kinds.ObsoletePacket bytes) bytes (role_of k _) found fits e
as_kind kinds.SimplePacket k o bytes found fits e = cc
as_kind kinds.Other k o bytes found fits e = other k (lengths_agree o bytes) _ found e

read_given : (k : Known) (start : BlockStart) (bytes : List ℕ) (found : Read) → IsBytes bytes → read_of k start bytes ≡ Ok found → IsBytes found.given
unfolding read_of
read_given k start bytes found fits e = as_kind start.kind k start.order bytes found fits e

-- ---- the blocks of bytes

-- each block is bytes
abbrev pub AreBytes : Blocks → Type 0
AreBytes ended = Unit {0}
AreBytes cut = Unit {0}
AreBytes (unreadable fault) = Unit {0}
AreBytes (block start bytes rest) = IsBytes bytes × AreBytes rest

if_either : (b : Bool) (x y : Blocks) → AreBytes x → AreBytes y → AreBytes (if b then x else y)
if_either true x y p q = p
if_either false x y p q = q

from_start : (r : Result BlockStart StartFault) (bytes : List ℕ) (rest : ByteOrder → List ℕ → Blocks) → IsBytes bytes
    → ((o : ByteOrder) (more : List ℕ) → IsBytes more → AreBytes (rest o more)) → AreBytes (blocks_from r bytes rest)
from_start (Err fault) bytes rest fits h = tt
from_start (Ok start) bytes rest fits h =
    if_either (nat_lt (length bytes) start.len) cut (block start (take start.len bytes) (rest start.order (drop start.len bytes))) tt
    (IsBytes-take start.len bytes fits, h start.order (drop start.len bytes) (IsBytes-drop start.len bytes fits))

pub within : (n : ℕ) (order : ByteOrder) (bytes : List ℕ) → IsBytes bytes → AreBytes (blocks_within n order bytes)
unfolding blocks_within
within zero order bytes fits = tt
within (suc n) order bytes fits =
    let begun = blocks_from (start_of order bytes) bytes (blocks_within n) in
    if_either (length bytes == 0) ended (if nat_lt (length bytes) 12 then cut else begun) tt
    (if_either (nat_lt (length bytes) 12) cut begun tt
    (from_start (start_of order bytes) bytes (blocks_within n) fits (λ o more p. within n o more p)))

-- ---- all that is given

end : (b : Bool) (x y : Given) → IsBytes x.bytes → IsBytes y.bytes → IsBytes (if b then x else y).bytes
end true x y p q = p
end false x y p q = q

after : (r : Result Read BadReason) (rest : Known → Given) → ((found : Read) → r ≡ Ok found → IsBytes found.given) → ((k : Known) → IsBytes (rest k).bytes)
    → IsBytes (given_after r rest).bytes
after (Err told) rest p q = none
after (Ok read) rest p q = both read.given (rest read.known).bytes (p read refl) (q read.known)

for_blocks : (blocks : Blocks) (k : Known) → AreBytes blocks → IsBytes (given_for k blocks).bytes
for_blocks ended k h = end k.described (only tolds.Nothing) (only (tolds.Bad NoSuchInterface)) none none
for_blocks cut k h = none
for_blocks (unreadable fault) k h = none
for_blocks (block start bytes rest) k h =
    after (read_of k start bytes) (λ known. given_for known rest) (λ found e. read_given k start bytes found h.0 e) (λ known. for_blocks rest known h.1)

at_bytes : (k : Known) (bytes : List ℕ) → IsBytes bytes → IsBytes (given_at k bytes).bytes
unfolding blocks_of
at_bytes k bytes fits = for_blocks (blocks_of k.order bytes) k (within (length bytes) k.order bytes fits)

opened-bytes : (first : FirstSection) (k : Known) (bytes : List ℕ) → IsBytes bytes → IsBytes (opened first k bytes).bytes
opened-bytes (firsts.Needs needed) k bytes fits = none
opened-bytes (firsts.Wrong fault) k bytes fits = none
opened-bytes (firsts.Begins order len) k bytes fits =
    both capture_header _ file_header (at_bytes (in_section order k) (drop len bytes) (IsBytes-drop len bytes fits))

pcap_of-bytes : (k : Known) (bytes : List ℕ) → IsBytes bytes → IsBytes (pcap_of k bytes).bytes
pcap_of-bytes k bytes fits = end (nat_lt (length bytes) 12) (only tolds.Nothing) (opened (first_of bytes) k bytes) none (opened-bytes (first_of bytes) k bytes fits)

given_of-bytes : (choice : Choice) (bytes : List ℕ) → IsBytes bytes → IsBytes (given_of choice bytes).bytes
given_of-bytes choice bytes fits =
    let k = unknown choice Little in
    let magic = big_number 4 (take 4 bytes) in
    end (nat_lt (length bytes) 4) (plain bytes) (given_as magic k bytes) fits
    (end (magic == 0x0a0d0d0a) (pcap_of k bytes) (plain bytes) (pcap_of-bytes k bytes fits) fits)

-- all of it is known
pub given_of-known : (choice : Choice) (known : Option (List ℕ)) → IfSome known IsBytes → IfSome known (λ bytes. bytes_of (given_of choice bytes).bytes ≡ Some (given_of choice bytes).bytes)
given_of-known choice None fits = tt
given_of-known choice (Some bytes) fits = bytes_of-from (given_of choice bytes).bytes (given_of-bytes choice bytes fits)
