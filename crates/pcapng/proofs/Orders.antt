-- The byte order that is known after a block is that of the block.
use Rattle.std.proofs.Common.{◌≡◌, ◌≢◌, ℕ, Bool, true, false, if◌then◌else◌, List, [], Result, Ok, Err, refl, sym, ap, ◌∙◌}
use Rattle.pcap_io.specs.declared.layout.ByteOrder.{ByteOrder}
use Rattle.pcap_io.specs.declared.recording.BadReason.{BadReason}
use Rattle.pcapng.specs.Block.{fields_of, interface_fault, lengths_agree, packet_fault, section_fault, unless}
use Rattle.pcapng.specs.File.{Read, as_later, described_read, numbered_read, packet_as, read_as, read_of, read_with, stamped_read}
use Rattle.pcapng.specs.Interface.{Described}
use Rattle.pcapng.specs.Section.{Known, in_section, next_number, role_of, stamp_of, with_interface}
use Rattle.pcapng.specs.declared.block.BlockKind.{BlockKind}
use Rattle.pcapng.specs.declared.block.BlockKind.TheVariants as kinds
use Rattle.pcapng.specs.declared.block.BlockStart.{BlockStart}
use Rattle.pcapng.specs.declared.block.PacketFields.{PacketFields}
use Rattle.pcapng.specs.declared.section.Role.{Role}
use Rattle.pcapng.specs.declared.section.Role.TheVariants as roles

read_with-known : (r : Result (Unit {0}) BadReason) (given : List ℕ) (k : Known) (found : Read) → read_with given k r ≡ Ok found → found.known ≡ k
read_with-known (Err reason) given k found e = cc
read_with-known (Ok done) given k found e =
    let same : record { given = given; known = k } ≡ found = cc in
    sym (ap (λ (f : Read). f.known) same)

-- the reading where no test fails
pub unless_failed : (b : Bool) (reason : BadReason) (r : Result Read BadReason) (found : Read) → (if b then Err reason else r) ≡ Ok found
    → (b ≡ false) × (r ≡ Ok found)
unless_failed true reason r found e = cc
unless_failed false reason r found e = (refl, e)

described-order : (k : Known) (r : Result Described BadReason) (end : Result (Unit {0}) BadReason) (found : Read) → described_read k r end ≡ Ok found
    → found.known.order ≡ k.order
described-order k (Err reason) end found e = cc
described-order k (Ok i) end found e = ap (λ (m : Known). m.order) (read_with-known end [] (with_interface i k) found e)

numbered-order : (k : Known) (o : ByteOrder) (bytes : List ℕ) (r : Result ℕ BadReason) (found : Read) → numbered_read k o bytes r ≡ Ok found
    → found.known.order ≡ k.order
numbered-order k o bytes (Err reason) found e = cc
numbered-order k o bytes (Ok number) found e = described-order k _ (unless (interface_fault o bytes)) found e

stamped-order : (k : Known) (o : ByteOrder) (fields : PacketFields) (bytes : List ℕ) (r : Result ℕ BadReason) (found : Read)
    → stamped_read k o fields bytes r ≡ Ok found → found.known.order ≡ k.order
stamped-order k o fields bytes (Err reason) found e = cc
stamped-order k o fields bytes (Ok time) found e =
    ap (λ (m : Known). m.order) (read_with-known (unless (packet_fault o fields.captured_len bytes)) _ _ found (unless_failed _ _ _ found e).1)

packet-order : (k : Known) (o : ByteOrder) (fields : PacketFields) (bytes : List ℕ) (r : Result Role BadReason) (found : Read)
    → packet_as k o fields bytes r ≡ Ok found → found.known.order ≡ k.order
packet-order k o fields bytes (Err reason) found e = cc
packet-order k o fields bytes (Ok roles.Taken) found e = stamped-order k o fields bytes (stamp_of k fields.interface fields.timestamp) found e
packet-order k o fields bytes (Ok roles.Counted) found e = ap (λ (m : Known). m.order) (read_with-known (unless (packet_fault o fields.captured_len bytes)) [] k found e)
packet-order k o fields bytes (Ok roles.Skipped) found e = ap (λ (m : Known). m.order) (read_with-known (unless (packet_fault o fields.captured_len bytes)) [] k found e)

other-order : (k : Known) (b : Bool) (reason : BadReason) (found : Read) → (if b then read_with [] k (Ok tt) else Err reason) ≡ Ok found → found.known.order ≡ k.order
other-order k true reason found e = ap (λ (m : Known). m.order) (read_with-known (Ok tt) [] k found e)
other-order k false reason found e = cc

read_as-order : (kind : BlockKind) (k : Known) (o : ByteOrder) (bytes : List ℕ) (found : Read) → read_as kind k o bytes ≡ Ok found
    → (kind ≢ kinds.Section → o ≡ k.order) → found.known.order ≡ o
read_as-order kinds.Section k o bytes found e own =
    ap (λ (m : Known). m.order) (read_with-known (as_later (unless (section_fault o bytes))) [] (in_section o k) found e)
read_as-order kinds.Interface k o bytes found e own = numbered-order k o bytes (next_number _) found e ∙ sym (own (λ section. cc))
read_as-order kinds.Packet k o bytes found e own =
    packet-order k o (fields_of o kinds.Packet bytes) bytes (role_of k _) found e ∙ sym (own (λ section. cc))
read_as-order kinds.ObsoletePacket k o bytes found e own =
    packet-order k o (fields_of o kinds.ObsoletePacket bytes) bytes (role_of k _) found e ∙ sym (own (λ section. cc))
read_as-order kinds.SimplePacket k o bytes found e own = cc
read_as-order kinds.Other k o bytes found e own = other-order k (lengths_agree o bytes) _ found e ∙ sym (own (λ section. cc))

pub read_order : (k : Known) (start : BlockStart) (bytes : List ℕ) (found : Read) → read_of k start bytes ≡ Ok found
    → (start.kind ≢ kinds.Section → start.order ≡ k.order) → found.known.order ≡ start.order
unfolding read_of
read_order k start bytes found e own = read_as-order start.kind k start.order bytes found e own
