-- The packets of a file are those that are read of what is given.
use Rattle.std.proofs.Common.{◌≡◌, ℕ, ◌+◌, ◌-◌, ◌*◌, ◌^◌, ◌<◌, ◌≤◌, max, Bool, true, false, if◌then◌else◌, List, [], ◌∷◌, ◌++◌, length, take, drop, slice_range, flat_map, nat_lt, nat_eq, slice_get, Option, Some, None, Result, Ok, Err, IfOk, inl, inr, refl, sym, ap, ◌∙◌, subst, arith}
use Rattle.std.proofs.lemmas.Bool.{cases_Bool, cases_lt, eq-eqb, le-ltb, lt-ltb, ltb-false, ltb-true, ne_eqb}
use Rattle.std.proofs.lemmas.List.{append-nil, drop_at, length-append, take_at}
use Rattle.std.proofs.lemmas.List.Concat.{flat_map-append}
use Rattle.byteorder.specs.Endian.{big_number}
use Rattle.afdx_frame.specs.declared.bounds.TheConstants.{MAX_SNAPLEN}
use Rattle.pcap_io.proofs.Captures.{header_is_read, header_size}
use Rattle.pcap_io.proofs.Draws.{length-between}
use Rattle.pcap_io.proofs.FileHeader.{header-append}
use Rattle.pcap_io.proofs.PacketBytes.{IsBytes-drop, number_fits}
use Rattle.pcap_io.specs.Bytes.{IsBytes}
use Rattle.pcap_io.specs.Recording as recording
use Rattle.pcap_io.specs.Recording.{AreGood, IsGood, Packet, Parses, ending_at, high_after, packet_bytes}
use Rattle.pcap_io.specs.declared.layout.ByteOrder.{ByteOrder}
use Rattle.pcap_io.specs.declared.layout.ByteOrder.TheVariants.{Little}
use Rattle.pcap_io.specs.declared.layout.HeaderFault.{HeaderFault}
use Rattle.pcap_io.specs.declared.layout.HeaderFault.TheVariants as headers
use Rattle.pcap_io.specs.declared.recording.BadReason.{BadReason}
use Rattle.pcap_io.specs.declared.recording.BadReason.TheVariants as reasons
use Rattle.pcap_io.specs.declared.recording.Ending.{Ending}
use Rattle.pcap_io.specs.declared.recording.Ending.TheVariants.{Bad, Clean}
use Rattle.pcap_io.specs.declared.told.Told.TheVariants as tolds
use Rattle.pcap_io.specs.Told.{told_ending}
use Rattle.pcapng.proofs.GivenBytes.{AreBytes, within}
use Rattle.pcapng.specs.Block.{fields_of, interface_fault, lengths_agree, packet_fault, section_fault, start_of, unless}
use Rattle.pcapng.specs.File.{Blocks, Read, as_later, block, blocks_of, cut, described_read, ended, first_of, given_after, given_at, given_for, numbered_read, opened, packet_as, read_as, read_of, read_with, stamped_read, unreadable}
use Rattle.pcapng.specs.File as file
use Rattle.pcapng.proofs.Files.{given_whole, opened_as, start_facts}
use Rattle.pcapng.proofs.Orders.{read_order, unless_failed}
use Rattle.pcapng.specs.Given.{Given, followed, header_given, only}
use Rattle.pcapng.specs.Handed.{given_of}
use Rattle.pcapng.specs.Interface.{Described, in_range, nanoseconds_of, time_with}
use Rattle.pcapng.specs.Laws.{AreInTime, AreNoHeaders, AreReadable, HoldsPackets, IsPcapng, first_known}
use Rattle.pcapng.specs.Options.{padded_len}
use Rattle.pcapng.specs.Packets.{ending_after, ending_for, packet_at, packet_with, packets_after, packets_as, packets_for, stamped_packet}
use Rattle.pcapng.specs.Section.{Known, in_section, next_number, role_of, stamp_from, stamp_of, stamp_with, unknown, with_interface, with_taken}
use Rattle.pcap_io.specs.Capture.{capture_header, capture_layout}
use Rattle.pcapng.specs.Text.{packet_header_bytes}
use Rattle.pcapng.specs.declared.block.BlockKind.{BlockKind}
use Rattle.pcapng.specs.declared.block.BlockKind.TheVariants as kinds
use Rattle.pcapng.specs.declared.block.BlockStart.{BlockStart}
use Rattle.pcapng.specs.declared.block.FirstSection.{FirstSection}
use Rattle.pcapng.specs.declared.block.FirstSection.TheVariants as firsts
use Rattle.pcapng.specs.declared.block.PacketFields.{PacketFields}
use Rattle.pcapng.specs.declared.choice.Choice.{Choice}
use Rattle.pcapng.specs.declared.interface.Offset.{Offset}
use Rattle.pcapng.specs.declared.interface.Offset.TheVariants.{Earlier, Later}
use Rattle.pcapng.specs.declared.section.Role.{Role}
use Rattle.pcapng.specs.declared.section.Role.TheVariants as roles

-- the bytes of packets in a recording of a capture's layout
texts : List Packet → List ℕ
texts packets = flat_map (packet_bytes capture_layout) packets

-- ---- a block gives its packet

with_given : (given : List ℕ) (k : Known) (r : Result (Unit {0}) BadReason) (found : Read) → read_with given k r ≡ Ok found → found.given ≡ given
with_given given k (Err told) found e = cc
with_given given k (Ok done) found e =
    let same : record { given = given; known = k } ≡ found = cc in
    sym (ap (λ (f : Read). f.given) same)

-- the captured bytes lie within a block in which nothing is wrong
captured-fits : (o : ByteOrder) (captured : ℕ) (bytes given : List ℕ) (k : Known) (found : Read) → read_with given k (unless (packet_fault o captured bytes)) ≡ Ok found
    → 28 + captured ≤ length bytes
captured-fits o captured bytes given k found e = elim (cases_lt (length bytes) (32 + padded_len captured)) [
  | inl short ↦
      let told : packet_fault o captured bytes ≡ Some reasons.BlockBounds = rw (lt-ltb (length bytes) (32 + padded_len captured) short) refl in
      let clash : Err reasons.BlockBounds ≡ Ok found = ap (λ (f : Option BadReason). read_with given k (unless f)) (sym told) ∙ e in
      absurd (cc)
  | inr long ↦ omega (arith, long)
]

-- all that is given for a packet, as a recording has it
given_text : (fields : PacketFields) (bytes : List ℕ) (time : ℕ) → 28 + fields.captured_len ≤ length bytes → file.packet_bytes fields bytes time ≡ texts (packet_at fields bytes time ∷ [])
unfolding texts
given_text fields bytes time within =
    let captured = slice_range bytes 28 (28 + fields.captured_len) in
    let size : length captured ≡ fields.captured_len = omega (arith, length-between 28 (28 + fields.captured_len) bytes within) in
    let whole = packet_header_bytes time (length captured) fields.original_len ++ captured in
    ap (λ (n : ℕ). packet_header_bytes time n fields.original_len ++ captured) (sym size) ∙ sym (append-nil whole)

stamped-text : (k : Known) (o : ByteOrder) (fields : PacketFields) (bytes : List ℕ) (r : Result ℕ BadReason) (found : Read)
    → stamped_read k o fields bytes r ≡ Ok found → found.given ≡ texts (stamped_packet fields bytes r)
stamped-text k o fields bytes (Err told) found e = cc
stamped-text k o fields bytes (Ok time) found e =
    let w = unless_failed (nat_lt MAX_SNAPLEN fields.captured_len) reasons.Length _ found e in
    with_given (file.packet_bytes fields bytes time) (with_taken fields.interface k) (unless (packet_fault o fields.captured_len bytes)) found w.1
    ∙ given_text fields bytes time (captured-fits o fields.captured_len bytes (file.packet_bytes fields bytes time) (with_taken fields.interface k) found w.1)

packet-text : (k : Known) (o : ByteOrder) (fields : PacketFields) (bytes : List ℕ) (r : Result Role BadReason) (found : Read)
    → packet_as k o fields bytes r ≡ Ok found → found.given ≡ texts (packet_with k fields bytes r)
unfolding texts
packet-text k o fields bytes (Err told) found e = cc
packet-text k o fields bytes (Ok roles.Taken) found e = stamped-text k o fields bytes (stamp_of k fields.interface fields.timestamp) found e
packet-text k o fields bytes (Ok roles.Counted) found e = with_given [] k (unless (packet_fault o fields.captured_len bytes)) found e
packet-text k o fields bytes (Ok roles.Skipped) found e = with_given [] k (unless (packet_fault o fields.captured_len bytes)) found e

described-none : (k : Known) (r : Result Described BadReason) (end : Result (Unit {0}) BadReason) (found : Read) → described_read k r end ≡ Ok found → found.given ≡ []
described-none k (Err told) end found e = cc
described-none k (Ok i) end found e = with_given [] (with_interface i k) end found e

numbered-none : (k : Known) (o : ByteOrder) (bytes : List ℕ) (r : Result ℕ BadReason) (found : Read) → numbered_read k o bytes r ≡ Ok found → found.given ≡ []
numbered-none k o bytes (Err told) found e = cc
numbered-none k o bytes (Ok number) found e = described-none k _ (unless (interface_fault o bytes)) found e

other-none : (k : Known) (b : Bool) (told : BadReason) (found : Read) → (if b then read_with [] k (Ok tt) else Err told) ≡ Ok found → found.given ≡ []
other-none k true told found e = with_given [] k (Ok tt) found e
other-none k false told found e = cc

as-text : (kind : BlockKind) (k : Known) (o : ByteOrder) (bytes : List ℕ) (found : Read) → read_as kind k o bytes ≡ Ok found → found.given ≡ texts (packets_as kind k o bytes)
unfolding texts
as-text kinds.Section k o bytes found e = with_given [] (in_section o k) (as_later (unless (section_fault o bytes))) found e
as-text kinds.Interface k o bytes found e = numbered-none k o bytes (next_number _) found e
as-text kinds.Packet k o bytes found e = packet-text k o (fields_of o kinds.Packet bytes) bytes (role_of k _) found e
as-text kinds.ObsoletePacket k o bytes found e = packet-text k o (fields_of o kinds.ObsoletePacket bytes) bytes (role_of k _) found e
as-text kinds.SimplePacket k o bytes found e = cc
as-text kinds.Other k o bytes found e = other-none k (lengths_agree o bytes) _ found e

read-text : (k : Known) (start : BlockStart) (bytes : List ℕ) (found : Read) → read_of k start bytes ≡ Ok found
    → found.given ≡ texts (packets_as start.kind k start.order bytes)
unfolding read_of
read-text k start bytes found e = as-text start.kind k start.order bytes found e

-- ---- all that is given for blocks

after-text : (r : Result Read BadReason) (own : List Packet) (packets : Known → List Packet) (given : Known → Given)
    → ((found : Read) → r ≡ Ok found → found.given ≡ texts own) → ((k : Known) → (given k).bytes ≡ texts (packets k))
    → (given_after r given).bytes ≡ texts (packets_after r own packets)
unfolding texts
after-text (Err told) own packets given gives rest = refl
after-text (Ok read) own packets given gives rest =
    let k = read.known in
    ap (λ (l : List ℕ). l ++ (given k).bytes) (gives read refl)
    ∙ (ap (λ (l : List ℕ). texts own ++ l) (rest k) ∙ sym (flat_map-append (packet_bytes capture_layout) own (packets k)))

end-text : (b : Bool) → (if b then only tolds.Nothing else only (tolds.Bad reasons.NoSuchInterface)).bytes ≡ []
end-text true = refl
end-text false = refl

given-text : (blocks : Blocks) (k : Known) → (given_for k blocks).bytes ≡ texts (packets_for k blocks)
unfolding texts
given-text ended k = end-text k.described
given-text cut k = refl
given-text (unreadable fault) k = refl
given-text (block start bytes rest) k =
    after-text (read_of k start bytes) (packets_as start.kind k start.order bytes) (λ known. packets_for known rest)
    (λ known. given_for known rest) (λ found e. read-text k start bytes found e) (λ known. given-text rest known)

-- ---- good packets

-- all that a header of a recording can say of a packet
Fits : Packet → Type 0
Fits p = (length p.bytes ≤ MAX_SNAPLEN) × (p.seconds < 2 ^ 32) × (p.original_len < 2 ^ 32) × (p.fraction < 1000000000)

AllFit : List Packet → Type 0
unfolding Fits
AllFit [] = Unit {0}
AllFit (p ∷ ps) = Fits p × AllFit ps

all_append : (ps qs : List Packet) → AllFit ps → AllFit qs → AllFit (ps ++ qs)
unfolding AllFit
all_append [] qs a b = b
all_append (p ∷ ps) qs a b = (a.0, all_append ps qs a.1 b)

range-bound : (t : ℕ) → IfOk (stamp_from (in_range t)) (λ time. time < 2 ^ 32 * 1000000000)
range-bound t = elim (cases_Bool (nat_lt t (2 ^ 32 * 1000000000))) [
  | inl less ↦ rw less (ltb-true t (2 ^ 32 * 1000000000) less)
  | inr more ↦ rw more tt
]

unless-bound : (b : Bool) (t : ℕ) → IfOk (stamp_from (if b then None else in_range t)) (λ time. time < 2 ^ 32 * 1000000000)
unless-bound true t = tt
unless-bound false t = range-bound t

time-bound : (offset : Offset) (n : ℕ) → IfOk (stamp_from (time_with offset n)) (λ time. time < 2 ^ 32 * 1000000000)
time-bound (Later seconds) n = range-bound (n + seconds * 1000000000)
time-bound (Earlier seconds) n = unless-bound (nat_lt n (seconds * 1000000000)) (n - seconds * 1000000000)

stamp-bound : (i : Option Described) (count : ℕ) → IfOk (stamp_with i count) (λ time. time < 2 ^ 32 * 1000000000)
stamp-bound None count = tt
stamp-bound (Some i) count = time-bound i.offset (nanoseconds_of i.resolution count)

stamped-fits : (k : Known) (o : ByteOrder) (fields : PacketFields) (bytes : List ℕ) (r : Result ℕ BadReason) (found : Read)
    → stamped_read k o fields bytes r ≡ Ok found → fields.original_len < 2 ^ 32 → IfOk r (λ time. time < 2 ^ 32 * 1000000000) → AllFit (stamped_packet fields bytes r)
unfolding Fits AllFit
stamped-fits k o fields bytes (Err told) found e original bound = tt
stamped-fits k o fields bytes (Ok time) found e original bound =
    let w = unless_failed (nat_lt MAX_SNAPLEN fields.captured_len) reasons.Length _ found e in
    let few : fields.captured_len ≤ MAX_SNAPLEN = ltb-false MAX_SNAPLEN fields.captured_len w.0 in
    let within = captured-fits o fields.captured_len bytes (file.packet_bytes fields bytes time) (with_taken fields.interface k) found w.1 in
    let size = length-between 28 (28 + fields.captured_len) bytes within in
    ((omega (arith, size, few), omega (arith, bound), original, omega arith), tt)

packet-fits : (k : Known) (o : ByteOrder) (fields : PacketFields) (bytes : List ℕ) (r : Result Role BadReason) (found : Read)
    → packet_as k o fields bytes r ≡ Ok found → fields.original_len < 2 ^ 32 → AllFit (packet_with k fields bytes r)
unfolding AllFit
packet-fits k o fields bytes (Err told) found e original = tt
packet-fits k o fields bytes (Ok roles.Taken) found e original =
    stamped-fits k o fields bytes (stamp_of k fields.interface fields.timestamp) found e original
    (stamp-bound (slice_get k.interfaces fields.interface) fields.timestamp)
packet-fits k o fields bytes (Ok roles.Counted) found e original = tt
packet-fits k o fields bytes (Ok roles.Skipped) found e original = tt

as-fits : (kind : BlockKind) (k : Known) (o : ByteOrder) (bytes : List ℕ) (found : Read) → IsBytes bytes → read_as kind k o bytes ≡ Ok found
    → AllFit (packets_as kind k o bytes)
unfolding AllFit
as-fits kinds.Packet k o bytes found fits e =
    packet-fits k o (fields_of o kinds.Packet bytes) bytes (role_of k _) found e (number_fits o (drop 24 bytes) (IsBytes-drop 24 bytes fits))
as-fits kinds.ObsoletePacket k o bytes found fits e =
    packet-fits k o (fields_of o kinds.ObsoletePacket bytes) bytes (role_of k _) found e (number_fits o (drop 24 bytes) (IsBytes-drop 24 bytes fits))
as-fits kind k o bytes found fits e = tt

read-fits : (k : Known) (start : BlockStart) (bytes : List ℕ) (found : Read) → IsBytes bytes → read_of k start bytes ≡ Ok found
    → AllFit (packets_as start.kind k start.order bytes)
unfolding read_of
read-fits k start bytes found fits e = as-fits start.kind k start.order bytes found fits e

after-fit : (r : Result Read BadReason) (own : List Packet) (rest : Known → List Packet) → ((found : Read) → r ≡ Ok found → AllFit own)
    → ((k : Known) → AllFit (rest k)) → AllFit (packets_after r own rest)
unfolding AllFit
after-fit (Err told) own rest p q = tt
after-fit (Ok read) own rest p q = all_append own (rest read.known) (p read refl) (q read.known)

blocks-fit : (blocks : Blocks) (k : Known) → AreBytes blocks → AllFit (packets_for k blocks)
unfolding AllFit
blocks-fit ended k h = tt
blocks-fit cut k h = tt
blocks-fit (unreadable fault) k h = tt
blocks-fit (block start bytes rest) k h =
    after-fit (read_of k start bytes) (packets_as start.kind k start.order bytes) (λ known. packets_for known rest)
    (λ found e. read-fits k start bytes found h.0 e) (λ known. blocks-fit rest known h.1)

good_from : (late high : ℕ) (ps : List Packet) → AllFit ps → AreNoHeaders ps → AreInTime late high ps → AreGood capture_layout late high ps
unfolding Fits AllFit
good_from late high [] a n b = tt
good_from late high (p ∷ ps) a n b = (
  record { few_bytes = a.0.0; seconds_fit = a.0.1; original_len_fits = a.0.2; within_second = a.0.3; no_file_header = n.0; in_time = b.0 },
  good_from late (max high (recording.stamp_of capture_layout p)) ps a.1 n.1 b.1,
)

-- ---- the ending

-- below the number that is read
module _ (most n : ℕ) (below : nat_eq n most ≡ false) where
  end-told : (b : Bool) → told_ending (if b then only tolds.Nothing else only (tolds.Bad reasons.NoSuchInterface)).told most n ≡ (if b then Clean n else Bad n reasons.NoSuchInterface)
  end-told true = refl
  end-told false = rw below refl

  after-told : (r : Result Read BadReason) (given : Known → Given) (ending : Known → Ending) → ((k : Known) → told_ending (given k).told most n ≡ ending k)
      → told_ending (given_after r given).told most n ≡ ending_after n r ending
  after-told (Err told) given ending rest = rw below refl
  after-told (Ok read) given ending rest = rest read.known

  blocks-told : (blocks : Blocks) (k : Known) → told_ending (given_for k blocks).told most n ≡ ending_for n k blocks
  blocks-told ended k = end-told k.described
  blocks-told cut k = rw below refl
  blocks-told (unreadable fault) k = rw below refl
  blocks-told (block start bytes rest) k =
      after-told (read_of k start bytes) (λ known. given_for known rest) (λ known. ending_for n known rest) (λ known. blocks-told rest known)

-- ---- a file

pub file_parses : (k : Known) (bytes : List ℕ) (most late : ℕ) (packets : List Packet) → IsBytes bytes → packets ≡ packets_for k (blocks_of k.order bytes)
    → AreReadable most late packets
    → Parses capture_layout most late (given_at k bytes).told 0 0 (given_at k bytes).bytes packets [] (ending_for (length packets) k (blocks_of k.order bytes))
unfolding texts blocks_of
file_parses k bytes most late packets fits e readable =
    let blocks = blocks_of k.order bytes in
    let n = length packets in
    let zero_n : n ≡ 0 + n = omega arith in
    let all : AllFit packets = subst AllFit (sym e) (blocks-fit blocks k (within (length bytes) k.order bytes fits)) in
    record {
      complete = given-text blocks k ∙ (ap (λ (ps : List Packet). flat_map (packet_bytes capture_layout) ps) (sym e) ∙ sym (append-nil (flat_map (packet_bytes capture_layout) packets)));
      good = good_from late 0 packets all readable.1 readable.0;
      bounded = omega (arith, readable.2);
      ends = ap (λ (m : ℕ). Some (told_ending (given_for k blocks).told most m)) (sym zero_n)
          ∙ ap Some (blocks-told most n (ne_eqb n most (λ same. absurd (omega (arith, readable.2, same)))) blocks k);
    }

-- all that is given for a file whose first section header is judged
pub given_opened : (choice : Choice) (bytes : List ℕ) (first : FirstSection) → IsPcapng bytes → first_of bytes ≡ first
    → given_of choice bytes ≡ opened first (unknown choice Little) bytes
given_opened choice bytes first pcapng e =
    let k = unknown choice Little in
    let long : nat_lt (length bytes) 4 ≡ false = le-ltb (length bytes) 4 (omega (arith, pcapng.0)) in
    let magic : nat_eq (big_number 4 (take 4 bytes)) 0x0a0d0d0a ≡ true = eq-eqb _ _ pcapng.1 in
    rw (long, magic) (opened_as k bytes first pcapng.0 e)

pub told_fault : (choice : Choice) (bytes : List ℕ) (fault : HeaderFault) → IsPcapng bytes → first_of bytes ≡ firsts.Wrong fault
    → header_given (given_of choice bytes) ≡ Err fault
told_fault choice bytes fault pcapng e = ap header_given (given_opened choice bytes (firsts.Wrong fault) pcapng e)

pub told_short : (choice : Choice) (bytes : List ℕ) (needed : ℕ) → IsPcapng bytes → first_of bytes ≡ firsts.Needs needed
    → header_given (given_of choice bytes) ≡ Err headers.Short
told_short choice bytes needed pcapng e = ap header_given (given_opened choice bytes (firsts.Needs needed) pcapng e)

pub read_file : (choice : Choice) (bytes : List ℕ) (order : ByteOrder) (len most late : ℕ) (blocks : Blocks) (packets : List Packet) → IsBytes bytes
    → IsPcapng bytes → first_of bytes ≡ firsts.Begins order len → blocks ≡ blocks_of order (drop len bytes) → packets ≡ packets_for (first_known choice order) blocks
    → AreReadable most late packets
    → (header_given (given_of choice bytes) ≡ Ok capture_layout)
    × HoldsPackets most late (given_of choice bytes) packets (ending_for (length packets) (first_known choice order) blocks)
read_file choice bytes order len most late blocks packets fits pcapng e these own readable =
    let k = first_known choice order in
    let rest = drop len bytes in
    let more = given_at k rest in
    let given : given_of choice bytes ≡ followed capture_header more = given_opened choice bytes (firsts.Begins order len) pcapng e in
    let behind : drop 24 (capture_header ++ more.bytes) ≡ more.bytes = drop_at capture_header more.bytes 24 header_size in
    let packets_are : packets ≡ packets_for k (blocks_of order rest) = own ∙ ap (packets_for k) these in
    let parse = file_parses k rest most late packets (IsBytes-drop len bytes fits) packets_are readable in
    let ending = ending_for (length packets) k (blocks_of order rest) in (
      ap header_given given ∙ header-append more.told capture_header more.bytes header_size ∙ header_is_read more.told,
      subst (λ (b : Blocks). HoldsPackets most late (given_of choice bytes) packets (ending_for (length packets) k b)) (sym these)
          (subst (λ (g : Given). HoldsPackets most late g packets ending) (sym given)
          (subst (λ (l : List ℕ). Parses capture_layout most late more.told 0 0 l packets [] ending) (sym behind) parse)),
    )

-- a whole block at the front
pub reads_first : (k : Known) (bytes more : List ℕ) (start : BlockStart) (read : Read) → 12 ≤ length bytes → start_of k.order bytes ≡ Ok start
    → start.len ≡ length bytes → read_of k start bytes ≡ Ok read → given_at k (bytes ++ more) ≡ followed read.given (given_at read.known more)
reads_first k bytes more start read some e size is =
    let facts = start_facts k.order bytes start e in
    let order : read.known.order ≡ start.order = read_order k start bytes read is facts.1 in
    let front : take start.len (bytes ++ more) ≡ bytes = take_at bytes more start.len (sym size) in
    let behind : drop start.len (bytes ++ more) ≡ more = drop_at bytes more start.len (sym size) in
    let rest = λ (known : Known). given_for known (blocks_of start.order (drop start.len (bytes ++ more))) in
    given_whole k bytes more start some e (omega (arith, size, length-append bytes more))
    ∙ (ap (λ (r : Result Read BadReason). given_after r rest) (ap (read_of k start) front ∙ is)
    ∙ (ap (λ (l : List ℕ). followed read.given (given_for read.known (blocks_of start.order l))) behind
    ∙ ap (λ (o : ByteOrder). followed read.given (given_for read.known (blocks_of o more))) (sym order)))
