-- The effect of a converter's steps on what is given.
use Rattle.std.proofs.Common.{◌≡◌, ◌≢◌, ℕ, ◌+◌, ◌-◌, ◌<◌, ◌≤◌, Bool, true, false, if◌then◌else◌, ◌==◌, List, [], ◌∷◌, ◌++◌, length, take, drop, slice_range, nat_lt, nat_eq, Result, Ok, Err, Vec, Global, ◌⊎◌, inl, inr, refl, sym, ap, ◌∙◌, subst, arith}
use Rattle.std.proofs.lemmas.Bool.{cases_lt, eq-eqb, le-ltb, lt-ltb, ne_eqb}
use Rattle.std.proofs.lemmas.List.{append-nil, drop-append-le, drop-drop, drop-take, length-append, length-drop, length-take-le, take-append-drop, take-append-le, take-take}
use Rattle.afdx_frame.specs.declared.bounds.TheConstants.{MAX_SNAPLEN}
use Rattle.pcap_io.proofs.Draws.{length-between}
use Rattle.pcap_io.specs.Layout.{number_in}
use Rattle.pcap_io.specs.declared.layout.ByteOrder.{ByteOrder}
use Rattle.pcap_io.specs.declared.recording.BadReason.{BadReason}
use Rattle.pcap_io.specs.declared.recording.BadReason.TheVariants.{BlockLengthsDiffer, SimplePacket}
use Rattle.pcap_io.specs.declared.told.Told.TheVariants as tolds
use Rattle.pcapng.proofs.Files.{given_few, given_part, given_whole, given_wrong, number_in-append, opened_whole, start_facts}
use Rattle.pcapng.proofs.Handed.{at_stage, drop_slice, from_start}
use Rattle.pcapng.proofs.Orders.{read_order}
use Rattle.pcapng.specs.Block.{fields_of, interface_fault, lengths_agree, packet_fault, start_of, start_reason, unless}
use Rattle.pcapng.specs.File.{Read, blocks_of, described_read, first_of, given_after, given_at, given_for, interface_read, numbered_read, packet_as, packet_bytes, packet_read, read_as, read_of, read_with, section_read, stamped_read}
use Rattle.pcapng.specs.Interface.{Described, interface_of}
use Rattle.pcapng.specs.Handed.{EndsWithin, KeepsRest, block_of, end_at, handed, pending_of, rest_at, skipped_at, unread_of}
use Rattle.pcapng.specs.Section.{Known, in_section, known_of, next_number, noted, role_of, stamp_of, with_taken}
use Rattle.pcapng.specs.Given.{Given, followed, only}
use Rattle.pcap_io.specs.Capture.{capture_header}
use Rattle.pcapng.specs.Text.{packet_header_bytes}
use Rattle.pcapng.specs.declared.block.BlockKind.{BlockKind}
use Rattle.pcapng.specs.declared.block.BlockKind.TheVariants as kinds
use Rattle.pcapng.specs.declared.block.BlockStart.{BlockStart}
use Rattle.pcapng.specs.declared.block.FirstSection.TheVariants as firsts
use Rattle.pcapng.specs.declared.block.PacketFields.{PacketFields}
use Rattle.pcapng.specs.declared.converter.Converter.{Converter}
use Rattle.pcapng.specs.declared.block.StartFault.{StartFault}
use Rattle.pcapng.specs.declared.converter.Reached.{Reached}
use Rattle.pcapng.specs.declared.converter.Reached.TheVariants as stages
use Rattle.pcapng.specs.declared.section.Role.{Role}
use Rattle.pcapng.specs.declared.section.Role.TheVariants as roles
use Rattle.pcapng.specs.declared.section.Section.{Section}

-- two lists that join to nothing
none_second : (hs bs : List ℕ) → hs ++ bs ≡ [] → bs ≡ []
none_second [] bs e = e
none_second (x ∷ hs) bs e = cc

-- ---- a block that is passed over

-- the last four bytes of a block of which all bytes are there
last_number : (o : ByteOrder) (len : ℕ) (bytes : List ℕ) → 4 ≤ len → len ≤ length bytes
    → number_in o 4 (drop (len - 4) (take len bytes)) ≡ number_in o 4 (drop (len - 4) bytes)
last_number o len bytes four whole =
    let front = take len bytes in
    let size : length front ≡ len = length-take-le len bytes whole in
    let long : 4 ≤ length (drop (len - 4) front) = omega (arith, length-drop (len - 4) front) in
    let apart : drop (len - 4) (front ++ drop len bytes) ≡ drop (len - 4) front ++ drop len bytes = drop-append-le (len - 4) front (drop len bytes) (omega arith) in
    sym (ap (λ (l : List ℕ). number_in o 4 (drop (len - 4) l)) (sym (take-append-drop len bytes))
    ∙ (ap (number_in o 4) apart ∙ number_in-append o 4 (drop (len - 4) front) (drop len bytes) long))

agree_at : (o : ByteOrder) (len : ℕ) (bytes : List ℕ) → 4 ≤ len → len ≤ length bytes
    → lengths_agree o (take len bytes) ≡ (number_in o 4 (drop (len - 4) bytes) == len)
agree_at o len bytes four whole =
    let size : length (take len bytes) ≡ len = length-take-le len bytes whole in
    ap (λ (n : ℕ). number_in o 4 (drop (n - 4) (take len bytes)) == n) size
    ∙ ap (λ (n : ℕ). n == len) (last_number o len bytes four whole)

other_given : (k : Known) (o : ByteOrder) (len : ℕ) (block rest : List ℕ) (b : Bool) → o ≡ k.order → lengths_agree o block ≡ b
    → given_after (read_of k (record { order = o; kind = kinds.Other; len = len }) block) (λ known. given_for known (blocks_of o rest))
    ≡ (if b then given_at k rest else only (tolds.Bad BlockLengthsDiffer))
unfolding read_of
other_given k o len block rest true same agree = rw agree (ap (λ (p : ByteOrder). given_for k (blocks_of p rest)) same)
other_given k o len block rest false same agree = rw agree refl

-- a block that isn't read is passed over
pub passes_over : (k : Known) (u l : List ℕ) (start : BlockStart) → 12 ≤ length u → start_of k.order u ≡ Ok start → start.kind ≡ kinds.Other
    → skipped_at (start.len - 4) start.len k (u ++ l) ≡ given_at k (u ++ l)
passes_over k u l start some e other =
    let facts = start_facts k.order u start e in
    let four : 12 ≤ start.len = facts.0 in
    let back : (start.len - 4) + 4 ≡ start.len = omega arith in
    let own : start.order ≡ k.order = facts.1 (λ section. let clash : kinds.Other ≡ kinds.Section = sym other ∙ section in cc) in
    elim (cases_lt (length (u ++ l)) start.len) [
      | inl part ↦
          let less : nat_lt (length (u ++ l)) ((start.len - 4) + 4) ≡ true = lt-ltb (length (u ++ l)) ((start.len - 4) + 4) (omega arith) in
          rw less (sym (given_part k u l start some e part))
      | inr whole ↦
          let more : nat_lt (length (u ++ l)) ((start.len - 4) + 4) ≡ false = le-ltb (length (u ++ l)) ((start.len - 4) + 4) (omega arith) in
          let known : start ≡ record { order = start.order; kind = kinds.Other; len = start.len } = ap (λ (t : BlockKind). record start { kind = t }) other in
          let bytes = u ++ l in
          let test = number_in start.order 4 (drop (start.len - 4) bytes) == start.len in
          let given = given_whole k u l start some e whole
          ∙ (ap (λ (s : BlockStart). given_after (read_of k s (take start.len bytes)) (λ known. given_for known (blocks_of start.order (drop start.len bytes)))) known
          ∙ other_given k start.order start.len (take start.len bytes) (drop start.len bytes) test own (agree_at start.order start.len bytes (omega arith) whole)) in
          rw (more, back)
          (sym (given ∙ ap (λ (o : ByteOrder). if number_in o 4 (drop (start.len - 4) bytes) == start.len then given_at k (drop start.len bytes) else only (tolds.Bad BlockLengthsDiffer)) own))
    ]

-- so many of its bytes are passed
pub skips : (n left len : ℕ) (k : Known) (u l : List ℕ) → n ≤ length u → n ≤ left
    → skipped_at (left - n) len k (drop n u ++ l) ≡ skipped_at left len k (u ++ l)
skips n left len k u l within most =
    let apart : drop n u ++ l ≡ drop n (u ++ l) = sym (drop-append-le n u l within) in
    let long : n ≤ length (u ++ l) = omega (arith, length-append u l) in
    let bytes = u ++ l in
    let sum : n + (left - n) ≡ left = omega arith in
    let more : n + ((left - n) + 4) ≡ left + 4 = omega arith in
    let first : drop (left - n) (drop n bytes) ≡ drop left bytes = drop-drop (left - n) n bytes ∙ ap (λ (m : ℕ). drop m bytes) sum in
    let second : drop ((left - n) + 4) (drop n bytes) ≡ drop (left + 4) bytes = drop-drop ((left - n) + 4) n bytes ∙ ap (λ (m : ℕ). drop m bytes) more in
    elim (cases_lt (length bytes) (left + 4)) [
      | inl few ↦
          let less : nat_lt (length (drop n bytes)) ((left - n) + 4) ≡ true = lt-ltb _ _ (omega (arith, length-drop n bytes)) in
          let less_all : nat_lt (length bytes) (left + 4) ≡ true = lt-ltb _ _ few in
          rw apart (rw (less, less_all) refl)
      | inr enough ↦
          let less : nat_lt (length (drop n bytes)) ((left - n) + 4) ≡ false = le-ltb _ _ (omega (arith, length-drop n bytes)) in
          let less_all : nat_lt (length bytes) (left + 4) ≡ false = le-ltb _ _ enough in
          rw apart (rw (less, less_all, first, second) refl)
    ]

-- its last four bytes are there, and say its length
pub skipped : (len : ℕ) (k : Known) (u l : List ℕ) → 4 ≤ length u → number_in k.order 4 u ≡ len
    → given_at k (drop 4 u ++ l) ≡ skipped_at 0 len k (u ++ l)
skipped len k u l four same =
    let enough : nat_lt (length (u ++ l)) (0 + 4) ≡ false = le-ltb (length (u ++ l)) (0 + 4) (omega (arith, length-append u l)) in
    let read : number_in k.order 4 (u ++ l) ≡ len = number_in-append k.order 4 u l four ∙ same in
    let test : nat_eq (number_in k.order 4 (u ++ l)) len ≡ true = eq-eqb _ _ read in
    let plain : 0 + 4 ≡ 4 = omega arith in
    rw (enough, test) (ap (given_at k) (sym (drop-append-le 4 u l four)))

-- they say another
pub skipped_wrong : (len : ℕ) (k : Known) (u l : List ℕ) → 4 ≤ length u → (number_in k.order 4 u ≡ len → ⊥)
    → only (tolds.Bad BlockLengthsDiffer) ≡ skipped_at 0 len k (u ++ l)
skipped_wrong len k u l four other =
    let enough : nat_lt (length (u ++ l)) (0 + 4) ≡ false = le-ltb (length (u ++ l)) (0 + 4) (omega (arith, length-append u l)) in
    let test : nat_eq (number_in k.order 4 (u ++ l)) len ≡ false = ne_eqb _ _ (λ same. other (sym (number_in-append k.order 4 u l four) ∙ same)) in
    rw (enough, test) refl

-- ---- a converter

-- nothing was given before
pub after_none : (before : List ℕ) (rest all : Given) → before ≡ [] → rest ≡ all → followed before rest ≡ all
after_none before rest all none same = ap (λ (l : List ℕ). followed l rest) none ∙ same

-- n bytes of a block that is passed over are passed
pub skip_keeps : (c : Converter) (n left len r s : ℕ) (l : List ℕ) → c.stage ≡ stages.Skipping left len → pending_of c ≡ [] → c.start + n ≤ c.end
    → c.end ≤ length c.block.items → n ≤ left → r ≡ left - n → s ≡ c.start + n
    → skipped_at r len (known_of c.section) (slice_range c.block.items s c.end ++ l) ≡ handed c l
skip_keeps c n left len r s l t p within long most rest at =
    let k = known_of c.section in
    let unread : slice_range c.block.items s c.end ≡ drop n (unread_of c) =
    ap (λ (m : ℕ). slice_range c.block.items m c.end) at ∙ sym (drop_slice n c.start c.end c.block.items within long) in
    let size : length (unread_of c) ≡ c.end - c.start = length-between c.start c.end c.block.items long in
    ap (λ (u : List ℕ). skipped_at r len k (u ++ l)) unread
    ∙ (ap (λ (m : ℕ). skipped_at m len k (drop n (unread_of c) ++ l)) rest
    ∙ (skips n left len k (unread_of c) l (omega (arith, size)) most ∙ sym (at_stage c (stages.Skipping left len) l t p)))

-- its last four bytes say its length: another block follows
pub skip_ends : (c : Converter) (left len e : ℕ) (l : List ℕ) → c.stage ≡ stages.Skipping left len → pending_of c ≡ [] → (c.start + left) + 4 ≤ c.end
    → c.end ≤ length c.block.items → e ≡ (c.start + left) + 4
    → number_in c.section.order 4 (slice_range c.block.items (c.start + left) c.end) ≡ len
    → given_at (known_of c.section) (slice_range c.block.items e c.end ++ l) ≡ handed c l
skip_ends c left len e l t p four long at read =
    let k = known_of c.section in
    let u = slice_range c.block.items (c.start + left) c.end in
    let size : length u ≡ c.end - (c.start + left) = length-between (c.start + left) c.end c.block.items long in
    let unread : slice_range c.block.items e c.end ≡ drop 4 u =
    ap (λ (m : ℕ). slice_range c.block.items m c.end) at ∙ sym (drop_slice 4 (c.start + left) c.end c.block.items four long) in
    ap (λ (v : List ℕ). given_at k (v ++ l)) unread
    ∙ (skipped len k u l (omega (arith, size)) read ∙ skip_keeps c left left len 0 (c.start + left) l t p (omega arith) long (omega arith) (omega arith) refl)

-- they say another
pub skip_wrong : (c : Converter) (left len : ℕ) (l : List ℕ) → c.stage ≡ stages.Skipping left len → pending_of c ≡ [] → (c.start + left) + 4 ≤ c.end
    → c.end ≤ length c.block.items → (number_in c.section.order 4 (slice_range c.block.items (c.start + left) c.end) ≡ len → ⊥)
    → only (tolds.Bad BlockLengthsDiffer) ≡ handed c l
skip_wrong c left len l t p four long other =
    let u = slice_range c.block.items (c.start + left) c.end in
    let size : length u ≡ c.end - (c.start + left) = length-between (c.start + left) c.end c.block.items long in
    skipped_wrong len (known_of c.section) u l (omega (arith, size)) other
    ∙ skip_keeps c left left len 0 (c.start + left) l t p (omega arith) long (omega arith) (omega arith) refl

whole_header : slice_range capture_header 0 24 ≡ capture_header
unfolding capture_header
whole_header = refl

-- the first section header is there whole
pub opens_section : (c : Converter) (s : Section) (header : List ℕ) (order : ByteOrder) (len at : ℕ) (l : List ℕ) → c.stage ≡ stages.FirstSection → pending_of c ≡ []
    → 12 ≤ length (unread_of c) → len ≤ length (unread_of c) → c.end ≤ length c.block.items → first_of (unread_of c) ≡ firsts.Begins order len
    → header ≡ capture_header → known_of s ≡ in_section order (known_of c.section) → at ≡ c.start + len
    → followed (slice_range header 0 24 ++ slice_range c.block.items c.body_from c.body_to) (given_at (known_of s) (slice_range c.block.items at c.end ++ l)) ≡ handed c l
opens_section c s header order len at l t p some whole long e is known behind =
    let k = known_of c.section in
    let rest = given_at (known_of s) (slice_range c.block.items at c.end ++ l) in
    let body : slice_range c.block.items c.body_from c.body_to ≡ [] = none_second (slice_range c.header c.header_from c.header_to) _ p in
    let front : slice_range header 0 24 ≡ capture_header = ap (λ (h : List ℕ). slice_range h 0 24) is ∙ whole_header in
    let size : length (unread_of c) ≡ c.end - c.start = length-between c.start c.end c.block.items long in
    let unread : slice_range c.block.items at c.end ≡ drop len (unread_of c) =
    ap (λ (m : ℕ). slice_range c.block.items m c.end) behind ∙ sym (drop_slice len c.start c.end c.block.items (omega (arith, size, c.ordered)) long) in
    ap (λ (b : List ℕ). followed (slice_range header 0 24 ++ b) rest) body
    ∙ (ap (λ (h : List ℕ). followed h rest) (append-nil (slice_range header 0 24) ∙ front)
    ∙ (ap (λ (m : Known). followed capture_header (given_at m (slice_range c.block.items at c.end ++ l))) known
    ∙ (ap (λ (u : List ℕ). followed capture_header (given_at (in_section order k) (u ++ l))) unread
    ∙ sym (at_stage c stages.FirstSection l t p ∙ opened_whole k (unread_of c) l order len some whole e))))

-- ---- whole blocks

-- an interface description, once its number is known and what it says
pub reads_interface : (k : Known) (o : ByteOrder) (bytes : List ℕ) (n : ℕ) (i : Result Described BadReason) (end : Result (Unit {0}) BadReason)
    → Ok n ≡ next_number (length k.interfaces) → interface_of o n bytes ≡ i → end ≡ unless (interface_fault o bytes) → interface_read k o bytes ≡ described_read k i end
reads_interface k o bytes n i end number says ends =
    ap (numbered_read k o bytes) (sym number)
    ∙ (ap (λ (d : Result Described BadReason). described_read k d (unless (interface_fault o bytes))) says
    ∙ ap (described_read k i) (sym ends))

-- part of a part
pub slice_slice : (s n a b : ℕ) (xs : List ℕ) → a ≤ b → b ≤ n → slice_range (slice_range xs s (s + n)) a b ≡ slice_range xs (s + a) (s + b)
slice_slice s n a b xs ordered within =
    let all : (s + n) - s ≡ a + (n - a) = omega arith in
    let part : (s + b) - (s + a) ≡ b - a = omega arith in
    let front : drop a (take ((s + n) - s) (drop s xs)) ≡ take (n - a) (drop a (drop s xs)) =
    ap (λ (m : ℕ). drop a (take m (drop s xs))) all ∙ drop-take a (n - a) (drop s xs) in
    ap (take (b - a)) front
    ∙ (take-take (b - a) (n - a) (drop a (drop s xs)) (omega arith)
    ∙ (ap (take (b - a)) (drop-drop a s xs) ∙ ap (λ (m : ℕ). take m (drop (s + a) xs)) (sym part)))

-- all that is given for a packet that is taken
pub given_packet : (items header : List ℕ) (fields : PacketFields) (s n time from to : ℕ) → 28 + fields.captured_len ≤ n
    → take 16 header ≡ packet_header_bytes time fields.captured_len fields.original_len → from ≡ s + 28 → to ≡ s + (28 + fields.captured_len)
    → slice_range header 0 16 ++ slice_range items from to ≡ packet_bytes fields (slice_range items s (s + n)) time
given_packet items header fields s n time from to within is one two =
    ap (λ (l : List ℕ). l ++ slice_range items from to) (from_start 16 header ∙ is)
    ∙ ap (λ (l : List ℕ). packet_header_bytes time fields.captured_len fields.original_len ++ l)
    (ap (λ (m : ℕ). slice_range items m to) one
    ∙ (ap (λ (m : ℕ). slice_range items (s + 28) m) two ∙ sym (slice_slice s n 28 (28 + fields.captured_len) items (omega arith) within)))

pub takes_packet : (k known : Known) (o : ByteOrder) (fields : PacketFields) (bytes given : List ℕ) (time : ℕ) → Ok roles.Taken ≡ role_of k fields.interface
    → Ok time ≡ stamp_of k fields.interface fields.timestamp → fields.captured_len ≤ MAX_SNAPLEN → Ok tt ≡ unless (packet_fault o fields.captured_len bytes)
    → given ≡ packet_bytes fields bytes time → known ≡ noted fields.interface roles.Taken k
    → packet_read k o fields bytes ≡ Ok (record { given = given; known = known })
takes_packet k known o fields bytes given time role stamp few sound is noted_now =
    let short : nat_lt MAX_SNAPLEN fields.captured_len ≡ false = le-ltb MAX_SNAPLEN fields.captured_len few in
    ap (packet_as k o fields bytes) (sym role)
    ∙ (ap (stamped_read k o fields bytes) (sym stamp)
    ∙ rw short (ap (read_with (packet_bytes fields bytes time) (with_taken fields.interface k)) (sym sound)
    ∙ (ap (λ (l : List ℕ). Ok (record { given = l; known = with_taken fields.interface k })) (sym is)
    ∙ ap (λ (m : Known). Ok (record { given = given; known = m })) (sym noted_now))))

passes_as : (k : Known) (o : ByteOrder) (fields : PacketFields) (bytes : List ℕ) (role : Role) → role ≢ roles.Taken
    → packet_as k o fields bytes (Ok role) ≡ read_with [] (noted fields.interface role k) (unless (packet_fault o fields.captured_len bytes))
passes_as k o fields bytes roles.Taken other = absurd (other refl)
passes_as k o fields bytes roles.Counted other = refl
passes_as k o fields bytes roles.Skipped other = refl

pub passes_packet : (k known : Known) (o : ByteOrder) (fields : PacketFields) (bytes given : List ℕ) (role : Role) → role ≢ roles.Taken
    → Ok role ≡ role_of k fields.interface → Ok tt ≡ unless (packet_fault o fields.captured_len bytes) → given ≡ [] → known ≡ noted fields.interface role k
    → packet_read k o fields bytes ≡ Ok (record { given = given; known = known })
passes_packet k known o fields bytes given role other is sound none noted_now =
    ap (packet_as k o fields bytes) (sym is)
    ∙ (passes_as k o fields bytes role other
    ∙ (ap (read_with [] (noted fields.interface role k)) (sym sound)
    ∙ (ap (λ (l : List ℕ). Ok (record { given = l; known = noted fields.interface role k })) (sym none)
    ∙ ap (λ (m : Known). Ok (record { given = given; known = m })) (sym noted_now))))

read_at : (k : Known) (start : BlockStart) (bytes : List ℕ) (kind : BlockKind) → start.kind ≡ kind → read_of k start bytes ≡ read_as kind k start.order bytes
unfolding read_of
read_at k start bytes kind e = ap (λ (t : BlockKind). read_as t k start.order bytes) e

pub reads_section : (k : Known) (start : BlockStart) (bytes : List ℕ) → start.kind ≡ kinds.Section → read_of k start bytes ≡ section_read k start.order bytes
reads_section k start bytes e = read_at k start bytes kinds.Section e

pub reads_description : (k : Known) (start : BlockStart) (bytes : List ℕ) → start.kind ≡ kinds.Interface → read_of k start bytes ≡ interface_read k start.order bytes
reads_description k start bytes e = read_at k start bytes kinds.Interface e

pub reads_simple : (k : Known) (start : BlockStart) (bytes : List ℕ) → start.kind ≡ kinds.SimplePacket → read_of k start bytes ≡ Err SimplePacket
reads_simple k start bytes e = read_at k start bytes kinds.SimplePacket e

pub reads_packet : (k : Known) (start : BlockStart) (bytes : List ℕ) → (start.kind ≡ kinds.Packet) ⊎ (start.kind ≡ kinds.ObsoletePacket)
    → read_of k start bytes ≡ packet_read k start.order (fields_of start.order start.kind bytes) bytes
reads_packet k start bytes (inl e) =
    read_at k start bytes kinds.Packet e ∙ ap (λ (t : BlockKind). packet_read k start.order (fields_of start.order t bytes) bytes) (sym e)
reads_packet k start bytes (inr e) =
    read_at k start bytes kinds.ObsoletePacket e ∙ ap (λ (t : BlockKind). packet_read k start.order (fields_of start.order t bytes) bytes) (sym e)

-- the next block begins behind this one
pub unread_behind : (a b : Converter) (len : ℕ) → KeepsRest a b → a.start + len ≤ a.end → a.end ≤ length a.block.items
    → slice_range b.block.items (b.start + len) b.end ≡ drop len (unread_of a)
unread_behind a b len kept whole long =
    ap (λ (s : ℕ). slice_range b.block.items (s + len) b.end) kept.1
    ∙ (ap (λ (e : ℕ). slice_range b.block.items (a.start + len) e) kept.2
    ∙ (ap (λ (v : Vec ℕ Global). slice_range v.items (a.start + len) a.end) kept.3 ∙ sym (drop_slice len a.start a.end a.block.items whole long)))

-- ---- the next block

-- the bytes end before what comes next does
pub ends_within : (c : Converter) (st : Reached) → c.stage ≡ st → rest_at st (known_of c.section) (unread_of c) ≡ end_at st (known_of c.section) (unread_of c)
    → EndsWithin c
ends_within c st t e = subst (λ (s : Reached). rest_at s (known_of c.section) (unread_of c) ≡ end_at s (known_of c.section) (unread_of c)) (sym t) e

pub ends_few : (c : Converter) → c.stage ≡ stages.Blocks → length (unread_of c) < 12 → EndsWithin c
ends_few c t few = ends_within c stages.Blocks t (given_few (known_of c.section) (unread_of c) few)

pub ends_part : (c : Converter) (start : BlockStart) → c.stage ≡ stages.Blocks → 12 ≤ length (unread_of c) → start_of c.section.order (unread_of c) ≡ Ok start
    → length (unread_of c) < start.len → EndsWithin c
ends_part c start t some e part =
    let k = known_of c.section in
    let u = unread_of c in
    let all : u ++ [] ≡ u = append-nil u in
    let less : length (u ++ []) < start.len = omega (arith, ap length all) in
    let there : nat_eq (length u) 0 ≡ false = ne_eqb (length u) 0 (λ none. omega arith) in
    let cuts : given_at k u ≡ only tolds.Cut = ap (given_at k) (sym all) ∙ given_part k u [] start some e less in
    ends_within c stages.Blocks t (rw there cuts)

-- the bytes there start no block
pub starts_none : (c : Converter) (fault : StartFault) (l : List ℕ) → c.stage ≡ stages.Blocks → pending_of c ≡ [] → 12 ≤ length (unread_of c)
    → start_of c.section.order (unread_of c) ≡ Err fault → only (tolds.Bad (start_reason fault)) ≡ handed c l
starts_none c fault l t p some e = sym (at_stage c stages.Blocks l t p ∙ given_wrong (known_of c.section) (unread_of c) l fault some e)

-- a block that isn't read begins
pub starts_other : (c : Converter) (start : BlockStart) (left : ℕ) (l : List ℕ) → left ≡ start.len - 4 → c.stage ≡ stages.Blocks → pending_of c ≡ [] → 12 ≤ length (unread_of c)
    → start_of c.section.order (unread_of c) ≡ Ok start → start.kind ≡ kinds.Other
    → skipped_at left start.len (known_of c.section) (unread_of c ++ l) ≡ handed c l
starts_other c start left l all t p some e other =
    ap (λ (n : ℕ). skipped_at n start.len (known_of c.section) (unread_of c ++ l)) all
    ∙ (passes_over (known_of c.section) (unread_of c) l start some e other ∙ sym (at_stage c stages.Blocks l t p))

block_front : (c : Converter) (len : ℕ) (l : List ℕ) → c.start + len ≤ c.end → c.end ≤ length c.block.items → take len (unread_of c ++ l) ≡ block_of c len
block_front c len l whole long =
    let size : length (unread_of c) ≡ c.end - c.start = length-between c.start c.end c.block.items long in
    let all : len ≡ (c.start + len) - c.start = omega arith in
    take-append-le len (unread_of c) l (omega (arith, size))
    ∙ (take-take len (c.end - c.start) (drop c.start c.block.items) (omega arith) ∙ ap (λ (m : ℕ). take m (drop c.start c.block.items)) all)

whole_given : (c : Converter) (start : BlockStart) (l : List ℕ) (r : Result Read BadReason) → c.stage ≡ stages.Blocks → pending_of c ≡ []
    → 12 ≤ length (unread_of c) → start_of c.section.order (unread_of c) ≡ Ok start → c.start + start.len ≤ c.end → c.end ≤ length c.block.items
    → read_of (known_of c.section) start (block_of c start.len) ≡ r
    → handed c l ≡ given_after r (λ known. given_for known (blocks_of start.order (drop start.len (unread_of c ++ l))))
whole_given c start l r t p some e whole long is =
    let k = known_of c.section in
    let u = unread_of c in
    let size : length u ≡ c.end - c.start = length-between c.start c.end c.block.items long in
    let rest = λ (known : Known). given_for known (blocks_of start.order (drop start.len (u ++ l))) in
    at_stage c stages.Blocks l t p
    ∙ (given_whole k u l start some e (omega (arith, size, length-append u l))
    ∙ ap (λ (q : Result Read BadReason). given_after q rest) (ap (read_of k start) (block_front c start.len l whole long) ∙ is))

-- a whole block ends the reading
pub reads_bad : (c : Converter) (start : BlockStart) (reason : BadReason) (l : List ℕ) → c.stage ≡ stages.Blocks → pending_of c ≡ []
    → 12 ≤ length (unread_of c) → start_of c.section.order (unread_of c) ≡ Ok start → c.start + start.len ≤ c.end → c.end ≤ length c.block.items
    → read_of (known_of c.section) start (block_of c start.len) ≡ Err reason → only (tolds.Bad reason) ≡ handed c l
reads_bad c start reason l t p some e whole long is = sym (whole_given c start l (Err reason) t p some e whole long is)

-- a whole block is read
pub reads_good : (c d : Converter) (start : BlockStart) (l : List ℕ) → c.stage ≡ stages.Blocks → pending_of c ≡ []
    → 12 ≤ length (unread_of c) → start_of c.section.order (unread_of c) ≡ Ok start → c.start + start.len ≤ c.end → c.end ≤ length c.block.items
    → read_of (known_of c.section) start (block_of c start.len) ≡ Ok (record { given = pending_of d; known = known_of d.section })
    → (d.stage ≡ c.stage) × (unread_of d ≡ drop start.len (unread_of c)) → handed d l ≡ handed c l
reads_good c d start l t p some e whole long is rest =
    let k = known_of c.section in
    let u = unread_of c in
    let m = known_of d.section in
    let size : length u ≡ c.end - c.start = length-between c.start c.end c.block.items long in
    let facts = start_facts c.section.order u start e in
    let order : m.order ≡ start.order = read_order k start (block_of c start.len) (record { given = pending_of d; known = m }) is facts.1 in
    let unread : unread_of d ++ l ≡ drop start.len (u ++ l) = ap (λ (x : List ℕ). x ++ l) rest.1 ∙ sym (drop-append-le start.len u l (omega (arith, size))) in
    ap (λ (s : Reached). followed (pending_of d) (rest_at s m (unread_of d ++ l))) (rest.0 ∙ t)
    ∙ (ap (λ (x : List ℕ). followed (pending_of d) (given_for m (blocks_of m.order x))) unread
    ∙ (ap (λ (o : ByteOrder). followed (pending_of d) (given_for m (blocks_of o (drop start.len (u ++ l))))) order
    ∙ sym (whole_given c start l (Ok (record { given = pending_of d; known = m })) t p some e whole long is)))
