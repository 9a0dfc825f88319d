-- Packets that are given as they stand.
use Rattle.std.proofs.Common.{◌≡◌, ℕ, ◌+◌, ◌-◌, ◌*◌, ◌/◌, ◌%◌, ◌^◌, ◌<◌, ◌≤◌, max, List, [], ◌∷◌, ◌++◌, length, take, drop, flat_map, Option, Some, None, refl, sym, ap, ◌∙◌, subst, arith, append_assoc}
use Rattle.std.proofs.lemmas.List.{append-nil, length-append, length-drop, length-take-le, take-append-le, take_at}
use Rattle.std.proofs.lemmas.List.Concat.{flat_map-append}
use Rattle.std.specs.Io.KnownBytes.{Consumes, prepend_known}
use Rattle.pcap_io.proofs.PacketBytes.{IsBytes-drop, fine_from_none, header_bytes_read_back, header_with, length-packet_bytes, number_fits}
use Rattle.pcap_io.proofs.Parse.{IsBytes-take}
use Rattle.pcap_io.proofs.Transfers.{take-front}
use Rattle.pcap_io.specs.Bytes.{IsBytes}
use Rattle.pcap_io.specs.Layout.{bytes_in, fractions_of}
use Rattle.pcap_io.specs.Recording.{Packet, header_bytes, header_fields, high_after, is_file_header, packet_bytes, reason_at, stamp_at, stamp_of}
use Rattle.pcap_io.specs.declared.layout.ByteOrder.{ByteOrder}
use Rattle.pcap_io.specs.declared.layout.ByteOrder.TheVariants.{Little}
use Rattle.pcap_io.specs.declared.layout.Layout.{Layout}
use Rattle.pcap_io.specs.declared.layout.Precision.{Precision}
use Rattle.pcap_io.specs.declared.layout.Precision.TheVariants.{Nanoseconds, Microseconds}
use Rattle.pcap_io.specs.declared.packet_header.PacketHeader.{PacketHeader}
use Rattle.pcap_io.specs.declared.told.Told.{Told}
use Rattle.pcapng.specs.Given.{Given, followed}
use Rattle.pcap_io.specs.Capture.{capture_layout}
use Rattle.recording_files.proofs.Given.{follow_both}
use Rattle.recording_files.proofs.Reading.{given_good}
use Rattle.recording_files.specs.Given.{given_at}
use Rattle.recording_files.specs.Laws.{packet_given}
use Rattle.recording_files.specs.Run.{ArePassed, BeginsPassed, IsGivenLayout, IsPassed, IsRun}

-- ---- one packet

-- the bytes begin with a header of which nothing is wrong, and the bytes of its packet
pub begins : (l : Layout) (bytes : List ℕ) (h : PacketHeader) (stamp : ℕ) → IsBytes bytes → 16 ≤ length bytes → h ≡ header_fields l (take 16 bytes)
    → h.captured_len ≤ length bytes - 16 → h.captured_len ≤ h.original_len → reason_at l 0 0 h ≡ None
    → stamp ≡ stamp_at l h.seconds h.fraction → BeginsPassed l bytes (16 + h.captured_len) stamp
begins l bytes h stamp fits long read whole wire none time =
    let head : List ℕ = take 16 bytes in
    let n : ℕ = h.captured_len in
    let body : List ℕ = take n (drop 16 bytes) in
    let size : length head ≡ 16 = length-take-le 16 bytes long in
    let body_size : length body ≡ n = length-take-le n (drop 16 bytes) (omega (arith, whole, length-drop 16 bytes)) in
    let head_fits : IsBytes head = IsBytes-take 16 bytes fits in
    let fine = fine_from_none l 0 0 h none in
    let text : header_bytes l h.seconds h.fraction h.captured_len h.original_len ≡ head =
    ap (λ (k : PacketHeader). header_bytes l k.seconds k.fraction k.captured_len k.original_len) read ∙ header_bytes_read_back l head size head_fits in
    let r : Packet = record { seconds = h.seconds; fraction = h.fraction; original_len = h.original_len; bytes = body } in
    record {
      packet = r;
      passed = record {
        good = record {
          few_bytes = omega (arith, body_size, fine.few);
          seconds_fit = subst (λ (k : PacketHeader). k.seconds < 2 ^ 32) (sym read) (number_fits l.order head head_fits);
          original_len_fits = subst (λ (k : PacketHeader). k.original_len < 2 ^ 32) (sym read) (number_fits l.order (drop 12 head) (IsBytes-drop 12 head head_fits));
          within_second = fine.within;
          no_file_header = ap (λ (m : ℕ). is_file_header (header_with h.seconds h.fraction m h.original_len)) body_size ∙ fine.no_file_header;
          in_time = omega arith;
        };
        whole = omega (arith, body_size, wire);
      };
      within = omega (arith, long, whole);
      same = take-front 16 n bytes long ∙ ap (λ (b : List ℕ). b ++ body) (sym text ∙ ap (λ (m : ℕ). header_bytes l h.seconds h.fraction m h.original_len) (sym body_size));
      time = time;
    }

-- it has a header at least
pub some_begins : (l : Layout) (bytes : List ℕ) (len stamp : ℕ) → BeginsPassed l bytes len stamp → 16 ≤ len
some_begins l bytes len stamp b =
    omega (arith, length-take-le len bytes b.within, ap length b.same, length-packet_bytes l b.packet)

-- ---- one after another

passed_more : (l : Layout) (rs : List Packet) (r : Packet) → ArePassed l rs → IsPassed l r → ArePassed l (rs ++ r ∷ [])
passed_more l [] r all one = (one, tt)
passed_more l (p ∷ rs) r all one = (all.0, passed_more l rs r all.1 one)

high_more : (l : Layout) (high : ℕ) (rs : List Packet) (r : Packet) → high_after l high (rs ++ r ∷ []) ≡ max (high_after l high rs) (stamp_of l r)
high_more l high [] r = refl
high_more l high (p ∷ rs) r = high_more l (max high (stamp_of l p)) rs r

-- one more
pub run_more : (l : Layout) (bytes : List ℕ) (at len frames greatest stamp : ℕ) → at ≤ length bytes → IsRun l (take at bytes) frames greatest
    → BeginsPassed l (drop at bytes) len stamp → IsRun l (take (at + len) bytes) (frames + 1) (max greatest stamp)
run_more l bytes at len frames greatest stamp within run b =
    let texts : List Packet → List ℕ = flat_map (packet_bytes l) in
    let size : length (run.packets ++ b.packet ∷ []) ≡ length run.packets + 1 = length-append run.packets (b.packet ∷ []) in
    let one : texts (b.packet ∷ []) ≡ packet_bytes l b.packet = append-nil (packet_bytes l b.packet) in
    record {
      packets = run.packets ++ b.packet ∷ [];
      passed = passed_more l run.packets b.packet run.passed b.passed;
      same = take-front at len bytes within
          ∙ (ap (λ (f : List ℕ). f ++ take len (drop at bytes)) run.same
          ∙ (ap (λ (f : List ℕ). texts run.packets ++ f) (b.same ∙ sym one) ∙ sym (flat_map-append (packet_bytes l) run.packets (b.packet ∷ []))));
      count = omega (arith, run.count, size);
      time = ap (λ (n : ℕ). max n stamp) run.time ∙ (ap (λ (n : ℕ). max (high_after l 0 run.packets) n) b.time ∙ sym (high_more l 0 run.packets b.packet));
    }

-- ---- all that is given for them

less_than_one : (p : Precision) (n : ℕ) → n < fractions_of p → n < 1000000000
less_than_one Nanoseconds n h = omega (arith, h)
less_than_one Microseconds n h = omega (arith, h)

parts : (seconds fraction stamp : ℕ) → stamp ≡ seconds * 1000000000 + fraction → fraction < 1000000000
    → (stamp / 1000000000 ≡ seconds) × (stamp % 1000000000 ≡ fraction)
parts seconds fraction stamp e less = (omega (arith, e, less), omega (arith, e, less))

abbrev text : ByteOrder → ℕ → ℕ → ℕ → ℕ → List ℕ
text o seconds fraction captured original = bytes_in o 4 seconds ++ (bytes_in o 4 fraction ++ (bytes_in o 4 captured ++ bytes_in o 4 original))

-- a packet that is given as it stands
same_text : (l : Layout) (r : Packet) → IsGivenLayout l → IsPassed l r → packet_bytes capture_layout (packet_given l r) ≡ packet_bytes l r
same_text l r g p =
    let stamp : ℕ = stamp_of l r in
    let n : ℕ = length r.bytes in
    let less : r.fraction < 1000000000 = less_than_one l.precision r.fraction p.good.within_second in
    let one : r.seconds * 1000000000 + r.fraction * 1 ≡ r.seconds * 1000000000 + r.fraction = omega arith in
    let time : stamp ≡ r.seconds * 1000000000 + r.fraction = ap (λ (u : ℕ). r.seconds * 1000000000 + r.fraction * u) g.unit ∙ one in
    let both = parts r.seconds r.fraction stamp time less in
    let whole : max r.original_len n ≡ r.original_len = omega (arith, p.whole) in
    ap (λ (s : ℕ). text Little s (stamp % 1000000000) n (max r.original_len n) ++ r.bytes) both.0
    ∙ (ap (λ (f : ℕ). text Little r.seconds f n (max r.original_len n) ++ r.bytes) both.1
    ∙ (ap (λ (w : ℕ). text Little r.seconds r.fraction n w ++ r.bytes) whole
    ∙ ap (λ (o : ByteOrder). text o r.seconds r.fraction n r.original_len ++ r.bytes) (sym g.order)))

all_as_they_stand : (l : Layout) (told : Told) (rs : List Packet) (rest : List ℕ) (next : Given) → IsGivenLayout l → ArePassed l rs
    → given_at l told (flat_map (packet_bytes l) rs ++ rest) next ≡ followed (flat_map (packet_bytes l) rs) (given_at l told rest next)
all_as_they_stand l told [] rest next g all = refl
all_as_they_stand l told (r ∷ rs) rest next g all =
    let texts : List ℕ = flat_map (packet_bytes l) rs in
    let more : List ℕ = texts ++ rest in
    ap (λ (b : List ℕ). given_at l told b next) (append_assoc (packet_bytes l r) texts rest)
    ∙ (given_good l told 0 0 r more next all.0.good
    ∙ (ap (λ (b : List ℕ). followed b (given_at l told more next)) (same_text l r g all.0)
    ∙ (ap (followed (packet_bytes l r)) (all_as_they_stand l told rs rest next g all.1)
    ∙ sym (follow_both (packet_bytes l r) texts (given_at l told rest next)))))

pub run_given : (l : Layout) (told : Told) (bytes : List ℕ) (frames greatest : ℕ) (rest : List ℕ) (next : Given) → IsGivenLayout l → IsRun l bytes frames greatest
    → given_at l told (bytes ++ rest) next ≡ followed bytes (given_at l told rest next)
run_given l told bytes frames greatest rest next g run =
    ap (λ (b : List ℕ). given_at l told (b ++ rest) next) run.same
    ∙ (all_as_they_stand l told run.packets rest next g run.passed ∙ ap (λ (b : List ℕ). followed b (given_at l told rest next)) (sym run.same))

-- ---- bytes that were read ahead

-- they are drawn
pub drawn_ahead : (unread drawn : List ℕ) (n : ℕ) (r m : Option (List ℕ)) → length drawn ≡ n → n ≤ length unread → Consumes (prepend_known unread r) m drawn
    → Consumes (prepend_known unread r) m (take n unread)
drawn_ahead unread drawn n None m size few gone = tt
drawn_ahead unread drawn n (Some x) None size few gone = absurd gone
drawn_ahead unread drawn n (Some x) (Some y) size few gone =
    let same : take n unread ≡ drawn = sym (take-append-le n unread x few) ∙ (ap (take n) gone ∙ take_at drawn y n size) in
    gone ∙ ap (λ (b : List ℕ). b ++ y) (sym same)
