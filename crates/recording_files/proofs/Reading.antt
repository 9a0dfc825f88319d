-- A reader of what is given for files reads their packets.
use Rattle.std.proofs.Common.{◌≡◌, ℕ, ◌+◌, ◌*◌, ◌/◌, ◌%◌, ◌^◌, ◌<◌, ◌≤◌, max, Bool, true, false, ◌&&◌, ◌||◌, nat_eq, ◌⊎◌, inl, inr, List, [], ◌∷◌, ◌++◌, length, take, drop, map, flat_map, Some, None, Result, refl, sym, ap, ◌∙◌, subst, arith, append_assoc}
use Rattle.std.proofs.lemmas.Bool.{eqb-true, ne_eqb}
use Rattle.std.proofs.lemmas.List.{append-nil, drop-drop, drop_at, take_at}
use Rattle.std.proofs.lemmas.List.Concat.{flat_map-append}
use Rattle.pcap_io.proofs.Captures.{header_is_read, header_size}
use Rattle.pcap_io.proofs.FileHeader.{header-append}
use Rattle.pcap_io.proofs.PacketBytes.{fractions_fit, good_goes_on, header-packet_bytes, header_with, length-header_bytes}
use Rattle.pcap_io.specs.Layout.{fractions_of, nanoseconds_of}
use Rattle.pcap_io.specs.Told.{told_ending}
use Rattle.pcap_io.specs.declared.told.Told.{Told}
use Rattle.pcap_io.specs.declared.told.Told.TheVariants as tolds
use Rattle.pcapng.specs.Given.{Given, followed, header_given, plain}
use Rattle.pcap_io.specs.Recording.{AreGood, IsGood, Packet, Parses, fields_of, header_bytes, high_after, is_file_header, is_file_start, packet_bytes, stamp_of}
use Rattle.pcap_io.specs.declared.layout.HeaderFault.{HeaderFault}
use Rattle.pcap_io.specs.declared.layout.Layout.{Layout}
use Rattle.pcap_io.specs.declared.layout.Precision.{Precision}
use Rattle.pcap_io.specs.declared.layout.Precision.TheVariants.{Nanoseconds, Microseconds}
use Rattle.pcap_io.specs.declared.packet_header.PacketHeader.{PacketHeader}
use Rattle.pcap_io.specs.declared.recording.Ending.TheVariants.{Clean}
use Rattle.pcapng.specs.Laws.{AreInTime, HoldsPackets}
use Rattle.pcap_io.specs.Capture.{capture_header, capture_layout}
use Rattle.recording_files.proofs.Given.{clean_told, ends_clean, follow_both, given_ending, given_first, same_ending}
use Rattle.recording_files.specs.Given.{end_of, file_header_of, given_as, given_at, given_file, given_header, given_next, given_of, head_of, header_text, packet_text}
use Rattle.recording_files.specs.Laws.{AreWhole, FilesAreRead, IsWhole, packet_given}
use Rattle.recording_files.specs.declared.stage.WhichFile.{WhichFile}
use Rattle.recording_files.specs.declared.stage.WhichFile.TheVariants.{First, Next}

-- ---- a packet

-- whenever it came
at_any_time : (l : Layout) (late high : ℕ) (r : Packet) → IsGood l late high r → IsGood l 0 0 r
at_any_time l late high r good = record {
  few_bytes = good.few_bytes;
  seconds_fit = good.seconds_fit;
  original_len_fits = good.original_len_fits;
  within_second = good.within_second;
  no_file_header = good.no_file_header;
  in_time = omega arith;
}

-- a packet that is good is given with its time, and then what follows it
pub given_good : (l : Layout) (told : Told) (late high : ℕ) (r : Packet) (more : List ℕ) (next : Given) → IsGood l late high r
    → given_at l told (packet_bytes l r ++ more) next ≡ followed (packet_bytes capture_layout (packet_given l r)) (given_at l told more next)
given_good l told late high r more next good =
    let all : List ℕ = packet_bytes l r ++ more in
    let head : List ℕ = header_bytes l r.seconds r.fraction (length r.bytes) r.original_len in
    let n : ℕ = length r.bytes in
    let none : end_of l told all ≡ None = good_goes_on l 1 0 told 0 0 r more (at_any_time l late high r good) (omega arith) in
    let fields : head_of l all ≡ header_with r.seconds r.fraction n r.original_len =
    header-packet_bytes l r more good.seconds_fit (fractions_fit l.precision r.fraction good.within_second) (omega (arith, good.few_bytes)) good.original_len_fits in
    let behind : drop 16 all ≡ r.bytes ++ more = ap (drop 16) (append_assoc head r.bytes more) ∙ drop_at head (r.bytes ++ more) 16 (length-header_bytes l r.seconds r.fraction n r.original_len) in
    let rest : drop (16 + n) all ≡ more = sym (drop-drop n 16 all) ∙ (ap (drop n) behind ∙ drop_at r.bytes more n refl) in
    let text : List ℕ = header_text (given_header l (header_with r.seconds r.fraction n r.original_len)) in
    given_first l told all next none
    ∙ (ap (λ (h : PacketHeader). followed (packet_text l h (drop 16 all)) (given_at l told (drop (16 + h.captured_len) all) next)) fields
    ∙ (ap (λ (b : List ℕ). followed (text ++ take n b) (given_at l told (drop (16 + n) all) next)) behind
    ∙ (ap (λ (b : List ℕ). followed (text ++ b) (given_at l told (drop (16 + n) all) next)) (take_at r.bytes more n refl)
    ∙ ap (λ (b : List ℕ). followed (text ++ r.bytes) (given_at l told b next)) rest)))

-- good packets are given, and then the rest
pub given_all : (l : Layout) (told : Told) (late high : ℕ) (rs : List Packet) (rest : List ℕ) (next : Given) → AreGood l late high rs
    → given_at l told (flat_map (packet_bytes l) rs ++ rest) next ≡ followed (flat_map (packet_bytes capture_layout) (map (packet_given l) rs)) (given_at l told rest next)
given_all l told late high [] rest next good = refl
given_all l told late high (r ∷ rs) rest next good =
    let more : List ℕ = flat_map (packet_bytes l) rs ++ rest in
    let first : List ℕ = packet_bytes capture_layout (packet_given l r) in
    ap (λ (b : List ℕ). given_at l told b next) (append_assoc (packet_bytes l r) (flat_map (packet_bytes l) rs) rest)
    ∙ (given_good l told late high r more next good.0
    ∙ (ap (followed first) (given_all l told late (max high (stamp_of l r)) rs rest next good.1)
    ∙ sym (follow_both first (flat_map (packet_bytes capture_layout) (map (packet_given l) rs)) (given_at l told rest next))))

-- ---- no file header is given

which : (b : Bool) → (b ≡ true) ⊎ (b ≡ false)
which true = inl refl
which false = inr refl

none_both : (b : Bool) → (b && false) ≡ false
none_both true = refl
none_both false = refl

no_start : (seconds fraction : ℕ) → nat_eq fraction 0x00020004 ≡ false → nat_eq fraction 0x00040002 ≡ false → nat_eq fraction 0x02000400 ≡ false
    → nat_eq fraction 0x04000200 ≡ false → is_file_start seconds fraction ≡ false
no_start seconds fraction a b c d =
    rw (a, b, c, d) (rw (none_both (nat_eq seconds 0xa1b2c3d4 || nat_eq seconds 0xa1b23c4d), none_both (nat_eq seconds 0xd4c3b2a1 || nat_eq seconds 0x4d3cb2a1)) refl)

no_header_at : (h : PacketHeader) → is_file_start h.seconds h.fraction ≡ false → is_file_header h ≡ false
no_header_at h none =
    rw none (rw (none_both (nat_eq h.original_len 0)) (none_both (nat_eq h.captured_len 0)))

-- no fraction of one is a whole number of microseconds
other : (fraction k n : ℕ) → fraction ≡ k * 1000 → (k * 1000 ≡ n → ⊥) → nat_eq fraction n ≡ false
other fraction k n e differs = ne_eqb fraction n (λ same. absurd (differs (sym e ∙ same)))

clear_at : (q : Precision) (h : PacketHeader) → h.fraction < fractions_of q → is_file_header h ≡ false
    → is_file_header (header_with ((h.seconds * 1000000000 + h.fraction * nanoseconds_of q) / 1000000000) ((h.seconds * 1000000000 + h.fraction * nanoseconds_of q) % 1000000000)
    h.captured_len (max h.original_len h.captured_len)) ≡ false
clear_at Nanoseconds h less clear =
    let stamp : ℕ = h.seconds * 1000000000 + h.fraction * 1 in
    let n : ℕ = h.captured_len in
    let seconds : stamp / 1000000000 ≡ h.seconds = omega (arith, less) in
    let fraction : stamp % 1000000000 ≡ h.fraction = omega (arith, less) in
    elim (which (nat_eq n 0)) [
      | inl none ↦
          let whole : max h.original_len n ≡ h.original_len = omega (arith, eqb-true n 0 none) in
          ap (λ (w : ℕ). is_file_header (header_with (stamp / 1000000000) (stamp % 1000000000) n w)) whole
          ∙ (ap (λ (s : ℕ). is_file_header (header_with s (stamp % 1000000000) n h.original_len)) seconds
          ∙ (ap (λ (f : ℕ). is_file_header (header_with h.seconds f n h.original_len)) fraction ∙ clear))
      | inr some ↦ rw some refl
    ]
clear_at Microseconds h less clear =
    let stamp : ℕ = h.seconds * 1000000000 + h.fraction * 1000 in
    let fraction : stamp % 1000000000 ≡ h.fraction * 1000 = omega (arith, less) in
    no_header_at (header_with (stamp / 1000000000) (stamp % 1000000000) h.captured_len (max h.original_len h.captured_len))
    (no_start (stamp / 1000000000) (stamp % 1000000000)
    (other _ h.fraction 0x00020004 fraction (λ e. omega (arith, e)))
    (other _ h.fraction 0x00040002 fraction (λ e. omega (arith, e)))
    (other _ h.fraction 0x02000400 fraction (λ e. omega (arith, e)))
    (other _ h.fraction 0x04000200 fraction (λ e. omega (arith, e))))

pub given_no_header : (l : Layout) (h : PacketHeader) → h.fraction < fractions_of l.precision → is_file_header h ≡ false → is_file_header (given_header l h) ≡ false
given_no_header l h less clear = clear_at l.precision h less clear

-- ---- good packets are given

pub stamp_fits : (q : Precision) (seconds fraction : ℕ) → seconds < 2 ^ 32 → fraction < fractions_of q → seconds * 1000000000 + fraction * nanoseconds_of q < 1000000000 * 2 ^ 32
stamp_fits Nanoseconds seconds fraction s f = omega (arith, s, f)
stamp_fits Microseconds seconds fraction s f = omega (arith, s, f)

pub same_stamp : (l : Layout) (r : Packet) → stamp_of capture_layout (packet_given l r) ≡ stamp_of l r
same_stamp l r =
    let stamp : ℕ = stamp_of l r in
    let same : stamp / 1000000000 * 1000000000 + stamp % 1000000000 * 1 ≡ stamp = omega arith in
    same

pub good_given : (l : Layout) (late high low : ℕ) (r : Packet) → IsGood l late high r → low ≤ stamp_of l r + late → IsGood capture_layout late low (packet_given l r)
good_given l late high low r good time =
    let fits = stamp_fits l.precision r.seconds r.fraction good.seconds_fit good.within_second in
    let stamp = same_stamp l r in
    record {
      few_bytes = good.few_bytes;
      seconds_fit = omega (arith, fits);
      original_len_fits = omega (arith, good.original_len_fits, good.few_bytes);
      within_second = omega arith;
      no_file_header = given_no_header l (fields_of r) good.within_second good.no_file_header;
      in_time = omega (arith, stamp, time);
    }

-- each of the packets may be given, whenever it came
abbrev pub AllFit : List Packet → Type 0
AllFit [] = Unit {0}
AllFit (p ∷ ps) = IsGood capture_layout 0 0 p × AllFit ps

fit_given : (l : Layout) (late high : ℕ) (rs : List Packet) → AreGood l late high rs → AllFit (map (packet_given l) rs)
fit_given l late high [] good = tt
fit_given l late high (r ∷ rs) good =
    (good_given l 0 0 0 r (at_any_time l late high r good.0) (omega arith), fit_given l late (max high (stamp_of l r)) rs good.1)

fit_both : (ps qs : List Packet) → AllFit ps → AllFit qs → AllFit (ps ++ qs)
fit_both [] qs a b = b
fit_both (p ∷ ps) qs a b = (a.0, fit_both ps qs a.1 b)

pub good_in_time : (late high : ℕ) (ps : List Packet) → AllFit ps → AreInTime late high ps → AreGood capture_layout late high ps
good_in_time late high [] fits times = tt
good_in_time late high (p ∷ ps) fits times = (
  record {
    few_bytes = fits.0.few_bytes;
    seconds_fit = fits.0.seconds_fit;
    original_len_fits = fits.0.original_len_fits;
    within_second = fits.0.within_second;
    no_file_header = fits.0.no_file_header;
    in_time = times.0;
  },
  good_in_time late (max high (stamp_of capture_layout p)) ps fits.1 times.1,
)

-- ---- files

abbrev pub texts : List Packet → List ℕ
texts packets = flat_map (packet_bytes capture_layout) packets

-- a file that ends clean gives its packets, and then what the next ones give
pub whole_given : (place : WhichFile) (file next : Given) (packets : List Packet) → IsWhole file packets
    → given_file place file next ≡ followed (file_header_of place) (followed (texts packets) next)
whole_given place file next packets w =
    let told : Told = file.told in
    let n : ℕ = length w.own in
    let clean : told_ending told 1 0 ≡ Clean 0 = clean_told told w.most (0 + n) n (same_ending (told_ending told w.most (0 + n)) (Clean n) w.parse.ends) in
    let given : given_at w.layout told (drop 24 file.bytes) next ≡ followed (texts packets) next =
    ap (λ (b : List ℕ). given_at w.layout told b next) w.parse.complete
    ∙ (given_all w.layout told w.late 0 w.own [] next w.parse.good
    ∙ (ap (followed (texts (map (packet_given w.layout) w.own))) (given_ending w.layout told [] next (Clean 0) (ends_clean w.layout told ∙ ap Some clean))
    ∙ ap (λ (ps : List Packet). followed (texts ps) next) (sym w.same))) in
    ap (λ (r : Result Layout HeaderFault). given_as place r file next) w.header ∙ ap (followed (file_header_of place)) given

whole_fits : (file : Given) (packets : List Packet) → IsWhole file packets → AllFit packets
whole_fits file packets w = subst AllFit (sym w.same) (fit_given w.layout w.late 0 w.own w.parse.good)

next_given : (files : List Given) (packets : List Packet) → AreWhole files packets → given_next files ≡ plain (texts packets)
next_given [] packets none = sym (ap (λ (ps : List Packet). plain (texts ps)) none)
next_given (file ∷ files) packets (own, more, w, others, all) =
    whole_given Next file (given_next files) own w
    ∙ (ap (followed (texts own)) (next_given files more others)
    ∙ ap plain (sym (flat_map-append (packet_bytes capture_layout) own more) ∙ sym (ap texts all)))

pub all_fit : (files : List Given) (packets : List Packet) → AreWhole files packets → AllFit packets
all_fit [] packets none = subst AllFit (sym none) tt
all_fit (file ∷ files) packets (own, more, w, others, all) = subst AllFit (sym all) (fit_both own more (whole_fits file own w) (all_fit files more others))

pub files_read : FilesAreRead
files_read file files packets most late (own, more, w, others, all) times few =
    let body : List ℕ = texts packets in
    let ending = Clean (length packets) in
    let given : given_of (file ∷ files) ≡ plain (capture_header ++ body) =
    whole_given First file (given_next files) own w
    ∙ (ap (λ (g : Given). followed capture_header (followed (texts own) g)) (next_given files more others)
    ∙ ap (λ (b : List ℕ). plain (capture_header ++ b)) (sym (flat_map-append (packet_bytes capture_layout) own more) ∙ sym (ap texts all))) in
    let behind : drop 24 (capture_header ++ body) ≡ body = drop_at capture_header body 24 header_size in
    let zero : 0 + length packets ≡ length packets = omega arith in (
      ap header_given given ∙ header-append tolds.Nothing capture_header body header_size ∙ header_is_read tolds.Nothing,
      subst (λ (g : Given). HoldsPackets most late g packets ending) (sym given)
          (subst (λ (b : List ℕ). Parses capture_layout most late tolds.Nothing 0 0 b packets [] ending) (sym behind)
          (record {
            complete = sym (append-nil body);
            good = good_in_time late 0 packets (all_fit (file ∷ files) packets (own, more, w, others, all)) times;
            bounded = omega (arith, few);
            ends = ap (λ (n : ℕ). Some (Clean n)) zero;
          })),
    )
