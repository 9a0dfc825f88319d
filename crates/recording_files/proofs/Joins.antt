-- After files that end clean another one is read, and may end all.
use Rattle.std.proofs.Common.{◌≡◌, ℕ, ◌+◌, max, false, nat_eq, List, [], ◌∷◌, ◌++◌, length, drop, map, flat_map, None, Some, Result, refl, sym, ap, ◌∙◌, subst, arith, append_assoc}
use Rattle.std.proofs.lemmas.Bool.{ne_eqb}
use Rattle.std.proofs.lemmas.List.{append-nil, drop_at, length-append}
use Rattle.std.proofs.lemmas.List.Concat.{flat_map-append}
use Rattle.pcap_io.proofs.Captures.{header_size}
use Rattle.pcap_io.proofs.PacketBytes.{IsBytes-drop}
use Rattle.pcap_io.specs.Recording.{AreGood, Packet, Parses, ending_at, high_after, packet_bytes, stamp_of}
use Rattle.pcap_io.specs.declared.layout.HeaderFault.{HeaderFault}
use Rattle.pcap_io.specs.declared.layout.Layout.{Layout}
use Rattle.pcap_io.specs.declared.recording.BadReason.TheVariants.{NextFile}
use Rattle.pcap_io.specs.declared.recording.Ending.{Ending}
use Rattle.pcap_io.specs.declared.recording.Ending.TheVariants.{Bad, Clean}
use Rattle.pcap_io.specs.declared.told.Told.{Told}
use Rattle.pcap_io.specs.declared.told.Told.TheVariants as tolds
use Rattle.pcapng.specs.Given.{Given, followed, header_given, only}
use Rattle.pcapng.specs.Laws.{HoldsPackets}
use Rattle.pcap_io.specs.Capture.{capture_header, capture_layout}
use Rattle.recording_files.proofs.Endings.{file_parse}
use Rattle.recording_files.proofs.Given.{follow_both}
use Rattle.recording_files.proofs.Reading.{all_fit, good_in_time, texts, whole_given}
use Rattle.recording_files.specs.Given.{given_as, given_at, given_next, given_of}
use Rattle.recording_files.specs.Laws.{AreWhole, FaultIsTold, IsCleanEnd, IsReadAs, LastIsRead, NoHeaderEnds, packet_given}
use Rattle.recording_files.specs.declared.stage.WhichFile.TheVariants.{First, Next}

-- ---- all that is given

-- the packets of one file and of those after it, before what the others give
both_given : (own more packets : List Packet) (next : Given) → packets ≡ own ++ more → followed (texts own) (followed (texts more) next) ≡ followed (texts packets) next
both_given own more packets next all =
    sym (follow_both (texts own) (texts more) next)
    ∙ ap (λ (b : List ℕ). followed b next) (sym (flat_map-append (packet_bytes capture_layout) own more) ∙ sym (ap texts all))

before_given : (files others : List Given) (packets : List Packet) → AreWhole files packets → given_next (files ++ others) ≡ followed (texts packets) (given_next others)
before_given [] others packets none = sym (ap (λ (ps : List Packet). followed (texts ps) (given_next others)) none)
before_given (file ∷ files) others packets (own, more, w, rest, all) =
    whole_given Next file (given_next (files ++ others)) own w
    ∙ (ap (followed (texts own)) (before_given files others more rest) ∙ both_given own more packets (given_next others) all)

all_given : (file : Given) (files others : List Given) (packets : List Packet) → AreWhole (file ∷ files) packets
    → given_of (file ∷ (files ++ others)) ≡ followed (capture_header ++ texts packets) (given_next others)
all_given file files others packets (own, more, w, rest, all) =
    whole_given First file (given_next (files ++ others)) own w
    ∙ (ap (λ (g : Given). followed capture_header (followed (texts own) g)) (before_given files others more rest)
    ∙ (ap (followed capture_header) (both_given own more packets (given_next others) all)
    ∙ sym (follow_both capture_header (texts packets) (given_next others))))

-- after the file header
behind : (bytes more : List ℕ) → drop 24 ((capture_header ++ bytes) ++ more) ≡ bytes ++ more
behind bytes more = ap (drop 24) (append_assoc capture_header bytes more) ∙ drop_at capture_header (bytes ++ more) 24 header_size

-- ---- a parse after good packets

good_both : (late high : ℕ) (ps qs : List Packet) → AreGood capture_layout late high ps → AreGood capture_layout late (high_after capture_layout high ps) qs
    → AreGood capture_layout late high (ps ++ qs)
good_both late high [] qs a b = b
good_both late high (p ∷ ps) qs a b = (a.0, good_both late (max high (stamp_of capture_layout p)) ps qs a.1 b)

high_both : (high : ℕ) (ps qs : List Packet) → high_after capture_layout high (ps ++ qs) ≡ high_after capture_layout (high_after capture_layout high ps) qs
high_both high [] qs = refl
high_both high (p ∷ ps) qs = high_both (max high (stamp_of capture_layout p)) ps qs

parses_after : (told : Told) (most late : ℕ) (bytes : List ℕ) (ps qs : List Packet) (rest : List ℕ) (e : Ending) → AreGood capture_layout late 0 ps
    → Parses capture_layout most late told (length ps) (high_after capture_layout 0 ps) bytes qs rest e
    → Parses capture_layout most late told 0 0 (texts ps ++ bytes) (ps ++ qs) rest e
parses_after told most late bytes ps qs rest e good s =
    let count : 0 + length (ps ++ qs) ≡ length ps + length qs = omega (arith, length-append ps qs) in
    record {
      complete =
          ap (λ (b : List ℕ). texts ps ++ b) s.complete
          ∙ (sym (append_assoc (texts ps) (texts qs) rest) ∙ ap (λ (b : List ℕ). b ++ rest) (sym (flat_map-append (packet_bytes capture_layout) ps qs)));
      good = good_both late 0 ps qs good s.good;
      bounded = omega (arith, count, s.bounded);
      ends =
          ap (λ (n : ℕ). ending_at capture_layout most late told n (high_after capture_layout 0 (ps ++ qs)) rest) count
          ∙ (ap (λ (h : ℕ). ending_at capture_layout most late told (length ps + length qs) h rest) (high_both 0 ps qs) ∙ s.ends);
    }

-- ---- the last file

none_after : (e : Ending) (more : List Given) → (IsCleanEnd e → more ≡ []) → (m : ℕ) → e ≡ Clean m → given_next more ≡ only tolds.Nothing
none_after (Clean n) more h m same = ap given_next (h tt)
none_after e more h m same = cc

pub last_read : LastIsRead
last_read file last files more packets own layout rest most late ending whole times fits header parse after =
    let body : List ℕ = drop 24 last.bytes in
    let next : Given = given_next more in
    let part : Given = given_at layout last.told body next in
    let all : List Packet = packets ++ map (packet_given layout) own in
    let given : given_next (last ∷ more) ≡ part = ap (λ (r : Result Layout HeaderFault). given_as Next r last next) header in
    let good = good_in_time late 0 packets (all_fit (file ∷ files) packets whole) times in
    let read = file_parse layout most late last.told (length packets) (high_after capture_layout 0 packets) body next own rest ending (IsBytes-drop 24 last.bytes fits) parse (none_after ending more after) in
    let end : List ℕ = (given_at layout last.told rest next).bytes in
    subst (λ (g : Given). IsReadAs most late g all ending) (sym (all_given file files (last ∷ more) packets whole ∙ ap (followed (capture_header ++ texts packets)) given)) (
      end,
      subst (λ (b : List ℕ). Parses capture_layout most late part.told 0 0 b all end ending) (sym (behind (texts packets) part.bytes))
          (parses_after part.told most late part.bytes packets (map (packet_given layout) own) end ending good read),
    )

pub no_header_ends : NoHeaderEnds
no_header_ends file last files more packets most late fault whole times few header =
    let told : Told = tolds.Bad NextFile in
    let ending : Ending = Bad (length packets) NextFile in
    let given : given_next (last ∷ more) ≡ only told = ap (λ (r : Result Layout HeaderFault). given_as Next r last (given_next more)) header in
    let good = good_in_time late 0 packets (all_fit (file ∷ files) packets whole) times in
    let n : 0 + length packets ≡ length packets = omega arith in
    subst (λ (g : Given). HoldsPackets most late g packets ending)
    (sym (all_given file files (last ∷ more) packets whole ∙ ap (followed (capture_header ++ texts packets)) given))
    (subst (λ (b : List ℕ). Parses capture_layout most late told 0 0 b packets [] ending) (sym (behind (texts packets) []))
    (record {
      complete = refl;
      good = good;
      bounded = omega (arith, few);
      ends = (let below : nat_eq (0 + length packets) most ≡ false = ne_eqb (0 + length packets) most (λ same. absurd (omega (arith, few, n, same))) in
          rw below (ap (λ (m : ℕ). Some (Bad m NextFile)) n));
    }))

-- ---- the first file

pub told_fault : FaultIsTold
told_fault file files fault header = ap (λ (r : Result Layout HeaderFault). header_given (given_as First r file (given_next files))) header
