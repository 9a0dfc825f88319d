-- The bytes that are given for a file end as the file does.
use Rattle.std.proofs.Common.{◌≡◌, ◌≢◌, ℕ, ◌+◌, ◌-◌, ◌^◌, ◌<◌, ◌≤◌, max, Bool, true, false, cond, List, [], ◌∷◌, ◌++◌, length, take, drop, map, flat_map, nat_lt, nat_le, nat_eq, Option, Some, None, Result, ◌⊎◌, inl, inr, refl, sym, ap, ◌∙◌, subst, arith}
use Rattle.std.proofs.lemmas.Bool.{cases_lt, eqb-false, eqb-true, le-ltb, leb-false, lt-leb, lt-ltb, ltb-false, ltb-true, ne_eqb}
use Rattle.std.proofs.lemmas.List.{drop_at, length-append, length-drop, length-map, length-take-le, take-append-drop}
use Rattle.afdx_frame.specs.Frame.{Frame, frame_with}
use Rattle.afdx_frame.specs.declared.bounds.TheConstants.{MAX_SNAPLEN}
use Rattle.afdx_frame.specs.declared.key.Network.{Network}
use Rattle.afdx_frame.specs.declared.key.Network.TheVariants.{A}
use Rattle.pcap_io.proofs.Captures.{header_is_read, header_size}
use Rattle.pcap_io.proofs.FileHeader.{header-append}
use Rattle.pcap_io.proofs.PacketBytes.{IsBytes-drop, header_reads_back, length-header_bytes, number_fits}
use Rattle.pcap_io.proofs.Parse.{IsBytes-take}
use Rattle.pcap_io.proofs.Steps.{bad_at_head, cut_at_head}
use Rattle.pcap_io.specs.Bytes.{IsBytes}
use Rattle.pcap_io.specs.Layout.{fractions_of}
use Rattle.pcap_io.specs.Position.{Holds, start_at}
use Rattle.pcap_io.specs.Recording.{AreGood, Packet, Parses, ending_after, ending_at, frame_of, frames_of, header_fields, high_after, is_file_header, packet_bytes, reason_at, stamp_at, stamp_of}
use Rattle.pcap_io.specs.Told.{told_ending}
use Rattle.pcap_io.specs.declared.layout.HeaderFault.{HeaderFault}
use Rattle.pcap_io.specs.declared.layout.Layout.{Layout}
use Rattle.pcap_io.specs.declared.packet_header.PacketHeader.{PacketHeader}
use Rattle.pcap_io.specs.declared.position.Position.{Position}
use Rattle.pcap_io.specs.declared.recording.BadReason.{BadReason}
use Rattle.pcap_io.specs.declared.recording.BadReason.TheVariants.{FileHeader, Fraction, Length, StampBack, TooMany}
use Rattle.pcap_io.specs.declared.recording.Ending.{Ending}
use Rattle.pcap_io.specs.declared.recording.Ending.TheVariants.{Clean, Cut, Bad}
use Rattle.pcap_io.specs.declared.recording.Stage.TheVariants.{Going}
use Rattle.pcap_io.specs.declared.told.Told.{Told}
use Rattle.pcap_io.specs.declared.told.Told.TheVariants as tolds
use Rattle.pcapng.specs.Given.{Given, followed, header_given, only, plain}
use Rattle.pcap_io.specs.Capture.{capture_header, capture_layout}
use Rattle.recording_files.proofs.Given.{ends_bad, ends_short, given_ending, given_part, given_start, same_ending}
use Rattle.recording_files.proofs.Reading.{given_all, given_no_header, good_given, same_stamp, stamp_fits}
use Rattle.recording_files.specs.Given.{end_of, given_as, given_at, given_body, given_end, given_header, given_of, header_text, part_given}
use Rattle.recording_files.specs.Laws.{FileIsRead, packet_given}
use Rattle.recording_files.specs.declared.stage.WhichFile.TheVariants.{First}

which : (b : Bool) → (b ≡ true) ⊎ (b ≡ false)
which true = inl refl
which false = inr refl

option_cases : {A : Type 0} (o : Option A) → ((x : A) × (o ≡ Some x)) ⊎ (o ≡ None)
option_cases None = inr refl
option_cases (Some x) = inl (x, refl)

-- ---- all that a reader takes of what is given

abbrev ends_with : ℕ → ℕ → ℕ → ℕ → Given → Option Ending
ends_with most late n high given = ending_at capture_layout most late given.told n high given.bytes

-- all that is told alone, below the number of packets that is read
cut_ends : (most late n high : ℕ) → nat_eq n most ≡ false → ends_with most late n high (only tolds.Cut) ≡ Some (Cut n)
cut_ends most late n high below = rw below refl

bad_ends : (most late n high : ℕ) (reason : BadReason) → nat_eq n most ≡ false → ends_with most late n high (only (tolds.Bad reason)) ≡ Some (Bad n reason)
bad_ends most late n high reason below = rw below refl

-- ---- all that is given for the first bytes

short_given : (l : Layout) (told : Told) (bytes : List ℕ) (next : Given) → 0 < length bytes → length bytes < 16 → given_at l told bytes next ≡ only tolds.Cut
short_given l told bytes next some few =
    let part : nat_lt (length bytes) 16 ≡ true = lt-ltb (length bytes) 16 few in
    let text : part_given l bytes ≡ only tolds.Cut = rw part refl in
    given_ending l told bytes next (Cut 0) (ends_short l told bytes some few) ∙ text

bad_given : (l : Layout) (told : Told) (head more : List ℕ) (next : Given) (reason : BadReason) → length head ≡ 16 → reason_at l 0 0 (header_fields l head) ≡ Some reason
    → given_at l told (head ++ more) next ≡ only (tolds.Bad reason)
bad_given l told head more next reason size wrong = given_ending l told (head ++ more) next (Bad 0 reason) (ends_bad l told head more reason size wrong)

length-text : (h : PacketHeader) → length (header_text h) ≡ 16
length-text h = length-header_bytes capture_layout h.seconds h.fraction h.captured_len h.original_len

-- ---- a reader of it

full_text : (most late n high : ℕ) (text : List ℕ) (body : Given) → length text ≡ 16 → nat_eq n most ≡ true → ends_with most late n high (followed text body) ≡ Some (Bad n TooMany)
full_text most late n high text body size full =
    let some : nat_eq (length (text ++ body.bytes)) 0 ≡ false =
    ne_eqb (length (text ++ body.bytes)) 0 (λ none. absurd (omega (arith, none, size, length-append text body.bytes))) in
    rw (some, full) refl

-- one that reads no more packets is told so, whatever is given for the bytes that are left
full_given : (l : Layout) (told : Told) (most late n high : ℕ) (bytes : List ℕ) (next : Given) → 0 < length bytes → nat_eq n most ≡ true
    → ends_with most late n high (given_at l told bytes next) ≡ Some (Bad n TooMany)
full_given l told most late n high bytes next some full =
    let ends = ends_with most late n high in
    elim (cases_lt (length bytes) 16) [
      | inl few ↦
          let cut : ends (only tolds.Cut) ≡ Some (Bad n TooMany) = rw full refl in
          ap ends (short_given l told bytes next some few) ∙ cut
      | inr long ↦
          let head : List ℕ = take 16 bytes in
          let more : List ℕ = drop 16 bytes in
          let size : length head ≡ 16 = length-take-le 16 bytes long in
          let whole = ap (λ (b : List ℕ). given_at l told b next) (sym (take-append-drop 16 bytes)) in
          elim (option_cases (reason_at l 0 0 (header_fields l head))) [
            | inl wrong ↦
                let bad : ends (only (tolds.Bad wrong.0)) ≡ Some (Bad n TooMany) = rw full refl in
                ap ends (whole ∙ bad_given l told head more next wrong.0 size wrong.1) ∙ bad
            | inr fine ↦
                let h : PacketHeader = given_header l (header_fields l head) in
                ap ends (whole ∙ given_start l told head more next size fine)
                ∙ full_text most late n high (header_text h) (given_body l told h more next) (length-text h) full
          ]
    ]

abbrev stands : ℕ → ℕ → ℕ → ℕ → Position
stands most late n high = record {
  network = A;
  layout = capture_layout;
  most = most;
  late = late;
  count = n;
  high = high;
  stage = Going;
}

other : (n most : ℕ) → nat_eq n most ≡ false → n ≢ most
other n most e = eqb-false n most e

-- the header that is given for a fine one, but for its time
record GivenFields (l : Layout) (h : PacketHeader) : Type 0 where
  few : h.captured_len ≤ MAX_SNAPLEN
  within : h.fraction < fractions_of l.precision
  no_file_header : is_file_header h ≡ false
  seconds_fit : h.seconds < 2 ^ 32
  original_len_fits : h.original_len < 2 ^ 32

fields_read : (l : Layout) (h : PacketHeader) → GivenFields l h → header_fields capture_layout (header_text (given_header l h)) ≡ given_header l h
fields_read l h g =
    let k : PacketHeader = given_header l h in
    let fits = stamp_fits l.precision h.seconds h.fraction g.seconds_fit g.within in
    header_reads_back capture_layout k.seconds k.fraction k.captured_len k.original_len (omega (arith, fits)) (omega arith) (omega (arith, g.few)) (omega (arith, g.few, g.original_len_fits))

given_reason : (l : Layout) (late high : ℕ) (h : PacketHeader) (back : Bool) → GivenFields l h → nat_lt (stamp_at l h.seconds h.fraction + late) high ≡ back
    → reason_at capture_layout late high (given_header l h) ≡ cond back (Some (StampBack (high - stamp_at l h.seconds h.fraction))) None
given_reason l late high h back g e =
    let k : PacketHeader = given_header l h in
    let clear : is_file_header k ≡ false = given_no_header l h g.within g.no_file_header in
    let long : nat_lt MAX_SNAPLEN h.captured_len ≡ false = le-ltb MAX_SNAPLEN h.captured_len g.few in
    let second : nat_le 1000000000 k.fraction ≡ false = lt-leb 1000000000 k.fraction (omega arith) in
    let stamp : stamp_at capture_layout k.seconds k.fraction ≡ stamp_at l h.seconds h.fraction = omega arith in
    let time : nat_lt (stamp_at capture_layout k.seconds k.fraction + late) high ≡ back = ap (λ (s : ℕ). nat_lt (s + late) high) stamp ∙ e in
    rw (clear, long, second, time) (ap (λ (s : ℕ). cond back (Some (StampBack (high - s))) None) stamp)

-- at a header that stands whole
judged : (l : Layout) (told : Told) (most late n high : ℕ) (bytes : List ℕ) (next : Given) (e : Ending) → IsBytes bytes → n ≤ most → nat_eq n most ≡ false → 16 ≤ length bytes
    → ending_after n (header_fields l (take 16 bytes)) (length bytes - 16) (reason_at l late high (header_fields l (take 16 bytes))) ≡ Some e
    → ends_with most late n high (given_at l told bytes next) ≡ Some e
judged l told most late n high bytes next e fits within differs long found =
    let head : List ℕ = take 16 bytes in
    let more : List ℕ = drop 16 bytes in
    let h : PacketHeader = header_fields l head in
    let size : length head ≡ 16 = length-take-le 16 bytes long in
    let whole : head ++ more ≡ bytes = take-append-drop 16 bytes in
    let few : n ≢ most = other n most differs in
    let less : n < most = omega (arith, within, few) in
    let ends = ends_with most late n high in
    let wrong : (r : BadReason) → reason_at l 0 0 h ≡ Some r → Bad n r ≡ e → ends (given_at l told bytes next) ≡ Some e =
    λ r bad same. ap ends (ap (λ (b : List ℕ). given_at l told b next) (sym whole) ∙ bad_given l told head more next r size bad)
    ∙ (bad_ends most late n high r differs ∙ ap Some same) in
    elim (which (is_file_header h)) [
      | inl a ↦ wrong FileHeader (rw a refl) (same_ending (Bad n FileHeader) e (rw a at found))
      | inr a ↦ elim (which (nat_lt MAX_SNAPLEN h.captured_len)) [
        | inl b ↦ wrong Length (rw (a, b) refl) (same_ending (Bad n Length) e (rw (a, b) at found))
        | inr b ↦ elim (which (nat_le (fractions_of l.precision) h.fraction)) [
          | inl c ↦ wrong Fraction (rw (a, b, c) refl) (same_ending (Bad n Fraction) e (rw (a, b, c) at found))
          | inr c ↦
              let head_fits : IsBytes head = IsBytes-take 16 bytes fits in
              let g : GivenFields l h = record {
                few = ltb-false MAX_SNAPLEN h.captured_len b;
                within = leb-false (fractions_of l.precision) h.fraction c;
                no_file_header = a;
                seconds_fit = number_fits l.order head head_fits;
                original_len_fits = number_fits l.order (drop 12 head) (IsBytes-drop 12 head head_fits);
              } in
              let k : PacketHeader = given_header l h in
              let never : nat_lt (stamp_at l h.seconds h.fraction + 0) 0 ≡ false = le-ltb (stamp_at l h.seconds h.fraction + 0) 0 (omega arith) in
              let fine : reason_at l 0 0 h ≡ None = rw (a, b, c, never) refl in
              let body : Given = given_body l told k more next in
              let given : given_at l told bytes next ≡ followed (header_text k) body = ap (λ (x : List ℕ). given_at l told x next) (sym whole) ∙ given_start l told head more next size fine in
              elim (which (nat_lt (stamp_at l h.seconds h.fraction + late) high)) [
                | inl d ↦
                    let back : BadReason = StampBack (high - stamp_at l h.seconds h.fraction) in
                    let read = ap (reason_at capture_layout late high) (fields_read l h g) ∙ given_reason l late high h true g d in
                    ap ends given ∙ (bad_at_head (stands most late n high) body.told (header_text k) body.bytes back (length-text k) few read ∙ ap Some (same_ending (Bad n back) e (rw (a, b, c, d) at found)))
                | inr d ↦
                    let read = ap (reason_at capture_layout late high) (fields_read l h g) ∙ given_reason l late high h false g d in
                    elim (which (nat_lt (length bytes - 16) h.captured_len)) [
                      | inl i ↦
                          let short : length more < h.captured_len = omega (arith, length-drop 16 bytes, ltb-true (length bytes - 16) h.captured_len i) in
                          let text : body ≡ plain more = given_part l told k more next short in
                          let lacks : length more < (header_fields capture_layout (header_text k)).captured_len =
                          subst (λ (x : PacketHeader). length more < x.captured_len) (sym (fields_read l h g)) short in
                          ap ends (given ∙ ap (followed (header_text k)) text)
                          ∙ (cut_at_head (stands most late n high) tolds.Nothing (header_text k) more (length-text k) few read lacks ∙ ap Some (same_ending (Cut n) e (rw (a, b, c, d, i) at found)))
                      | inr i ↦
                          let none = rw (a, b, c, d, i) at found in
                          cc
                    ]
              ]
        ]
      ]
    ]

-- where no bytes are left
empty_given : (l : Layout) (told : Told) (bytes : List ℕ) (next : Given) → nat_eq (length bytes) 0 ≡ true
    → given_at l told bytes next ≡ given_end (Some (told_ending told 1 0)) (only tolds.Cut) next (only tolds.Nothing)
empty_given l told bytes next none =
    let few : nat_lt (length bytes) 16 ≡ true = lt-ltb (length bytes) 16 (omega (arith, eqb-true (length bytes) 0 none)) in
    let part : part_given l bytes ≡ only tolds.Cut = rw few refl in
    let ends : end_of l told bytes ≡ Some (told_ending told 1 0) = rw none refl in
    given_ending l told bytes next (told_ending told 1 0) ends ∙ ap (λ (g : Given). given_end (Some (told_ending told 1 0)) g next (only tolds.Nothing)) part

told_ends : (told : Told) (most late n high : ℕ) (next : Given) (e : Ending) → told_ending told most n ≡ e → ((m : ℕ) → e ≡ Clean m → next ≡ only tolds.Nothing)
    → ends_with most late n high (given_end (Some (told_ending told 1 0)) (only tolds.Cut) next (only tolds.Nothing)) ≡ Some e
told_ends tolds.Nothing most late n high next e same last = ap (ends_with most late n high) (last n (sym same)) ∙ ap Some same
told_ends (tolds.NoHeader fault) most late n high next e same last = ap (ends_with most late n high) (last n (sym same)) ∙ ap Some same
told_ends tolds.Cut most late n high next e same last = ap Some same
told_ends (tolds.Bad reason) most late n high next e same last = ap Some same

-- after n packets
pub file_ends : (l : Layout) (told : Told) (most late n high : ℕ) (bytes : List ℕ) (next : Given) (e : Ending) → IsBytes bytes → n ≤ most → ending_at l most late told n high bytes ≡ Some e
    → ((m : ℕ) → e ≡ Clean m → next ≡ only tolds.Nothing) → ends_with most late n high (given_at l told bytes next) ≡ Some e
file_ends l told most late n high bytes next e fits within found last =
    let ends = ends_with most late n high in
    elim (which (nat_eq (length bytes) 0)) [
      | inl a ↦ ap ends (empty_given l told bytes next a) ∙ told_ends told most late n high next e (same_ending (told_ending told most n) e (rw a at found)) last
      | inr a ↦
          let some : 0 < length bytes = omega (arith, eqb-false (length bytes) 0 a) in
          elim (which (nat_eq n most)) [
            | inl b ↦ full_given l told most late n high bytes next some b ∙ ap Some (same_ending (Bad n TooMany) e (rw (a, b) at found))
            | inr b ↦ elim (which (nat_lt (length bytes) 16)) [
              | inl c ↦
                  ap ends (short_given l told bytes next some (ltb-true (length bytes) 16 c))
                  ∙ (cut_ends most late n high b ∙ ap Some (same_ending (Cut n) e (rw (a, b, c) at found)))
              | inr c ↦ judged l told most late n high bytes next e fits within b (ltb-false (length bytes) 16 c) (rw (a, b, c) at found)
            ]
          ]
    ]

-- ---- a file

are_given : (l : Layout) (late high : ℕ) (rs : List Packet) → AreGood l late high rs → AreGood capture_layout late high (map (packet_given l) rs)
are_given l late high [] good = tt
are_given l late high (r ∷ rs) good = (
  good_given l late high high r good.0 good.0.in_time,
  subst (λ (s : ℕ). AreGood capture_layout late (max high s) (map (packet_given l) rs)) (sym (same_stamp l r)) (are_given l late (max high (stamp_of l r)) rs good.1),
)

high_given : (l : Layout) (high : ℕ) (rs : List Packet) → high_after capture_layout high (map (packet_given l) rs) ≡ high_after l high rs
high_given l high [] = refl
high_given l high (r ∷ rs) =
    ap (λ (s : ℕ). high_after capture_layout (max high s) (map (packet_given l) rs)) (same_stamp l r) ∙ high_given l (max high (stamp_of l r)) rs

frame_given : (network : Network) (l : Layout) (n : ℕ) (r : Packet) → frame_of network capture_layout n (packet_given l r) ≡ frame_of network l n r
frame_given network l n r =
    let whole : max (max r.original_len (length r.bytes)) (length r.bytes) ≡ max r.original_len (length r.bytes) = omega arith in
    ap (λ (s : ℕ). frame_with network n s (max (max r.original_len (length r.bytes)) (length r.bytes)) r.bytes) (same_stamp l r)
    ∙ ap (λ (w : ℕ). frame_with network n (stamp_of l r) w r.bytes) whole

frames_given : (network : Network) (l : Layout) (n : ℕ) (rs : List Packet) → frames_of network l n rs ≡ frames_of network capture_layout n (map (packet_given l) rs)
frames_given network l n [] = refl
frames_given network l n (r ∷ rs) =
    ap (λ (f : Frame). f ∷ frames_of network l (n + 1) rs) (sym (frame_given network l n r))
    ∙ ap (λ (fs : List Frame). frame_of network capture_layout n (packet_given l r) ∷ fs) (frames_given network l (n + 1) rs)

-- a file's parse is that of what is given for it
pub file_parse : (l : Layout) (most late : ℕ) (told : Told) (n high : ℕ) (bytes : List ℕ) (next : Given) (own : List Packet) (rest : List ℕ) (e : Ending) → IsBytes bytes
    → Parses l most late told n high bytes own rest e → ((m : ℕ) → e ≡ Clean m → next ≡ only tolds.Nothing)
    → Parses capture_layout most late (given_at l told bytes next).told n high (given_at l told bytes next).bytes (map (packet_given l) own) (given_at l told rest next).bytes e
file_parse l most late told n high bytes next own rest e fits s last =
    let text : List ℕ = flat_map (packet_bytes l) own in
    let behind : drop (length text) bytes ≡ rest = ap (drop (length text)) s.complete ∙ drop_at text rest (length text) refl in
    let rest_fits : IsBytes rest = subst IsBytes behind (IsBytes-drop (length text) bytes fits) in
    let count : length (map (packet_given l) own) ≡ length own = length-map own (packet_given l) in
    let found = file_ends l told most late (n + length own) (high_after l high own) rest next e rest_fits s.bounded s.ends last in
    let end : Given = given_at l told rest next in
    let given : given_at l told bytes next ≡ followed (flat_map (packet_bytes capture_layout) (map (packet_given l) own)) end =
    ap (λ (b : List ℕ). given_at l told b next) s.complete ∙ given_all l told late high own rest next s.good in
    record {
      complete = ap (λ (g : Given). g.bytes) given;
      good = are_given l late high own s.good;
      bounded = omega (arith, count, s.bounded);
      ends =
          ap (λ (t : Told). ending_at capture_layout most late t (n + length (map (packet_given l) own)) (high_after capture_layout high (map (packet_given l) own)) end.bytes)
          (ap (λ (g : Given). g.told) given)
          ∙ (ap (λ (m : ℕ). ends_with most late (n + m) (high_after capture_layout high (map (packet_given l) own)) end) count
          ∙ (ap (λ (m : ℕ). ends_with most late (n + length own) m end) (high_given l high own) ∙ found));
    }

pub file_read : FileIsRead
file_read network file layout most late frames ending fits header held =
    let body : List ℕ = drop 24 file.bytes in
    let part : Given = given_at layout file.told body (only tolds.Nothing) in
    let given : given_of (file ∷ []) ≡ followed capture_header part = ap (λ (r : Result Layout HeaderFault). given_as First r file (only tolds.Nothing)) header in
    let behind : drop 24 (capture_header ++ part.bytes) ≡ part.bytes = drop_at capture_header part.bytes 24 header_size in
    let parse = file_parse layout most late file.told 0 0 body (only tolds.Nothing) held.packets held.rest ending (IsBytes-drop 24 file.bytes fits) held.parse (λ m clean. refl) in
    let start : Position = start_at network capture_layout most late in (
      ap header_given given ∙ header-append part.told capture_header part.bytes header_size ∙ header_is_read part.told,
      subst (λ (g : Given). Holds start g.told (drop 24 g.bytes) frames ending) (sym given)
          (subst (λ (b : List ℕ). Holds start part.told b frames ending) (sym behind)
          (record {
            packets = map (packet_given layout) held.packets;
            rest = (given_at layout file.told held.rest (only tolds.Nothing)).bytes;
            parse = parse;
            same = held.same ∙ frames_given network layout 0 held.packets;
          })),
    )
