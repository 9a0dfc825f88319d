-- A packet's 16 bytes of header give the fields back, and a good packet is no ending.
use Rattle.std.specs.Prelude.{◌≡◌, ℕ, zero, suc, ◌+◌, ◌-◌, ◌^◌, ◌<◌, ◌≤◌, Bool, true, false, cond, List, [], ◌∷◌, ◌++◌, length, take, drop, get_or, Option, Some, None, nat_lt, nat_le, nat_eq}
use Rattle.std.proofs.Common.{refl, sym, ap, ◌∙◌, subst, arith}
use Rattle.std.proofs.lemmas.Bool.{le-ltb, ltb-false, lt-leb, leb-false, ne_eqb}
use Rattle.std.proofs.lemmas.List.{take_at, take_all, drop_at, drop-drop, take-append-drop, append_assoc, append-nil, length-append, length-drop, get_or-drop}
use Rattle.std.proofs.lemmas.Nat.{le_bytes_4, be_bytes_4}
use Rattle.byteorder.specs.Numbers.{little_number-reads_back, big_number-reads_back, little_from-lt, big_from-lt}
use Rattle.afdx_frame.specs.declared.bounds.TheConstants.{MAX_SNAPLEN}
use Rattle.pcap_io.specs.Layout.{number_in, bytes_in, fractions_of}
use Rattle.pcap_io.specs.Bytes.{IsBytes}
use Rattle.pcap_io.specs.Recording.{Packet, IsGood, header_bytes, packet_bytes, stamp_at, header_fields, is_file_header, reason_at, ending_at}
use Rattle.pcap_io.specs.declared.layout.ByteOrder.{ByteOrder}
use Rattle.pcap_io.specs.declared.layout.ByteOrder.TheVariants.{Little, Big}
use Rattle.pcap_io.specs.declared.layout.Precision.{Precision}
use Rattle.pcap_io.specs.declared.layout.Precision.TheVariants.{Nanoseconds, Microseconds}
use Rattle.pcap_io.specs.declared.layout.Layout.{Layout}
use Rattle.pcap_io.specs.declared.packet_header.PacketHeader.{PacketHeader}
use Rattle.pcap_io.specs.declared.told.Told.{Told}

-- ---- numbers of four bytes

pub number_reads_back : (o : ByteOrder) (n : ℕ) (rest : List ℕ) → n < 2 ^ 32 → number_in o 4 (bytes_in o 4 n ++ rest) ≡ n
number_reads_back Little n rest h = little_number-reads_back 4 n rest h
number_reads_back Big n rest h = big_number-reads_back 4 n rest h

pub number_fits : (o : ByteOrder) (bytes : List ℕ) → IsBytes bytes → number_in o 4 bytes < 2 ^ 32
number_fits Little bytes fits = little_from-lt 0 4 bytes fits
number_fits Big bytes fits = big_from-lt 0 4 bytes fits

pub IsBytes-drop : (n : ℕ) (bytes : List ℕ) → IsBytes bytes → IsBytes (drop n bytes)
IsBytes-drop n bytes fits i = subst (λ (x : ℕ). x < 256) (sym (get_or-drop n bytes i 0)) (fits (n + i))

four_fit : (a b c d : ℕ) → a < 256 → b < 256 → c < 256 → d < 256 → (i : ℕ) → get_or (a ∷ b ∷ c ∷ d ∷ []) i 0 < 256
four_fit a b c d p q r s zero = p
four_fit a b c d p q r s (suc zero) = q
four_fit a b c d p q r s (suc (suc zero)) = r
four_fit a b c d p q r s (suc (suc (suc zero))) = s
four_fit a b c d p q r s (suc (suc (suc (suc i)))) = omega arith

four_read_back : (o : ByteOrder) (a b c d : ℕ) (rest : List ℕ) → a < 256 → b < 256 → c < 256 → d < 256
    → bytes_in o 4 (number_in o 4 (a ∷ b ∷ c ∷ d ∷ rest)) ≡ a ∷ b ∷ c ∷ d ∷ []
four_read_back Little a b c d rest p q r s =
    le_bytes_4 (a ∷ b ∷ c ∷ d ∷ []) (number_in Little 4 (a ∷ b ∷ c ∷ d ∷ rest)) refl (four_fit a b c d p q r s) (omega arith)
four_read_back Big a b c d rest p q r s =
    be_bytes_4 (a ∷ b ∷ c ∷ d ∷ []) (number_in Big 4 (a ∷ b ∷ c ∷ d ∷ rest)) refl (four_fit a b c d p q r s) (omega arith)

pub bytes_read_back : (o : ByteOrder) (bytes : List ℕ) → 4 ≤ length bytes → IsBytes bytes → bytes_in o 4 (number_in o 4 bytes) ≡ take 4 bytes
bytes_read_back o [] size fits = absurd (omega arith)
bytes_read_back o (a ∷ []) size fits = absurd (omega arith)
bytes_read_back o (a ∷ b ∷ []) size fits = absurd (omega arith)
bytes_read_back o (a ∷ b ∷ c ∷ []) size fits = absurd (omega arith)
bytes_read_back o (a ∷ b ∷ c ∷ d ∷ rest) size fits = four_read_back o a b c d rest (fits 0) (fits 1) (fits 2) (fits 3)

-- ---- sizes

pub length-bytes_in : (o : ByteOrder) (n : ℕ) → length (bytes_in o 4 n) ≡ 4
length-bytes_in Little n = refl
length-bytes_in Big n = refl

past_one : (o : ByteOrder) (a : ℕ) (rest : List ℕ) → drop 4 (bytes_in o 4 a ++ rest) ≡ rest
past_one o a rest = drop_at (bytes_in o 4 a) rest 4 (length-bytes_in o a)

past_two : (o : ByteOrder) (a b : ℕ) (rest : List ℕ) → drop 8 (bytes_in o 4 a ++ (bytes_in o 4 b ++ rest)) ≡ rest
past_two o a b rest =
    sym (drop-drop 4 4 (bytes_in o 4 a ++ (bytes_in o 4 b ++ rest))) ∙ ap (drop 4) (past_one o a (bytes_in o 4 b ++ rest)) ∙ past_one o b rest

past_three : (o : ByteOrder) (a b c : ℕ) (rest : List ℕ) → drop 12 (bytes_in o 4 a ++ (bytes_in o 4 b ++ (bytes_in o 4 c ++ rest))) ≡ rest
past_three o a b c rest =
    sym (drop-drop 8 4 (bytes_in o 4 a ++ (bytes_in o 4 b ++ (bytes_in o 4 c ++ rest)))) ∙ ap (drop 8) (past_one o a (bytes_in o 4 b ++ (bytes_in o 4 c ++ rest))) ∙ past_two o b c rest

pub length-header_bytes : (l : Layout) (s f h w : ℕ) → length (header_bytes l s f h w) ≡ 16
length-header_bytes l s f h w =
    let o = l.order in
    let first = length-append (bytes_in o 4 s) (bytes_in o 4 f ++ (bytes_in o 4 h ++ bytes_in o 4 w)) in
    let second = length-append (bytes_in o 4 f) (bytes_in o 4 h ++ bytes_in o 4 w) in
    let third = length-append (bytes_in o 4 h) (bytes_in o 4 w) in
    omega (arith, first, second, third, length-bytes_in o s, length-bytes_in o f, length-bytes_in o h, length-bytes_in o w)

pub length-packet_bytes : (l : Layout) (r : Packet) → length (packet_bytes l r) ≡ 16 + length r.bytes
length-packet_bytes l r =
    omega (arith, length-append (header_bytes l r.seconds r.fraction (length r.bytes) r.original_len) r.bytes, length-header_bytes l r.seconds r.fraction (length r.bytes) r.original_len)

-- ---- the fields of 16 bytes

abbrev pub header_with : ℕ → ℕ → ℕ → ℕ → PacketHeader
header_with s f h w = record { seconds = s; fraction = f; captured_len = h; original_len = w }

same_header : (a b c d e f g h : ℕ) → a ≡ b → c ≡ d → e ≡ f → g ≡ h → header_with a c e g ≡ header_with b d f h
same_header a b c d e f g h p q r s =
    ap (λ (x : ℕ). header_with x c e g) p ∙ ap (λ (x : ℕ). header_with b x e g) q ∙ ap (λ (x : ℕ). header_with b d x g) r ∙ ap (λ (x : ℕ). header_with b d f x) s

-- the fields that are packet_bytes are read
pub header_reads_back : (l : Layout) (s f h w : ℕ) → s < 2 ^ 32 → f < 2 ^ 32 → h < 2 ^ 32 → w < 2 ^ 32
    → header_fields l (header_bytes l s f h w) ≡ record { seconds = s; fraction = f; captured_len = h; original_len = w }
header_reads_back l s f h w ps pf ph pw =
    let o = l.order in
    let nil : List ℕ = [] in
    let first : number_in o 4 (header_bytes l s f h w) ≡ s = number_reads_back o s (bytes_in o 4 f ++ (bytes_in o 4 h ++ bytes_in o 4 w)) ps in
    let second : number_in o 4 (drop 4 (header_bytes l s f h w)) ≡ f =
    ap (number_in o 4) (past_one o s (bytes_in o 4 f ++ (bytes_in o 4 h ++ bytes_in o 4 w))) ∙ number_reads_back o f (bytes_in o 4 h ++ bytes_in o 4 w) pf in
    let third : number_in o 4 (drop 8 (header_bytes l s f h w)) ≡ h =
    ap (number_in o 4) (past_two o s f (bytes_in o 4 h ++ bytes_in o 4 w)) ∙ number_reads_back o h (bytes_in o 4 w) ph in
    let fourth : number_in o 4 (drop 12 (header_bytes l s f h w)) ≡ w =
    ap (number_in o 4) (past_three o s f h (bytes_in o 4 w)) ∙ (ap (number_in o 4) (sym (append-nil (bytes_in o 4 w))) ∙ number_reads_back o w nil pw) in
    same_header _ s _ f _ h _ w first second third fourth

joined : (a b c d p q r s head third second : List ℕ) → a ≡ p → b ≡ q → c ≡ r → d ≡ s → r ++ s ≡ third → q ++ third ≡ second → p ++ second ≡ head → a ++ (b ++ (c ++ d)) ≡ head
joined a b c d p q r s head third second ea eb ec ed et es eh = rw (ea, eb, ec, ed, et, es) eh

-- the fields that are read are packet_bytes
pub header_bytes_read_back : (l : Layout) (head : List ℕ) → length head ≡ 16 → IsBytes head
    → header_bytes l (header_fields l head).seconds (header_fields l head).fraction (header_fields l head).captured_len (header_fields l head).original_len ≡ head
header_bytes_read_back l head size fits =
    let o = l.order in
    let a = bytes_read_back o head (omega arith) fits in
    let b = bytes_read_back o (drop 4 head) (omega (arith, length-drop 4 head)) (IsBytes-drop 4 head fits) in
    let c = bytes_read_back o (drop 8 head) (omega (arith, length-drop 8 head)) (IsBytes-drop 8 head fits) in
    let d = bytes_read_back o (drop 12 head) (omega (arith, length-drop 12 head)) (IsBytes-drop 12 head fits) in
    let last : take 4 (drop 12 head) ≡ drop 12 head = take_all 4 (drop 12 head) (omega (arith, length-drop 12 head)) in
    let third : take 4 (drop 8 head) ++ drop 12 head ≡ drop 8 head = ap (λ (x : List ℕ). take 4 (drop 8 head) ++ x) (sym (drop-drop 4 8 head)) ∙ take-append-drop 4 (drop 8 head) in
    let second : take 4 (drop 4 head) ++ drop 8 head ≡ drop 4 head = ap (λ (x : List ℕ). take 4 (drop 4 head) ++ x) (sym (drop-drop 4 4 head)) ∙ take-append-drop 4 (drop 4 head) in
    let first : take 4 head ++ drop 4 head ≡ head = take-append-drop 4 head in
    joined _ _ _ _ _ _ _ _ head _ _ a b c (d ∙ last) third second first

-- the fault of a packet's fields

pub reason_none : (l : Layout) (late high : ℕ) (head : PacketHeader) → is_file_header head ≡ false → head.captured_len ≤ MAX_SNAPLEN → head.fraction < fractions_of l.precision
    → high ≤ stamp_at l head.seconds head.fraction + late → reason_at l late high head ≡ None
reason_none l late high head packet few within in_time =
    let long : nat_lt MAX_SNAPLEN head.captured_len ≡ false = le-ltb MAX_SNAPLEN head.captured_len few in
    let whole : nat_le (fractions_of l.precision) head.fraction ≡ false = lt-leb (fractions_of l.precision) head.fraction within in
    let back : nat_lt (stamp_at l head.seconds head.fraction + late) high ≡ false = le-ltb _ high in_time in
    rw (packet, long, whole, back) refl

pub none_of : {A : Type 0} (b : Bool) (x : A) (o : Option A) → cond b (Some x) o ≡ None → (b ≡ false) × (o ≡ None)
none_of true x o e = cc
none_of false x o e = (refl, e)

-- nothing is wrong with the fields
pub record IsFine (l : Layout) (late high : ℕ) (head : PacketHeader) : Type 0 where
  pub no_file_header : is_file_header head ≡ false
  pub few : head.captured_len ≤ MAX_SNAPLEN
  pub within : head.fraction < fractions_of l.precision
  pub in_time : high ≤ stamp_at l head.seconds head.fraction + late

pub fine_from_none : (l : Layout) (late high : ℕ) (head : PacketHeader) → reason_at l late high head ≡ None → IsFine l late high head
fine_from_none l late high head e =
    let packet = none_of _ _ _ e in
    let long = none_of _ _ _ packet.1 in
    let whole = none_of _ _ _ long.1 in
    let back = none_of _ _ _ whole.1 in
    record { no_file_header = packet.0; few = ltb-false MAX_SNAPLEN head.captured_len long.0; within = leb-false (fractions_of l.precision) head.fraction whole.0; in_time = ltb-false _ high back.0 }

pub fractions_fit : (p : Precision) (n : ℕ) → n < fractions_of p → n < 2 ^ 32
fractions_fit Nanoseconds n h = omega arith
fractions_fit Microseconds n h = omega arith

-- ---- a packet as a reader sees it

-- the fields of the first packet
pub header-packet_bytes : (l : Layout) (r : Packet) (more : List ℕ) → r.seconds < 2 ^ 32 → r.fraction < 2 ^ 32 → length r.bytes < 2 ^ 32 → r.original_len < 2 ^ 32
    → header_fields l (take 16 (packet_bytes l r ++ more)) ≡ header_with r.seconds r.fraction (length r.bytes) r.original_len
header-packet_bytes l r more ps pf ph pw =
    let text : List ℕ = header_bytes l r.seconds r.fraction (length r.bytes) r.original_len in
    let front : take 16 (packet_bytes l r ++ more) ≡ text = ap (take 16) (append_assoc text r.bytes more) ∙ take_at text (r.bytes ++ more) 16 (length-header_bytes l r.seconds r.fraction (length r.bytes) r.original_len) in
    ap (header_fields l) front ∙ header_reads_back l r.seconds r.fraction (length r.bytes) r.original_len ps pf ph pw

-- where a good packet stands nothing ends
pub good_goes_on : (l : Layout) (most late : ℕ) (told : Told) (n high : ℕ) (r : Packet) (more : List ℕ) → IsGood l late high r → n < most
    → ending_at l most late told n high (packet_bytes l r ++ more) ≡ None
good_goes_on l most late told n high r more good few =
    let rest : List ℕ = packet_bytes l r ++ more in
    let head = header-packet_bytes l r more good.seconds_fit (fractions_fit l.precision r.fraction good.within_second) (omega (arith, good.few_bytes)) good.original_len_fits in
    let size : length rest ≡ 16 + length r.bytes + length more = length-append (packet_bytes l r) more ∙ ap (λ (x : ℕ). x + length more) (length-packet_bytes l r) in
    let some : nat_eq (length rest) 0 ≡ false = ne_eqb (length rest) 0 (λ e. absurd (omega (arith, size, e))) in
    let more_read : nat_eq n most ≡ false = ne_eqb n most (λ e. absurd (omega (arith, few, e))) in
    let long : nat_lt (length rest) 16 ≡ false = le-ltb (length rest) 16 (omega (arith, size)) in
    let fine : reason_at l late high (header_fields l (take 16 rest)) ≡ None =
    ap (reason_at l late high) head ∙ reason_none l late high (header_with r.seconds r.fraction (length r.bytes) r.original_len) good.no_file_header good.few_bytes good.within_second good.in_time in
    let whole : nat_lt (length rest - 16) (header_fields l (take 16 rest)).captured_len ≡ false =
    ap (λ (h : PacketHeader). nat_lt (length rest - 16) h.captured_len) head ∙ le-ltb (length rest - 16) (length r.bytes) (omega (arith, size)) in
    rw (some, more_read, long, fine, whole) refl
