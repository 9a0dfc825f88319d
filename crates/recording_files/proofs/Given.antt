-- The bytes that are given for a file, packet by packet.
use Rattle.std.proofs.Common.{◌≡◌, ◌≢◌, ℕ, zero, suc, ◌+◌, ◌-◌, ◌<◌, ◌≤◌, Bool, true, false, if◌then◌else◌, List, [], ◌++◌, length, take, drop, nat_lt, nat_eq, Option, Some, None, ◌⊎◌, inl, inr, refl, sym, ap, ◌∙◌, arith, append_assoc}
use Rattle.std.proofs.lemmas.Bool.{cases_lt, eqb-false, le-ltb, lt-ltb, ne_eqb}
use Rattle.std.proofs.lemmas.List.{append-nil, drop-drop, drop_at, length-append, length-drop, take_at}
use Rattle.pcap_io.specs.Recording.{header_fields, reason_at}
use Rattle.pcap_io.specs.declared.layout.Layout.{Layout}
use Rattle.pcap_io.specs.declared.packet_header.PacketHeader.{PacketHeader}
use Rattle.pcap_io.specs.declared.position.Position.{Position}
use Rattle.pcap_io.specs.declared.recording.BadReason.{BadReason}
use Rattle.pcap_io.specs.declared.recording.BadReason.TheVariants.{TooMany}
use Rattle.pcap_io.specs.declared.recording.Ending.{Ending}
use Rattle.pcap_io.specs.declared.recording.Ending.TheVariants.{Clean, Cut, Bad}
use Rattle.pcap_io.specs.declared.recording.Stage.TheVariants.{Going}
use Rattle.afdx_frame.specs.declared.key.Network.TheVariants.{A}
use Rattle.pcap_io.specs.Told.{told_ending}
use Rattle.pcap_io.specs.declared.told.Told.{Told}
use Rattle.pcap_io.specs.declared.told.Told.TheVariants as tolds
use Rattle.pcapng.specs.Given.{Given, followed, only, plain}
use Rattle.pcap_io.proofs.PacketBytes.{none_of}
use Rattle.pcap_io.proofs.Steps.{bad_at_head, cut_at_head}
use Rattle.recording_files.specs.Given.{end_of, given_at, given_body, given_end, given_header, given_within, head_of, header_text, packet_text, part_given}

-- ---- all that is given after bytes

abbrev pub with_bytes : Told → List ℕ → Given
with_bytes told bytes = record { bytes = bytes; told = told }

pub follow_both : (a b : List ℕ) (g : Given) → followed (a ++ b) g ≡ followed a (followed b g)
follow_both a b g = ap (with_bytes g.told) (append_assoc a b g.bytes)

pub follow_none : (a : List ℕ) (told : Told) → followed a (only told) ≡ record { bytes = a; told = told }
follow_none a told = ap (with_bytes told) (append-nil a)

-- ---- endings

pub same_ending : (d e : Ending) → ◌≡◌ {A = Option Ending} (Some d) (Some e) → d ≡ e
same_ending d e h = cc

abbrev IsUnclean : Ending → Type 0
IsUnclean (Clean n) = ⊥
IsUnclean e = Unit {0}

not_clean : (full : Bool) (e : Ending) (n m : ℕ) → IsUnclean e → (if full then Bad n TooMany else e) ≡ Clean m → ⊥
not_clean true e n m unclean same = cc
not_clean false (Clean k) n m unclean same = absurd unclean
not_clean false (Cut k) n m unclean same = cc
not_clean false (Bad k reason) n m unclean same = cc

-- where nothing is told the end is clean, wherever it is
pub clean_told : (told : Told) (most n m : ℕ) → told_ending told most n ≡ Clean m → told_ending told 1 0 ≡ Clean 0
clean_told tolds.Nothing most n m e = refl
clean_told (tolds.NoHeader fault) most n m e = refl
clean_told tolds.Cut most n m e = absurd (not_clean (nat_eq n most) (Cut n) n m tt e)
clean_told (tolds.Bad reason) most n m e = absurd (not_clean (nat_eq n most) (Bad n reason) n m tt e)

-- ---- one packet after another

option_cases : {A : Type 0} (o : Option A) → ((x : A) × (o ≡ Some x)) ⊎ (o ≡ None)
option_cases None = inr refl
option_cases (Some x) = inl (x, refl)

-- at an ending the packets behind it don't matter
ends_alike : (e : Ending) (part next p q : Given) → given_end (Some e) part next p ≡ given_end (Some e) part next q
ends_alike (Clean n) part next p q = refl
ends_alike (Cut n) part next p q = refl
ends_alike (Bad n reason) part next p q = refl

-- where nothing ends, bytes are left
some_bytes : (l : Layout) (told : Told) (bytes : List ℕ) → end_of l told bytes ≡ None → 0 < length bytes
some_bytes l told bytes e = omega (arith, eqb-false (length bytes) 0 (none_of _ _ _ e).0)

-- any bound on the number of packets gives the same
any_bound : (n m : ℕ) (l : Layout) (told : Told) (bytes : List ℕ) (next : Given) → length bytes < n → length bytes < m → given_within n l told bytes next ≡ given_within m l told bytes next
unfolding given_within
any_bound zero m l told bytes next few less = absurd (omega arith)
any_bound (suc n) zero l told bytes next few less = absurd (omega arith)
any_bound (suc n) (suc m) l told bytes next few less =
    let rest : List ℕ = drop (16 + (head_of l bytes).captured_len) bytes in
    let size = length-drop (16 + (head_of l bytes).captured_len) bytes in
    elim (option_cases (end_of l told bytes)) [
      | inl found ↦ rw found.1 (ends_alike found.0 (part_given l bytes) next _ _)
      | inr none ↦
          let some = some_bytes l told bytes none in
          rw none (ap (followed (packet_text l (head_of l bytes) (drop 16 bytes))) (any_bound n m l told rest next (omega (arith, some, size)) (omega (arith, some, size))))
    ]

-- an ending is given
pub given_ending : (l : Layout) (told : Told) (bytes : List ℕ) (next : Given) (e : Ending) → end_of l told bytes ≡ Some e → given_at l told bytes next ≡ given_end (Some e) (part_given l bytes) next (only tolds.Nothing)
unfolding given_at given_within
given_ending l told bytes next e found = rw found (ends_alike e (part_given l bytes) next _ (only tolds.Nothing))

-- a packet is given, and then those behind it
pub given_first : (l : Layout) (told : Told) (bytes : List ℕ) (next : Given) → end_of l told bytes ≡ None
    → given_at l told bytes next ≡ followed (packet_text l (head_of l bytes) (drop 16 bytes)) (given_at l told (drop (16 + (head_of l bytes).captured_len) bytes) next)
unfolding given_at given_within
given_first l told bytes next none =
    let rest : List ℕ = drop (16 + (head_of l bytes).captured_len) bytes in
    let size = length-drop (16 + (head_of l bytes).captured_len) bytes in
    let some = some_bytes l told bytes none in
    rw none (ap (followed (packet_text l (head_of l bytes) (drop 16 bytes)))
    (any_bound (length bytes) (suc (length rest)) l told rest next (omega (arith, some, size)) (omega arith)))

-- ---- all that the first bytes say

-- a reader that takes one packet, whatever its time
abbrev at_start : Layout → Position
at_start l = record {
  network = A;
  layout = l;
  most = 1;
  late = 0;
  count = 0;
  high = 0;
  stage = Going;
}

one : ◌≢◌ {A = ℕ} 0 1
one e = omega (arith, e)

pub ends_clean : (l : Layout) (told : Told) → end_of l told [] ≡ Some (told_ending told 1 0)
ends_clean l told = refl

-- less than a header
pub ends_short : (l : Layout) (told : Told) (bytes : List ℕ) → 0 < length bytes → length bytes < 16 → end_of l told bytes ≡ Some (Cut 0)
ends_short l told bytes some few =
    let first : nat_eq (length bytes) 0 ≡ false = ne_eqb (length bytes) 0 (λ e. absurd (omega (arith, some, e))) in
    let second : nat_lt (length bytes) 16 ≡ true = lt-ltb (length bytes) 16 few in
    rw (first, second) refl

pub ends_bad : (l : Layout) (told : Told) (head more : List ℕ) (reason : BadReason) → length head ≡ 16 → reason_at l 0 0 (header_fields l head) ≡ Some reason
    → end_of l told (head ++ more) ≡ Some (Bad 0 reason)
ends_bad l told head more reason size wrong = bad_at_head (at_start l) told head more reason size one wrong

ends_cut : (l : Layout) (told : Told) (head more : List ℕ) → length head ≡ 16 → reason_at l 0 0 (header_fields l head) ≡ None
    → length more < (header_fields l head).captured_len → end_of l told (head ++ more) ≡ Some (Cut 0)
ends_cut l told head more size fine short = cut_at_head (at_start l) told head more size one fine short

goes_on : (l : Layout) (told : Told) (head more : List ℕ) → length head ≡ 16 → reason_at l 0 0 (header_fields l head) ≡ None
    → (header_fields l head).captured_len ≤ length more → end_of l told (head ++ more) ≡ None
goes_on l told head more size fine whole =
    let rest : List ℕ = head ++ more in
    let len = length-append head more in
    let front = take_at head more 16 size in
    let some : nat_eq (length rest) 0 ≡ false = ne_eqb (length rest) 0 (λ e. absurd (omega (arith, size, len, e))) in
    let long : nat_lt (length rest) 16 ≡ false = le-ltb (length rest) 16 (omega (arith, size, len)) in
    let reads : reason_at l 0 0 (header_fields l (take 16 rest)) ≡ None = ap (λ (h : List ℕ). reason_at l 0 0 (header_fields l h)) front ∙ fine in
    let enough : nat_lt (length rest - 16) (header_fields l (take 16 rest)).captured_len ≡ false =
    ap (λ (h : List ℕ). nat_lt (length rest - 16) (header_fields l h).captured_len) front ∙ le-ltb (length rest - 16) _ (omega (arith, size, len, whole)) in
    rw (some, long, reads, enough) refl

-- after a header that is fine the bytes of its packet are given
pub given_start : (l : Layout) (told : Told) (head more : List ℕ) (next : Given) → length head ≡ 16 → reason_at l 0 0 (header_fields l head) ≡ None
    → given_at l told (head ++ more) next ≡ followed (header_text (given_header l (header_fields l head))) (given_body l told (given_header l (header_fields l head)) more next)
given_start l told head more next size fine =
    let n : ℕ = (header_fields l head).captured_len in
    let first : head_of l (head ++ more) ≡ header_fields l head = ap (header_fields l) (take_at head more 16 size) in
    let behind : drop 16 (head ++ more) ≡ more = drop_at head more 16 size in
    let rest : drop (16 + n) (head ++ more) ≡ drop n more = sym (drop-drop n 16 (head ++ more)) ∙ ap (drop n) behind in
    elim (cases_lt (length more) n) [
      | inl short ↦
          let part : nat_lt (length more) n ≡ true = lt-ltb (length more) n short in
          let long : nat_lt (length (head ++ more)) 16 ≡ false = le-ltb (length (head ++ more)) 16 (omega (arith, size, length-append head more)) in
          let text : part_given l (head ++ more) ≡ plain (header_text (given_header l (header_fields l head)) ++ more) =
          rw long (ap (λ (h : PacketHeader). plain (header_text (given_header l h) ++ drop 16 (head ++ more))) first
          ∙ ap (λ (b : List ℕ). plain (header_text (given_header l (header_fields l head)) ++ b)) behind) in
          rw part (given_ending l told (head ++ more) next (Cut 0) (ends_cut l told head more size fine short) ∙ text)
      | inr whole ↦
          let all : nat_lt (length more) n ≡ false = le-ltb (length more) n whole in
          let given = given_first l told (head ++ more) next (goes_on l told head more size fine whole) in
          rw all (given
          ∙ (ap (λ (h : PacketHeader). followed (packet_text l h (drop 16 (head ++ more))) (given_at l told (drop (16 + h.captured_len) (head ++ more)) next)) first
          ∙ (ap (λ (b : List ℕ). followed (packet_text l (header_fields l head) b) (given_at l told (drop (16 + n) (head ++ more)) next)) behind
          ∙ (ap (λ (b : List ℕ). followed (packet_text l (header_fields l head) more) (given_at l told b next)) rest
          ∙ follow_both (header_text (given_header l (header_fields l head))) (take n more) (given_at l told (drop n more) next)))))
    ]

-- the bytes of a packet are there
pub given_whole : (l : Layout) (told : Told) (h : PacketHeader) (body more : List ℕ) (next : Given) → length body ≡ h.captured_len
    → given_body l told h (body ++ more) next ≡ followed body (given_at l told more next)
given_whole l told h body more next size =
    let all : nat_lt (length (body ++ more)) h.captured_len ≡ false = le-ltb _ _ (omega (arith, size, length-append body more)) in
    let front : take h.captured_len (body ++ more) ≡ body = take_at body more h.captured_len size in
    let behind : drop h.captured_len (body ++ more) ≡ more = drop_at body more h.captured_len size in
    rw (all, front, behind) refl

-- too few are
pub given_part : (l : Layout) (told : Told) (h : PacketHeader) (bytes : List ℕ) (next : Given) → length bytes < h.captured_len → given_body l told h bytes next ≡ plain bytes
given_part l told h bytes next short =
    let part : nat_lt (length bytes) h.captured_len ≡ true = lt-ltb (length bytes) h.captured_len short in
    rw part refl
