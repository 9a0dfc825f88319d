-- The first bytes of a file or of a packet, and what they say as they are drawn.
use Rattle.std.proofs.Common.{◌≡◌, ℕ, ◌<◌, Bool, true, false, if◌then◌else◌, ◌==◌, List, [], ◌++◌, length, drop, nat_lt, Option, Some, None, Result, Ok, Err, IfOk, IfSome, ◌⊎◌, inl, inr, refl, sym, ap, ◌∙◌, arith}
use Rattle.std.proofs.lemmas.Bool.{eqb-false, lt-ltb}
use Rattle.std.proofs.lemmas.List.{append-nil, drop_at}
use Rattle.std.specs.Io.KnownBytes.{Consumes, IsAtEnd}
use Rattle.pcap_io.proofs.FileHeader.{header-append}
use Rattle.pcap_io.specs.Layout.{header_of}
use Rattle.pcap_io.specs.Recording.{header_fields, reason_at}
use Rattle.pcap_io.specs.declared.layout.HeaderFault.{HeaderFault}
use Rattle.pcap_io.specs.declared.layout.Layout.{Layout}
use Rattle.pcap_io.specs.declared.packet_header.PacketHeader.{PacketHeader}
use Rattle.pcap_io.specs.declared.recording.BadReason.{BadReason}
use Rattle.pcap_io.specs.declared.recording.Ending.{Ending}
use Rattle.pcap_io.specs.declared.recording.Ending.TheVariants.{Clean, Cut, Bad}
use Rattle.pcap_io.specs.Told.{StaysTold, Tells, told_ending, told_fault}
use Rattle.pcap_io.specs.declared.told.Told.{Told}
use Rattle.pcap_io.specs.declared.told.Told.TheVariants as tolds
use Rattle.pcapng.specs.Given.{Given, followed, only}
use Rattle.recording_files.specs.Given.{end_of, given_at, given_body, given_end, given_header, header_text, part_given}
use Rattle.recording_files.specs.Input.{ReadsHeader, ReadsStart}
use Rattle.recording_files.proofs.Given.{ends_bad, ends_short, given_ending, given_start}

which : (b : Bool) → (b ≡ true) ⊎ (b ≡ false)
which true = inl refl
which false = inr refl

in_any : (r : Result Layout HeaderFault) (P : Type 0) → P → IfOk r (λ layout. P)
in_any (Ok layout) P p = p
in_any (Err fault) P p = tt

-- a file's header is drawn
pub header_drawn : (told : Told) (l m : Option (List ℕ)) (drawn : List ℕ) (r : Result Layout HeaderFault) → length drawn ≡ 24 → Consumes l m drawn → r ≡ header_of told drawn → ReadsHeader told l m r
header_drawn told None m drawn r size gone read = tt
header_drawn told (Some xs) None drawn r size gone read = absurd gone
header_drawn told (Some xs) (Some ys) drawn r size gone read = (
  ap (header_of told) gone ∙ (header-append told drawn ys size ∙ sym read),
  (ys, refl, in_any r (ys ≡ drop 24 xs) (sym (ap (drop 24) gone ∙ drop_at drawn ys 24 size))),
)

-- all that is left is drawn
all_drawn : (xs ys drawn : List ℕ) → xs ≡ drawn ++ ys → ys ≡ [] → xs ≡ drawn
all_drawn xs ys drawn gone end = gone ∙ (ap (λ (b : List ℕ). drawn ++ b) end ∙ append-nil drawn)

short_ends : (layout : Layout) (told : Told) (bytes : List ℕ) → length bytes < 16 → end_of layout told bytes ≡ Some (if length bytes == 0 then told_ending told 1 0 else Cut 0)
short_ends layout told bytes few = elim (which (length bytes == 0)) [
  | inl none ↦ rw none refl
  | inr some ↦
      let ends : end_of layout told bytes ≡ Some (Cut 0) = ends_short layout told bytes (omega (arith, eqb-false (length bytes) 0 some)) few in
      ends ∙ rw some refl
]

-- fewer bytes are left than a header has
pub start_short : (layout : Layout) (told : Told) (l m : Option (List ℕ)) (drawn : List ℕ) (ending : Ending) → ending ≡ (if length drawn == 0 then told_ending told 1 0 else Cut 0) → length drawn < 16
    → IsAtEnd m → Consumes l m drawn → ReadsStart layout told l m (Err ending)
start_short layout told None m drawn ending e few end gone = tt
start_short layout told (Some xs) None drawn ending e few end gone = absurd gone
start_short layout told (Some xs) (Some ys) drawn ending e few end gone =
    let all = all_drawn xs ys drawn gone end in
    let part : nat_lt (length drawn) 16 ≡ true = lt-ltb (length drawn) 16 few in
    let text : part_given layout xs ≡ only tolds.Cut = ap (part_given layout) all ∙ rw part refl in (
      ys,
      refl,
      λ next. given_ending layout told xs next ending (ap (end_of layout told) all ∙ (short_ends layout told drawn few ∙ ap Some (sym e)))
          ∙ ap (λ (b : Given). given_end (Some ending) b next (only tolds.Nothing)) text,
    )

-- the header can't be read on from
pub start_bad : (layout : Layout) (told : Told) (l m : Option (List ℕ)) (drawn : List ℕ) (reason : BadReason) → length drawn ≡ 16 → reason_at layout 0 0 (header_fields layout drawn) ≡ Some reason
    → Consumes l m drawn → ReadsStart layout told l m (Err (Bad 0 reason))
start_bad layout told None m drawn reason size wrong gone = tt
start_bad layout told (Some xs) None drawn reason size wrong gone = absurd gone
start_bad layout told (Some xs) (Some ys) drawn reason size wrong gone =
    (ys, refl, λ next. given_ending layout told xs next (Bad 0 reason) (ap (end_of layout told) gone ∙ ends_bad layout told drawn ys reason size wrong))

-- a packet's bytes follow
pub start_good : (layout : Layout) (told : Told) (l m : Option (List ℕ)) (drawn : List ℕ) (h : PacketHeader) → length drawn ≡ 16 → reason_at layout 0 0 (header_fields layout drawn) ≡ None
    → h ≡ given_header layout (header_fields layout drawn) → Consumes l m drawn
    → IfSome l (λ xs. (ys : List ℕ) × (m ≡ Some ys) × ((next : Given) → given_at layout told xs next ≡ followed (header_text h) (given_body layout told h ys next)))
start_good layout told None m drawn h size fine given gone = tt
start_good layout told (Some xs) None drawn h size fine given gone = absurd gone
start_good layout told (Some xs) (Some ys) drawn h size fine given gone = (
  ys,
  refl,
  λ next. ap (λ (b : List ℕ). given_at layout told b next) gone
      ∙ (given_start layout told drawn ys next size fine ∙ ap (λ (k : PacketHeader). followed (header_text k) (given_body layout told k ys next)) (sym given)),
)

-- a file that ends within a header says what its source tells
pub start_told : (layout : Layout) (old new value : Told) (l m : Option (List ℕ)) (drawn : List ℕ) (ending : Ending) → ending ≡ (if length drawn == 0 then told_ending value 1 0 else Cut 0)
    → length drawn < 16 → IsAtEnd m → Consumes l m drawn → StaysTold l old new → Tells m value new → ReadsStart layout old l m (Err ending)
start_told layout old new value None m drawn ending e few end gone stays tells = tt
start_told layout old new value (Some xs) None drawn ending e few end gone stays tells = absurd gone
start_told layout old new value (Some xs) (Some ys) drawn ending e few end gone stays tells =
    start_short layout old (Some xs) (Some ys) drawn ending
    (e ∙ ap (λ (t : Told). if length drawn == 0 then told_ending t 1 0 else Cut 0) (tells ∙ stays)) few end gone

pub header_short : (old new value : Told) (l m : Option (List ℕ)) (drawn : List ℕ) (fault : HeaderFault) → fault ≡ told_fault value → length drawn < 24 → IsAtEnd m
    → Consumes l m drawn → StaysTold l old new → Tells m value new → ReadsHeader old l m (Err fault)
header_short old new value None m drawn fault e few end gone stays tells = tt
header_short old new value (Some xs) None drawn fault e few end gone stays tells = absurd gone
header_short old new value (Some xs) (Some ys) drawn fault e few end gone stays tells =
    let all = all_drawn xs ys drawn gone end in
    let short : nat_lt (length drawn) 24 ≡ true = lt-ltb (length drawn) 24 few in
    let read : header_of old drawn ≡ Err (told_fault old) = rw short refl in (
      ap (header_of old) all ∙ (read ∙ ap Err (sym (e ∙ ap told_fault (tells ∙ stays)))),
      (ys, refl, tt),
    )
