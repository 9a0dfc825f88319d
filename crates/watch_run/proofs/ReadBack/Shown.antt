-- The lines of frames with their verdicts.
use Rattle.std.proofs.Common.{◌≡◌, ◌∙◌, ℕ, zero, suc, ◌+◌, ◌-◌, ◌^◌, ◌<◌, ◌≤◌, Bool, true, false, cond, nat_lt, ltb-false, le-leb, List, [], ◌∷◌, ◌++◌, length, map, take, drop, Option, None, Some, refl, sym, ap, subst, arith, append_assoc, append-nil}
use Rattle.std.proofs.lemmas.Bool.{false≢true}
use Rattle.std.specs.List.{AllByRecursion}
use Rattle.std.specs.Option.{option_map}
use Rattle.afdx_frame.specs.Frame.{Frame}
use Rattle.afdx_frame.specs.Number.{big_endian, number_at}
use Rattle.afdx_frame.specs.View.{link_of, sequence_of}
use Rattle.integrity.specs.declared.verdict.Integrity.{Integrity}
use Rattle.integrity.specs.declared.verdict.Integrity.TheVariants.{First, Reset, Next, Skip, Off, Out}
use Rattle.ledger_text.specs.FrameText.{IsFrameLine, has_length, length_shown, link_fits, shown}
use Rattle.ledger_text.specs.Reads.{Below, Optional}
use Rattle.pcap_io.specs.Bytes.{IsBytes}
use Rattle.policing.specs.declared.verdict.Policing.{Policing}
use Rattle.policing.specs.declared.verdict.Policing.TheVariants.{Within, Excess}
use Rattle.redundancy.specs.declared.verdict.Redundancy.{Redundancy}
use Rattle.verdict_ledger.specs.Entry.{Entry, entries_of}
use Rattle.verdict_ledger.specs.declared.version.LedgerVersion.{LedgerVersion}
use Rattle.verdict_ledger.specs.declared.version.LedgerVersion.TheVariants.{Two, Three}
use Rattle.vl_config.specs.Class.{class_by, class_of, is_addressed, link_of_frame}
use Rattle.vl_config.specs.Document.{VlTable}
use Rattle.vl_config.specs.Link.{VirtualLink}
use Rattle.vl_config.specs.declared.class.Class.{Class}
use Rattle.vl_config.specs.declared.class.Class.TheVariants.{Cut, Runt, Oversize, Foreign, Unconfigured, TooLong, Regular}
use Rattle.vl_judge.specs.Judgement.{IsReached, is_regular, judgement}
use Rattle.vl_judge.specs.Verdicts.{Judged, integrity_of, judged_frames, judged_frames_after, policing_of, redundancy_of, verdict_by, verdict_of, verdicts}
use Rattle.watch_run.specs.ReadBack.{IsKept}

-- ---- numbers in bytes

bytes_after : (n : ℕ) (xs : List ℕ) → IsBytes xs → IsBytes (drop n xs)
bytes_after zero xs h = h
bytes_after (suc n) [] h = h
bytes_after (suc n) (x ∷ xs) h = bytes_after n xs (λ i. h (suc i))

one_byte : (xs : List ℕ) → IsBytes xs → big_endian (take 1 xs) < 2 ^ 8
one_byte [] h = omega arith
one_byte (x ∷ xs) h = omega (arith, h 0)

two_bytes : (xs : List ℕ) → IsBytes xs → big_endian (take 2 xs) < 2 ^ 16
two_bytes [] h = omega arith
two_bytes (x ∷ []) h = omega (arith, h 0)
two_bytes (x ∷ y ∷ xs) h = omega (arith, h 0, h 1)

number_there : (offset size : ℕ) (bytes : List ℕ) → offset + size ≤ length bytes → number_at offset size bytes ≡ Some (big_endian (take size (drop offset bytes)))
number_there offset size bytes h =
    ap (λ (b : Bool). cond b (Some (big_endian (take size (drop offset bytes)))) None) (le-leb (offset + size) (length bytes) h)

link_there : (bytes : List ℕ) → IsBytes bytes → 60 ≤ length bytes → Optional link_fits true (link_of bytes)
link_there bytes h long =
    let at = number_there 4 2 bytes (omega arith) in
    subst (λ (o : Option ℕ). Optional link_fits true (option_map (λ n. record { 0 = n }) o)) (sym at)
    (record { present = refl; fits = two_bytes (drop 4 bytes) (bytes_after 4 bytes h) })

sequence_there : (bytes : List ℕ) → IsBytes bytes → 60 ≤ length bytes → Optional (Below (2 ^ 8)) true (sequence_of bytes)
sequence_there bytes h long =
    let at = number_there (length bytes - 1) 1 bytes (omega arith) in
    subst (λ (o : Option ℕ). Optional (Below (2 ^ 8)) true o) (sym at)
    (record { present = refl; fits = one_byte (drop (length bytes - 1) bytes) (bytes_after (length bytes - 1) bytes h) })

-- ---- a frame whose link is written has 60 bytes

neither : (a b : Bool) (other : Class) → is_addressed (cond a Cut (cond b Runt other)) ≡ true → (a ≡ false) × (b ≡ false)
neither true b other h = absurd (false≢true h)
neither false true other h = absurd (false≢true h)
neither false false other h = (refl, refl)

long_enough : (vl_table : VlTable) (f : Frame) → is_addressed (class_of vl_table f) ≡ true → 60 ≤ length f.bytes
long_enough vl_table f h =
    let tests = neither (nat_lt (length f.bytes) f.whole) (nat_lt f.whole 60) _ h in
    omega (arith, ltb-false (length f.bytes) f.whole tests.0, ltb-false f.whole 60 tests.1)

-- the word that is written of it, where it is
where_addressed : {T : Type 0} (Fits : T → Type 0) (b : Bool) (value : Option T) → (b ≡ true → Optional Fits true value) → Optional Fits b (cond b value None)
where_addressed Fits true value there = there refl
where_addressed Fits false value there = record { present = refl; fits = tt }

-- ---- its verdict

abbrev IsJudged : VlTable → Judged → Type 0
IsJudged vl_table j = (j.verdict.class ≡ class_of vl_table j.frame) × IsReached j.verdict

reached : (class : Class) (p : Policing) (i : Integrity) (r : Redundancy) → IsReached (judgement class p i r)
reached Cut p i r = record { policing = refl; integrity = refl; redundancy = refl }
reached Runt p i r = record { policing = refl; integrity = refl; redundancy = refl }
reached Oversize p i r = record { policing = refl; integrity = refl; redundancy = refl }
reached Foreign p i r = record { policing = refl; integrity = refl; redundancy = refl }
reached Unconfigured p i r = record { policing = refl; integrity = refl; redundancy = refl }
reached TooLong p i r = record { policing = refl; integrity = refl; redundancy = refl }
reached Regular Excess i r = record { policing = refl; integrity = refl; redundancy = refl }
reached Regular Within First r = record { policing = refl; integrity = refl; redundancy = refl }
reached Regular Within Reset r = record { policing = refl; integrity = refl; redundancy = refl }
reached Regular Within Next r = record { policing = refl; integrity = refl; redundancy = refl }
reached Regular Within Skip r = record { policing = refl; integrity = refl; redundancy = refl }
reached Regular Within Off r = record { policing = refl; integrity = refl; redundancy = refl }
reached Regular Within Out r = record { policing = refl; integrity = refl; redundancy = refl }

same_class : (class : Class) (p : Policing) (i : Integrity) (r : Redundancy) → (judgement class p i r).class ≡ class
same_class Cut p i r = refl
same_class Runt p i r = refl
same_class Oversize p i r = refl
same_class Foreign p i r = refl
same_class Unconfigured p i r = refl
same_class TooLong p i r = refl
same_class Regular Excess i r = refl
same_class Regular Within First r = refl
same_class Regular Within Reset r = refl
same_class Regular Within Next r = refl
same_class Regular Within Skip r = refl
same_class Regular Within Off r = refl
same_class Regular Within Out r = refl

-- without a link in the table no frame is regular
not_regular : (a b d e : Bool) → is_regular (cond a Cut (cond b Runt (cond d Oversize (cond e Foreign Unconfigured)))) ≡ false
not_regular true b d e = refl
not_regular false true d e = refl
not_regular false false true e = refl
not_regular false false false true = refl
not_regular false false false false = refl

judged_by : (constant : ℕ) (link : Option VirtualLink) (earlier : List Judged) (f : Frame)
    → (let class = class_by constant (option_map (λ l. l.smax) link) f in ((verdict_by link class earlier f).class ≡ class) × IsReached (verdict_by link class earlier f))
judged_by constant None earlier f = (refl, record { policing = sym (not_regular _ _ _ _); integrity = refl; redundancy = refl })
judged_by constant (Some link) earlier f =
    let class = class_by constant (Some link.smax) f in
    let p = policing_of link earlier f in
    let i = integrity_of link earlier f in
    let r = redundancy_of link earlier f in
    (same_class class p i r, reached class p i r)

judged : (vl_table : VlTable) (earlier : List Judged) (f : Frame) → IsJudged vl_table (record { frame = f; verdict = verdict_of vl_table earlier f })
judged vl_table earlier f = judged_by vl_table.constant (link_of_frame vl_table.links f) earlier f

all_more : (vl_table : VlTable) (js : List Judged) (j : Judged) → AllByRecursion (IsJudged vl_table) js → IsJudged vl_table j → AllByRecursion (IsJudged vl_table) (js ++ j ∷ [])
all_more vl_table [] j h is = (is, tt)
all_more vl_table (k ∷ js) j h is = (h.0, all_more vl_table js j h.1 is)

all_judged : (vl_table : VlTable) (earlier : List Judged) (frames : List Frame) → AllByRecursion (IsJudged vl_table) earlier
    → AllByRecursion (IsJudged vl_table) (judged_frames_after vl_table earlier frames)
all_judged vl_table earlier [] h = h
all_judged vl_table earlier (f ∷ frames) h =
    all_judged vl_table (earlier ++ record { frame = f; verdict = verdict_of vl_table earlier f } ∷ []) frames
    (all_more vl_table earlier (record { frame = f; verdict = verdict_of vl_table earlier f }) h (judged vl_table earlier f))

frames_more : (js : List Judged) (j : Judged) → map (λ x. x.frame) (js ++ j ∷ []) ≡ map (λ x. x.frame) js ++ j.frame ∷ []
frames_more [] j = refl
frames_more (k ∷ js) j = ap (λ (l : List Frame). k.frame ∷ l) (frames_more js j)

same_frames : (vl_table : VlTable) (earlier : List Judged) (frames : List Frame)
    → map (λ x. x.frame) (judged_frames_after vl_table earlier frames) ≡ map (λ x. x.frame) earlier ++ frames
same_frames vl_table earlier [] = sym (append-nil (map (λ x. x.frame) earlier))
same_frames vl_table earlier (f ∷ frames) =
    let j : Judged = record { frame = f; verdict = verdict_of vl_table earlier f } in
    same_frames vl_table (earlier ++ j ∷ []) frames
    ∙ ap (λ (l : List Frame). l ++ frames) (frames_more earlier j)
    ∙ append_assoc (map (λ x. x.frame) earlier) (f ∷ []) frames

-- ---- the lines

length_there : (version : LedgerVersion) (whole : ℕ) → whole < 2 ^ 32 → Optional (Below (2 ^ 32)) (has_length version) (length_shown version whole)
length_there Two whole h = record { present = refl; fits = tt }
length_there Three whole h = record { present = refl; fits = h }

shown_line : (version : LedgerVersion) (vl_table : VlTable) (e : Entry) → e.verdict.class ≡ class_of vl_table e.frame → IsReached e.verdict → IsKept e
    → IsFrameLine version (shown version e)
shown_line version vl_table e same is h =
    let long = λ (addressed : is_addressed e.verdict.class ≡ true). long_enough vl_table e.frame (sym (ap is_addressed same) ∙ addressed) in
    record {
      stamp = omega (arith, h.held.frame.stamp_fits);
      number = h.held.frame.number_fits;
      link = where_addressed link_fits (is_addressed e.verdict.class) (link_of e.frame.bytes) (λ addressed. link_there e.frame.bytes h.held.bytes (long addressed));
      sequence = where_addressed (Below (2 ^ 8)) (is_addressed e.verdict.class) (sequence_of e.frame.bytes)
          (λ addressed. sequence_there e.frame.bytes h.held.bytes (long addressed));
      reached = is;
      kept = h.kept;
      mask = h.mask;
      length = length_there version e.frame.whole h.held.whole;
    }

lines_of : (version : LedgerVersion) (vl_table : VlTable) (js : List Judged) (keeps : List (Option ℕ)) (masks : List ℕ) → AllByRecursion (IsJudged vl_table) js
    → AllByRecursion IsKept (entries_of (map (λ x. x.frame) js) (map (λ x. x.verdict) js) keeps masks)
    → AllByRecursion (λ e. IsFrameLine version (shown version e)) (entries_of (map (λ x. x.frame) js) (map (λ x. x.verdict) js) keeps masks)
lines_of version vl_table [] keeps masks all h = tt
lines_of version vl_table (j ∷ js) [] masks all h = tt
lines_of version vl_table (j ∷ js) (k ∷ keeps) [] all h = tt
lines_of version vl_table (j ∷ js) (k ∷ keeps) (m ∷ masks) all h = (shown_line version vl_table _ all.0.0 all.0.1 h.0, lines_of version vl_table js keeps masks all.1 h.1)

pub shown_lines : (version : LedgerVersion) (vl_table : VlTable) (frames : List Frame) (keeps : List (Option ℕ)) (masks : List ℕ)
    → AllByRecursion IsKept (entries_of frames (verdicts vl_table frames) keeps masks)
    → AllByRecursion (λ e. IsFrameLine version (shown version e)) (entries_of frames (verdicts vl_table frames) keeps masks)
shown_lines version vl_table frames keeps masks =
    let said = verdicts vl_table frames in
    subst (λ (fs : List Frame). AllByRecursion IsKept (entries_of fs said keeps masks) → AllByRecursion (λ e. IsFrameLine version (shown version e)) (entries_of fs said keeps masks))
    (same_frames vl_table [] frames)
    (lines_of version vl_table (judged_frames vl_table frames) keeps masks (all_judged vl_table [] frames tt))
