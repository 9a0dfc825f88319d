-- Consequences of the fields that are read so far.
use Rattle.std.proofs.Common.{◌≡◌, ◌∙◌, true, ℕ, suc, ◌^◌, length, ◌<◌, ◌↔◌, false, List, [], ◌∷◌, Option, None, Some, IfSome, Result, Ok, Err, is_some, refl, sym, ap, subst, arith, lit<}
use Rattle.std.specs.Option.{option_map_or}
use Rattle.std.specs.Result.{result_ok}
use Rattle.std.specs.Fmt.{decimal}
use Rattle.std.proofs.lemmas.Bool.{false≢true}
use Rattle.std.proofs.lemmas.Fmt.{decimal_nonempty}
use Rattle.afdx_frame.specs.declared.key.VlId.{VlId}
use Rattle.afdx_frame.specs.declared.key.Network.{Network}
use Rattle.afdx_frame.specs.declared.key.Network.TheVariants.{A, B}
use Rattle.vl_config.specs.declared.class.Class.{Class}
use Rattle.vl_config.specs.declared.class.Class.TheVariants.{Cut, Runt, Oversize, Foreign, Unconfigured, TooLong, Regular}
use Rattle.policing.specs.declared.verdict.Policing.{Policing}
use Rattle.policing.specs.declared.verdict.Policing.TheVariants.{Within, Excess}
use Rattle.integrity.specs.declared.verdict.Integrity.{Integrity}
use Rattle.integrity.specs.declared.verdict.Integrity.TheVariants.{First, Reset, Next, Skip, Off, Out}
use Rattle.integrity.specs.Sequence.{is_valid}
use Rattle.redundancy.specs.declared.verdict.Redundancy.{Redundancy}
use Rattle.redundancy.specs.declared.verdict.Redundancy.TheVariants.{Deliver, Copy, Both}
use Rattle.vl_judge.specs.Judgement.{is_regular, is_within}
use Rattle.redundancy.specs.Word.{redundancy_word}
use Rattle.integrity.specs.Word.{integrity_word}
use Rattle.policing.specs.Word.{policing_word}
use Rattle.vl_config.specs.Class.{class_word, is_addressed}
use Rattle.afdx_frame.specs.Frame.{network_letter}
use Rattle.verdict_ledger.specs.Text.{mask_text}
use Rattle.ledger_text.specs.Reads.{Any, Below, Optional, Reads, dash_or}
use Rattle.ledger_text.specs.Fields.{Agrees, first_field, next_fields, fields_of}
use Rattle.ledger_text.specs.FrameText.{IsFrameLine, IsFrameFault, IsFrameText, IsLengthRead, IsMaskOf, IsReadOf, Leads, frame_fields, has_length, length_fields, link_fits, link_text, stamp_bound}
use Rattle.verdict_ledger.specs.declared.version.LedgerVersion.{LedgerVersion}
use Rattle.verdict_ledger.specs.declared.version.LedgerVersion.TheVariants.{Two, Three}
use Rattle.ledger_text.specs.declared.frame.FrameLine.{FrameLine}
use Rattle.ledger_text.specs.declared.fault.FrameFault.{FrameFault}
use Rattle.ledger_text.specs.declared.fault.FrameFault.TheVariants as faults
use Rattle.ledger_text.proofs.Spelling.{make, one_class, one_policing, one_integrity, one_link, one_number, wider}

-- ---- all that a step of reading says

pub got : {T : Type 0} (Fits : T → Type 0) (text : T → List ℕ) (field : List ℕ) (o : Option T) (r : Result T FrameFault) (x : T)
    → Reads Fits text field o → o ≡ result_ok r → r ≡ Ok x → Fits x × (text x ≡ field)
got Fits text field o r x reads part e =
    let some : o ≡ Some x = part ∙ ap result_ok e in
    subst (Reads Fits text field) some reads

-- the value is read whose text the field is
pub reads_any : {T : Type 0} (text : T → List ℕ) (field : List ℕ) (o : Option T) → ((x : T) → (text x ≡ field) ↔ (o ≡ Some x)) → Reads Any text field o
reads_any {T = T} text field None is = λ x fits e. false≢true (ap (λ (o : Option T). is_some o) ((is x).0 e))
reads_any text field (Some x) is = (tt, (is x).1 refl)

pub missed : {T : Type 0} (Fits : T → Type 0) (text : T → List ℕ) (field : List ℕ) (o : Option T) (r : Result T FrameFault) (fault : FrameFault)
    → Reads Fits text field o → o ≡ result_ok r → r ≡ Err fault → (x : T) → Fits x → text x ≡ field → ⊥
missed Fits text field o r fault reads part e =
    let none : o ≡ None = part ∙ ap result_ok e in
    subst (Reads Fits text field) none reads

pub told : (version : LedgerVersion) (line : List ℕ) (fault : FrameFault) (r : Result FrameLine FrameFault) → r ≡ Err fault → IsFrameFault version (fields_of line) fault
    → IsReadOf version line r
told version line fault r e h = subst (IsReadOf version line) (sym e) h

-- ---- values that may follow those that are read

pub record Fit (version : LedgerVersion) (s i : ℕ) (l : Option VlId) (q : Option ℕ) (c : Class) (p : Option Policing) (t : Option Integrity) (r : Option Redundancy) (k : Option ℕ) (m : ℕ) (o : Option ℕ) : Type 0 where
  pub stamp : s < stamp_bound
  pub number : i < 2 ^ 32
  pub link : IfSome l link_fits
  pub sequence : Optional (Below (2 ^ 8)) (is_some l) q
  pub class : is_addressed c ≡ is_some l
  pub policing : is_some p ≡ is_regular c
  pub integrity : is_some t ≡ option_map_or is_within p false
  pub redundancy : is_some r ≡ option_map_or is_valid t false
  pub kept : IfSome k (Below (2 ^ 32))
  pub mask : IsMaskOf k m
  pub length : Optional (Below (2 ^ 32)) (has_length version) o

pub fits : (version : LedgerVersion) (s : ℕ) (n : Network) (i : ℕ) (l : Option VlId) (q : Option ℕ) (c : Class) (p : Option Policing) (t : Option Integrity) (r : Option Redundancy) (k : Option ℕ) (m : ℕ) (o : Option ℕ)
    → Fit version s i l q c p t r k m o → IsFrameLine version (make s n i l q c p t r k m o)
fits version s n i l q c p t r k m o f = record {
  stamp = f.stamp;
  number = f.number;
  link = record { present = sym f.class; fits = f.link };
  sequence = record { present = f.sequence.present ∙ sym f.class; fits = f.sequence.fits };
  reached = record { policing = f.policing; integrity = f.integrity; redundancy = f.redundancy };
  kept = f.kept;
  mask = f.mask;
  length = f.length;
}

abbrev any_sequence : Option VlId → Option ℕ
any_sequence None = None
any_sequence (Some l) = Some 0

abbrev any_class : Option VlId → Class
any_class None = Cut
any_class (Some l) = Unconfigured

abbrev any_policing : Class → Option Policing
any_policing Regular = Some Excess
any_policing _ = None

abbrev any_integrity : Option Policing → Option Integrity
any_integrity (Some Within) = Some Out
any_integrity _ = None

abbrev any_redundancy : Option Integrity → Option Redundancy
any_redundancy None = None
any_redundancy (Some Out) = None
any_redundancy (Some _) = Some Both

some_sequence : (l : Option VlId) → Optional (Below (2 ^ 8)) (is_some l) (any_sequence l)
some_sequence None = record { present = refl; fits = tt }
some_sequence (Some l) = record { present = refl; fits = lit< tt }

some_class : (l : Option VlId) → is_addressed (any_class l) ≡ is_some l
some_class None = refl
some_class (Some l) = refl

some_policing : (c : Class) → is_some (any_policing c) ≡ is_regular c
some_policing Cut = refl
some_policing Runt = refl
some_policing Oversize = refl
some_policing Foreign = refl
some_policing Unconfigured = refl
some_policing TooLong = refl
some_policing Regular = refl

some_integrity : (p : Option Policing) → is_some (any_integrity p) ≡ option_map_or is_within p false
some_integrity None = refl
some_integrity (Some Within) = refl
some_integrity (Some Excess) = refl

some_redundancy : (t : Option Integrity) → is_some (any_redundancy t) ≡ option_map_or is_valid t false
some_redundancy None = refl
some_redundancy (Some First) = refl
some_redundancy (Some Reset) = refl
some_redundancy (Some Next) = refl
some_redundancy (Some Skip) = refl
some_redundancy (Some Off) = refl
some_redundancy (Some Out) = refl

abbrev any_mask : Option ℕ → ℕ
any_mask None = 0
any_mask (Some k) = 1

some_mask : (k : Option ℕ) → IsMaskOf k (any_mask k)
some_mask None = record { small = lit< tt; names = refl }
some_mask (Some k) = record { small = lit< tt; names = refl }

no_mask : IsMaskOf None 0
no_mask = some_mask None

abbrev any_length : LedgerVersion → Option ℕ
any_length Two = None
any_length Three = Some 0

some_length : (version : LedgerVersion) → Optional (Below (2 ^ 32)) (has_length version) (any_length version)
some_length Two = record { present = refl; fits = tt }
some_length Three = record { present = refl; fits = lit< tt }

-- no verdict of the line's class
abbrev pub from_link : LedgerVersion → ℕ → Network → ℕ → Option VlId → Option ℕ → FrameLine
from_link version s n i l q = make s n i l q (any_class l) (any_policing (any_class l)) (any_integrity (any_policing (any_class l))) (any_redundancy (any_integrity (any_policing (any_class l)))) None 0 (any_length version)

link_fit : (version : LedgerVersion) (s : ℕ) (n : Network) (i : ℕ) (l : Option VlId) (q : Option ℕ) → s < stamp_bound → i < 2 ^ 32 → IfSome l link_fits
    → Optional (Below (2 ^ 8)) (is_some l) q → IsFrameLine version (from_link version s n i l q)
link_fit version s n i l q hs hi hl hq =
    let c = any_class l in
    let p = any_policing c in
    let t = any_integrity p in
    fits version s n i l q c p t (any_redundancy t) None 0 (any_length version) (record {
      stamp = hs;
      number = hi;
      link = hl;
      sequence = hq;
      class = some_class l;
      policing = some_policing c;
      integrity = some_integrity p;
      redundancy = some_redundancy t;
      kept = tt;
      mask = no_mask;
      length = some_length version;
    })

-- ---- the fault of each field

pub fault_stamp : (version : LedgerVersion) (fields : List (List ℕ)) → ((s : ℕ) → Below stamp_bound s → decimal s ≡ first_field fields → ⊥) → IsFrameFault version fields faults.Timestamp
fault_stamp version fields none = record {
  field = tt;
  before = (from_link version 0 A 0 None None, link_fit version 0 A 0 None None (lit< tt) (lit< tt) tt (some_sequence None), tt);
  departs = λ w p a. none w.stamp.0 p.stamp a.0;
}

pub fault_network : (version : LedgerVersion) (fields : List (List ℕ)) (s : ℕ) → s < stamp_bound → Agrees 1 (decimal s ∷ []) fields
    → ((n : Network) → Any n → network_letter n ≡ first_field (next_fields fields) → ⊥) → IsFrameFault version fields faults.Network
fault_network version fields s hs b none = record {
  field = tt;
  before = (from_link version s A 0 None None, link_fit version s A 0 None None hs (lit< tt) tt (some_sequence None), b);
  departs = λ w p a. none w.network tt a.1.0;
}

pub fault_index : (version : LedgerVersion) (fields : List (List ℕ)) (s : ℕ) (n : Network) → s < stamp_bound → Agrees 2 (decimal s ∷ network_letter n ∷ []) fields
    → ((i : ℕ) → Below (2 ^ 32) i → decimal i ≡ first_field (next_fields (next_fields fields)) → ⊥) → IsFrameFault version fields faults.Index
fault_index version fields s n hs b none = record {
  field = tt;
  before = (from_link version s n 0 None None, link_fit version s n 0 None None hs (lit< tt) tt (some_sequence None), b);
  departs = λ w p a. none w.number p.number a.1.1.0;
}

any_fits : {T : Type 0} (o : Option T) → IfSome o Any
any_fits None = tt
any_fits (Some x) = tt

pub fault_link : (version : LedgerVersion) (fields : List (List ℕ)) (s : ℕ) (n : Network) (i : ℕ) → s < stamp_bound → i < 2 ^ 32
    → Agrees 3 (decimal s ∷ network_letter n ∷ decimal i ∷ []) fields
    → ((x : Option VlId) → IfSome x link_fits → dash_or link_text x ≡ first_field (next_fields (next_fields (next_fields fields))) → ⊥) → IsFrameFault version fields faults.Link
fault_link version fields s n i hs hi b none = record {
  field = tt;
  before = (from_link version s n i None None, link_fit version s n i None None hs hi tt (some_sequence None), b);
  departs = λ w z a. none w.link z.link.fits a.1.1.1.0;
}

pub fault_sequence : (version : LedgerVersion) (fields : List (List ℕ)) (s : ℕ) (n : Network) (i : ℕ) (l : Option VlId) → s < stamp_bound → i < 2 ^ 32 → IfSome l link_fits
    → Agrees 4 (decimal s ∷ network_letter n ∷ decimal i ∷ dash_or link_text l ∷ []) fields
    → ((x : Option ℕ) → Optional (Below (2 ^ 8)) (is_some l) x → dash_or decimal x ≡ first_field (next_fields (next_fields (next_fields (next_fields fields)))) → ⊥) → IsFrameFault version fields faults.Sequence
fault_sequence version fields s n i l hs hi hl b none = record {
  field = tt;
  before = (from_link version s n i l (any_sequence l), link_fit version s n i l (any_sequence l) hs hi hl (some_sequence l), b);
  departs = λ w z a. let same = one_link w.link l z.link.fits hl (a.1.1.1.0 ∙ sym b.1.1.1.0) in none w.sequence (record { present = z.sequence.present ∙ (sym z.link.present ∙ ap is_some same); fits = z.sequence.fits }) a.1.1.1.1.0;
}

pub fault_class : (version : LedgerVersion) (fields : List (List ℕ)) (s : ℕ) (n : Network) (i : ℕ) (l : Option VlId) (q : Option ℕ) → s < stamp_bound → i < 2 ^ 32 → IfSome l link_fits → Optional (Below (2 ^ 8)) (is_some l) q
    → Agrees 5 (decimal s ∷ network_letter n ∷ decimal i ∷ dash_or link_text l ∷ dash_or decimal q ∷ []) fields
    → ((x : Class) → is_addressed x ≡ is_some l → class_word x ≡ first_field (next_fields (next_fields (next_fields (next_fields (next_fields fields))))) → ⊥) → IsFrameFault version fields faults.Class
fault_class version fields s n i l q hs hi hl hq b none = record {
  field = tt;
  before = (from_link version s n i l q, link_fit version s n i l q hs hi hl hq, b);
  departs = λ w z a. let same = one_link w.link l z.link.fits hl (a.1.1.1.0 ∙ sym b.1.1.1.0) in none w.verdict.class (sym z.link.present ∙ ap is_some same) a.1.1.1.1.1.0;
}

pub fault_policing : (version : LedgerVersion) (fields : List (List ℕ)) (s : ℕ) (n : Network) (i : ℕ) (l : Option VlId) (q : Option ℕ) (c : Class) → s < stamp_bound → i < 2 ^ 32 → IfSome l link_fits → Optional (Below (2 ^ 8)) (is_some l) q → is_addressed c ≡ is_some l
    → Agrees 6 (decimal s ∷ network_letter n ∷ decimal i ∷ dash_or link_text l ∷ dash_or decimal q ∷ class_word c ∷ []) fields
    → ((x : Option Policing) → Optional Any (is_regular c) x → dash_or policing_word x ≡ first_field (next_fields (next_fields (next_fields (next_fields (next_fields (next_fields fields)))))) → ⊥) → IsFrameFault version fields faults.Policing
fault_policing version fields s n i l q c hs hi hl hq hc b none = record {
  field = tt;
  before = (make s n i l q c (any_policing c) (any_integrity (any_policing c)) (any_redundancy (any_integrity (any_policing c))) None 0 (any_length version), fits version s n i l q c (any_policing c) (any_integrity (any_policing c)) (any_redundancy (any_integrity (any_policing c))) None 0 (any_length version) (record { stamp = hs; number = hi; link = hl; sequence = hq; class = hc; policing = some_policing c; integrity = some_integrity (any_policing c); redundancy = some_redundancy (any_integrity (any_policing c)); kept = tt; mask = no_mask; length = some_length version }), b);
  departs = λ w z a. let same = one_class w.verdict.class c (a.1.1.1.1.1.0 ∙ sym b.1.1.1.1.1.0) in none w.verdict.policing (record { present = z.reached.policing ∙ ap is_regular same; fits = any_fits w.verdict.policing }) a.1.1.1.1.1.1.0;
}

pub fault_integrity : (version : LedgerVersion) (fields : List (List ℕ)) (s : ℕ) (n : Network) (i : ℕ) (l : Option VlId) (q : Option ℕ) (c : Class) (p : Option Policing) → s < stamp_bound → i < 2 ^ 32 → IfSome l link_fits → Optional (Below (2 ^ 8)) (is_some l) q → is_addressed c ≡ is_some l → is_some p ≡ is_regular c
    → Agrees 7 (decimal s ∷ network_letter n ∷ decimal i ∷ dash_or link_text l ∷ dash_or decimal q ∷ class_word c ∷ dash_or policing_word p ∷ []) fields
    → ((x : Option Integrity) → Optional Any (option_map_or is_within p false) x → dash_or integrity_word x ≡ first_field (next_fields (next_fields (next_fields (next_fields (next_fields (next_fields (next_fields fields))))))) → ⊥) → IsFrameFault version fields faults.Integrity
fault_integrity version fields s n i l q c p hs hi hl hq hc hp b none = record {
  field = tt;
  before = (make s n i l q c p (any_integrity p) (any_redundancy (any_integrity p)) None 0 (any_length version), fits version s n i l q c p (any_integrity p) (any_redundancy (any_integrity p)) None 0 (any_length version) (record { stamp = hs; number = hi; link = hl; sequence = hq; class = hc; policing = hp; integrity = some_integrity p; redundancy = some_redundancy (any_integrity p); kept = tt; mask = no_mask; length = some_length version }), b);
  departs = λ w z a. let same = one_policing w.verdict.policing p (a.1.1.1.1.1.1.0 ∙ sym b.1.1.1.1.1.1.0) in none w.verdict.integrity (record { present = z.reached.integrity ∙ ap (λ (o : Option Policing). option_map_or is_within o false) same; fits = any_fits w.verdict.integrity }) a.1.1.1.1.1.1.1.0;
}

pub fault_redundancy : (version : LedgerVersion) (fields : List (List ℕ)) (s : ℕ) (n : Network) (i : ℕ) (l : Option VlId) (q : Option ℕ) (c : Class) (p : Option Policing) (t : Option Integrity) → s < stamp_bound → i < 2 ^ 32 → IfSome l link_fits → Optional (Below (2 ^ 8)) (is_some l) q → is_addressed c ≡ is_some l → is_some p ≡ is_regular c → is_some t ≡ option_map_or is_within p false
    → Agrees 8 (decimal s ∷ network_letter n ∷ decimal i ∷ dash_or link_text l ∷ dash_or decimal q ∷ class_word c ∷ dash_or policing_word p ∷ dash_or integrity_word t ∷ []) fields
    → ((x : Option Redundancy) → Optional Any (option_map_or is_valid t false) x → dash_or redundancy_word x ≡ first_field (next_fields (next_fields (next_fields (next_fields (next_fields (next_fields (next_fields (next_fields fields)))))))) → ⊥) → IsFrameFault version fields faults.Redundancy
fault_redundancy version fields s n i l q c p t hs hi hl hq hc hp ht b none = record {
  field = tt;
  before = (make s n i l q c p t (any_redundancy t) None 0 (any_length version), fits version s n i l q c p t (any_redundancy t) None 0 (any_length version) (record { stamp = hs; number = hi; link = hl; sequence = hq; class = hc; policing = hp; integrity = ht; redundancy = some_redundancy t; kept = tt; mask = no_mask; length = some_length version }), b);
  departs = λ w z a. let same = one_integrity w.verdict.integrity t (a.1.1.1.1.1.1.1.0 ∙ sym b.1.1.1.1.1.1.1.0) in none w.verdict.redundancy (record { present = z.reached.redundancy ∙ ap (λ (o : Option Integrity). option_map_or is_valid o false) same; fits = any_fits w.verdict.redundancy }) a.1.1.1.1.1.1.1.1.0;
}

pub fault_kept : (version : LedgerVersion) (fields : List (List ℕ)) (s : ℕ) (n : Network) (i : ℕ) (l : Option VlId) (q : Option ℕ) (c : Class) (p : Option Policing) (t : Option Integrity) (r : Option Redundancy) → s < stamp_bound → i < 2 ^ 32 → IfSome l link_fits → Optional (Below (2 ^ 8)) (is_some l) q → is_addressed c ≡ is_some l → is_some p ≡ is_regular c → is_some t ≡ option_map_or is_within p false → is_some r ≡ option_map_or is_valid t false
    → Agrees 9 (decimal s ∷ network_letter n ∷ decimal i ∷ dash_or link_text l ∷ dash_or decimal q ∷ class_word c ∷ dash_or policing_word p ∷ dash_or integrity_word t ∷ dash_or redundancy_word r ∷ []) fields
    → ((x : Option ℕ) → IfSome x (Below (2 ^ 32)) → dash_or decimal x ≡ first_field (next_fields (next_fields (next_fields (next_fields (next_fields (next_fields (next_fields (next_fields (next_fields fields))))))))) → ⊥) → IsFrameFault version fields faults.Kept
fault_kept version fields s n i l q c p t r hs hi hl hq hc hp ht hr b none = record {
  field = tt;
  before = (make s n i l q c p t r None 0 (any_length version), fits version s n i l q c p t r None 0 (any_length version) (record { stamp = hs; number = hi; link = hl; sequence = hq; class = hc; policing = hp; integrity = ht; redundancy = hr; kept = tt; mask = no_mask; length = some_length version }), b);
  departs = λ w z a. none w.kept z.kept a.1.1.1.1.1.1.1.1.1.0;
}

pub fault_mask : (version : LedgerVersion) (fields : List (List ℕ)) (s : ℕ) (n : Network) (i : ℕ) (l : Option VlId) (q : Option ℕ) (c : Class) (p : Option Policing) (t : Option Integrity) (r : Option Redundancy) (k : Option ℕ) → s < stamp_bound → i < 2 ^ 32 → IfSome l link_fits → Optional (Below (2 ^ 8)) (is_some l) q → is_addressed c ≡ is_some l → is_some p ≡ is_regular c → is_some t ≡ option_map_or is_within p false → is_some r ≡ option_map_or is_valid t false → IfSome k (Below (2 ^ 32))
    → Agrees 10 (decimal s ∷ network_letter n ∷ decimal i ∷ dash_or link_text l ∷ dash_or decimal q ∷ class_word c ∷ dash_or policing_word p ∷ dash_or integrity_word t ∷ dash_or redundancy_word r ∷ dash_or decimal k ∷ []) fields
    → ((x : ℕ) → IsMaskOf k x → mask_text x ≡ first_field (next_fields (next_fields (next_fields (next_fields (next_fields (next_fields (next_fields (next_fields (next_fields (next_fields fields)))))))))) → ⊥) → IsFrameFault version fields faults.Mask
fault_mask version fields s n i l q c p t r k hs hi hl hq hc hp ht hr hk b none = record {
  field = tt;
  before = (make s n i l q c p t r k (any_mask k) (any_length version), fits version s n i l q c p t r k (any_mask k) (any_length version) (record { stamp = hs; number = hi; link = hl; sequence = hq; class = hc; policing = hp; integrity = ht; redundancy = hr; kept = hk; mask = some_mask k; length = some_length version }), b);
  departs = λ w z a. let same = one_number w.kept k (wider w.kept (2 ^ 32) (omega arith) z.kept) (wider k (2 ^ 32) (omega arith) hk) (a.1.1.1.1.1.1.1.1.1.0 ∙ sym b.1.1.1.1.1.1.1.1.1.0) in none w.mask (subst (λ (o : Option ℕ). IsMaskOf o w.mask) same z.mask) a.1.1.1.1.1.1.1.1.1.1.0;
}

-- a line of version 2 has nothing after these fields
agrees_two : (o : Option ℕ) (rest : List (List ℕ)) → Optional (Below (2 ^ 32)) false o → Agrees 1 (length_fields o) rest → rest ≡ []
agrees_two None rest h a = a
agrees_two (Some n) rest h a = absurd (false≢true (sym h.present))

-- one of version 3 has its length
agrees_three : (o : Option ℕ) (rest : List (List ℕ)) → Optional (Below (2 ^ 32)) true o → ((n : ℕ) → n < 2 ^ 32 → decimal n ≡ first_field rest → ⊥)
    → Agrees 1 (length_fields o) rest → ⊥
agrees_three None rest h none a = false≢true h.present
agrees_three (Some n) rest h none a = none n h.fits a.0

-- and nothing after it
ends_three : (o : Option ℕ) (rest : List (List ℕ)) → Optional (Below (2 ^ 32)) true o → Agrees 2 (length_fields o) rest → next_fields rest ≡ []
ends_three None rest h a = absurd (false≢true h.present)
ends_three (Some n) rest h a = a.1

pub fault_last : (version : LedgerVersion) (fields : List (List ℕ)) (s : ℕ) (n : Network) (i : ℕ) (l : Option VlId) (q : Option ℕ) (c : Class) (p : Option Policing) (t : Option Integrity) (r : Option Redundancy) (k : Option ℕ) (m : ℕ) → s < stamp_bound → i < 2 ^ 32 → IfSome l link_fits → Optional (Below (2 ^ 8)) (is_some l) q → is_addressed c ≡ is_some l → is_some p ≡ is_regular c → is_some t ≡ option_map_or is_within p false → is_some r ≡ option_map_or is_valid t false → IfSome k (Below (2 ^ 32)) → IsMaskOf k m
    → Agrees 11 (decimal s ∷ network_letter n ∷ decimal i ∷ dash_or link_text l ∷ dash_or decimal q ∷ class_word c ∷ dash_or policing_word p ∷ dash_or integrity_word t ∷ dash_or redundancy_word r ∷ dash_or decimal k ∷ mask_text m ∷ []) fields
    → (fault : FrameFault) → IsLengthRead version (next_fields (next_fields (next_fields (next_fields (next_fields (next_fields (next_fields (next_fields (next_fields (next_fields (next_fields fields))))))))))) (Err fault) → IsFrameFault version fields fault
fault_last Two fields s n i l q c p t r k m hs hi hl hq hc hp ht hr hk hm b faults.Length h = absurd (false≢true h.0)
fault_last Three fields s n i l q c p t r k m hs hi hl hq hc hp ht hr hk hm b faults.Length h = record {
  field = refl;
  before = (make s n i l q c p t r k m (Some 0), fits Three s n i l q c p t r k m (Some 0) (record { stamp = hs; number = hi; link = hl; sequence = hq; class = hc; policing = hp; integrity = ht; redundancy = hr; kept = hk; mask = hm; length = some_length Three }), b);
  departs = λ w z a. agrees_three w.length (next_fields (next_fields (next_fields (next_fields (next_fields (next_fields (next_fields (next_fields (next_fields (next_fields (next_fields fields))))))))))) z.length h.1 a.1.1.1.1.1.1.1.1.1.1.1;
}
fault_last Two fields s n i l q c p t r k m hs hi hl hq hc hp ht hr hk hm b faults.Fields (None, fit, more) = record {
  field = tt;
  before = (make s n i l q c p t r k m None, fits Two s n i l q c p t r k m None (record { stamp = hs; number = hi; link = hl; sequence = hq; class = hc; policing = hp; integrity = ht; redundancy = hr; kept = hk; mask = hm; length = fit }), b);
  departs = λ w z a. more (agrees_two w.length (next_fields (next_fields (next_fields (next_fields (next_fields (next_fields (next_fields (next_fields (next_fields (next_fields (next_fields fields))))))))))) z.length a.1.1.1.1.1.1.1.1.1.1.1);
}
fault_last Two fields s n i l q c p t r k m hs hi hl hq hc hp ht hr hk hm b faults.Fields (Some o, fit, more) = absurd (false≢true (sym fit.present))
fault_last Three fields s n i l q c p t r k m hs hi hl hq hc hp ht hr hk hm b faults.Fields (None, fit, more) = absurd (false≢true fit.present)
fault_last Three fields s n i l q c p t r k m hs hi hl hq hc hp ht hr hk hm b faults.Fields (Some o, fit, more) = record {
  field = tt;
  before = (make s n i l q c p t r k m (Some o), fits Three s n i l q c p t r k m (Some o) (record { stamp = hs; number = hi; link = hl; sequence = hq; class = hc; policing = hp; integrity = ht; redundancy = hr; kept = hk; mask = hm; length = fit }), (b.0, (b.1.0, (b.1.1.0, (b.1.1.1.0, (b.1.1.1.1.0, (b.1.1.1.1.1.0, (b.1.1.1.1.1.1.0, (b.1.1.1.1.1.1.1.0, (b.1.1.1.1.1.1.1.1.0, (b.1.1.1.1.1.1.1.1.1.0, (b.1.1.1.1.1.1.1.1.1.1.0, (more.0, tt)))))))))))));
  departs = λ w z a. more.1 (ends_three w.length (next_fields (next_fields (next_fields (next_fields (next_fields (next_fields (next_fields (next_fields (next_fields (next_fields (next_fields fields))))))))))) z.length a.1.1.1.1.1.1.1.1.1.1.1);
}
fault_last version fields s n i l q c p t r k m hs hi hl hq hc hp ht hr hk hm b _ h = absurd h

-- ---- the whole line

-- each field is longer than nothing
abbrev pub AllSome : List (List ℕ) → Type 0
AllSome [] = Unit {0}
AllSome (x ∷ xs) = (0 < length x) × AllSome xs

joined : (wanted fields : List (List ℕ)) → AllSome wanted → Agrees (suc (length wanted)) wanted fields → fields ≡ wanted
joined [] fields h a = a
joined (x ∷ xs) [] h a = absurd (omega (arith, h.0, ap length a.0))
joined (x ∷ xs) (y ∷ ys) h a = let rest = joined xs ys h.1 a.1 in let first = a.0 in cc

network_some : (n : Network) → 0 < length (network_letter n)
network_some A = lit< tt
network_some B = lit< tt

class_some : (c : Class) → 0 < length (class_word c)
class_some Cut = lit< tt
class_some Runt = lit< tt
class_some Oversize = lit< tt
class_some Foreign = lit< tt
class_some Unconfigured = lit< tt
class_some TooLong = lit< tt
class_some Regular = lit< tt

policing_some : (p : Option Policing) → 0 < length (dash_or policing_word p)
policing_some None = lit< tt
policing_some (Some Within) = lit< tt
policing_some (Some Excess) = lit< tt

integrity_some : (t : Option Integrity) → 0 < length (dash_or integrity_word t)
integrity_some None = lit< tt
integrity_some (Some First) = lit< tt
integrity_some (Some Reset) = lit< tt
integrity_some (Some Next) = lit< tt
integrity_some (Some Skip) = lit< tt
integrity_some (Some Off) = lit< tt
integrity_some (Some Out) = lit< tt

redundancy_some : (r : Option Redundancy) → 0 < length (dash_or redundancy_word r)
redundancy_some None = lit< tt
redundancy_some (Some Deliver) = lit< tt
redundancy_some (Some Copy) = lit< tt
redundancy_some (Some Both) = lit< tt

number_some : (o : Option ℕ) → IfSome o (Below (2 ^ 64)) → 0 < length (dash_or decimal o)
number_some None h = lit< tt
number_some (Some n) h = decimal_nonempty n h

link_some : (o : Option VlId) → IfSome o link_fits → 0 < length (dash_or link_text o)
link_some None h = lit< tt
link_some (Some l) h = decimal_nonempty l.0 (omega arith)

length_some : (o : Option ℕ) → IfSome o (Below (2 ^ 32)) → AllSome (length_fields o)
length_some None h = tt
length_some (Some n) h = (decimal_nonempty n (omega arith), tt)

pub all_some : (version : LedgerVersion) (v : FrameLine) → IsFrameLine version v → AllSome (frame_fields v)
all_some version v z = (
  decimal_nonempty v.stamp.0 (omega (arith, z.stamp)),
  (
    network_some v.network,
    (
      decimal_nonempty v.number (omega (arith, z.number)),
      (
        link_some v.link z.link.fits,
        (
          number_some v.sequence (wider v.sequence (2 ^ 8) (omega arith) z.sequence.fits),
          (
            class_some v.verdict.class,
            (
              policing_some v.verdict.policing,
              (
                integrity_some v.verdict.integrity,
                (
                  redundancy_some v.verdict.redundancy,
                  (number_some v.kept (wider v.kept (2 ^ 32) (omega arith) z.kept), (lit< tt, length_some v.length z.length.fits)),
                ),
              ),
            ),
          ),
        ),
      ),
    ),
  ),
)

-- the first eleven fields, and the length that they end with
pub ended : (o : Option ℕ) (x0 x1 x2 x3 x4 x5 x6 x7 x8 x9 x10 : List ℕ) (fields : List (List ℕ))
    → Agrees 11 (x0 ∷ x1 ∷ x2 ∷ x3 ∷ x4 ∷ x5 ∷ x6 ∷ x7 ∷ x8 ∷ x9 ∷ x10 ∷ []) fields → Leads o (λ rest. rest ≡ []) (next_fields (next_fields (next_fields (next_fields (next_fields (next_fields (next_fields (next_fields (next_fields (next_fields (next_fields fields)))))))))))
    → Agrees (suc (length (x0 ∷ x1 ∷ x2 ∷ x3 ∷ x4 ∷ x5 ∷ x6 ∷ x7 ∷ x8 ∷ x9 ∷ x10 ∷ length_fields o))) (x0 ∷ x1 ∷ x2 ∷ x3 ∷ x4 ∷ x5 ∷ x6 ∷ x7 ∷ x8 ∷ x9 ∷ x10 ∷ length_fields o) fields
ended None x0 x1 x2 x3 x4 x5 x6 x7 x8 x9 x10 fields a end = (a.0, (a.1.0, (a.1.1.0, (a.1.1.1.0, (a.1.1.1.1.0, (a.1.1.1.1.1.0, (a.1.1.1.1.1.1.0, (a.1.1.1.1.1.1.1.0, (a.1.1.1.1.1.1.1.1.0, (a.1.1.1.1.1.1.1.1.1.0, (a.1.1.1.1.1.1.1.1.1.1.0, end)))))))))))
ended (Some n) x0 x1 x2 x3 x4 x5 x6 x7 x8 x9 x10 fields a end = (a.0, (a.1.0, (a.1.1.0, (a.1.1.1.0, (a.1.1.1.1.0, (a.1.1.1.1.1.0, (a.1.1.1.1.1.1.0, (a.1.1.1.1.1.1.1.0, (a.1.1.1.1.1.1.1.1.0, (a.1.1.1.1.1.1.1.1.1.0, (a.1.1.1.1.1.1.1.1.1.1.0, (end.0, end.1))))))))))))

pub whole : (version : LedgerVersion) (line : List ℕ) (v : FrameLine) → IsFrameLine version v → Agrees (suc (length (frame_fields v))) (frame_fields v) (fields_of line)
    → IsFrameText version line v
whole version line v z a = record { values = z; fields = joined (frame_fields v) (fields_of line) (all_some version v z) a }
