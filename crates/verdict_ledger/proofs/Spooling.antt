-- Text that waits, and what the sink takes of it.
use Rattle.std.proofs.Common.{◌≡◌, ℕ, ◌+◌, ◌-◌, ◌^◌, ◌<◌, min, List, [], ◌∷◌, ◌++◌, length, take, drop, flat_map, Option, None, Some, refl, sym, ap, ◌∙◌, subst, arith, lit<, append_assoc, append-nil, length-append}
use Rattle.std.specs.Prelude.{Result, Ok, Err, OnOk, IsErrAnd}
use Rattle.std.proofs.KnownBytes.{Appends-nil, Appends-trans}
use Rattle.std.specs.Io.KnownBytes.{Appends}
use Rattle.pcap_io.specs.Device.{AppendsPrefix}
use Rattle.pcap_io.proofs.Transfers.{prefix_first, prefix_second}
use Rattle.pcap_io.specs.declared.recording.Ending.{Ending}
use Rattle.vl_config.specs.Link.{VirtualLink}
use Rattle.verdict_ledger.specs.declared.totals.Totals.{Totals}
use Rattle.verdict_ledger.specs.Entry.{Entry}
use Rattle.verdict_ledger.specs.Text.{ledger_head, line_text, lines_text, link_line, count_field, end_text, tap_line}
use Rattle.verdict_ledger.specs.Writing.{IsAppended, IsSpooled, Moves, fault_of}
use Rattle.verdict_ledger.proofs.Rounds.{texts_more, texts_split}
use Rattle.verdict_ledger.specs.declared.fault.LedgerFault.{LedgerFault}
use Rattle.verdict_ledger.specs.declared.fault.LedgerFault.TheVariants.{Device, Memory, Failed}
use Rattle.verdict_ledger.specs.declared.link_counts.LinkCounts.{LinkCounts}
use Rattle.verdict_ledger.specs.declared.version.LedgerVersion.{LedgerVersion}
use Rattle.verdict_ledger.specs.declared.version.LedgerVersion.TheVariants.{Two, Three}

-- more text waits
pub pushed : (a : Option (List ℕ)) (m : ℕ) (t t' x : List ℕ) → t' ≡ t ++ x → IsSpooled None a a m m t t' x
pushed a m t t' x e = (([], Appends-nil a, e), refl)

-- there was no memory for the text
pub unpushed : (a : Option (List ℕ)) (m : ℕ) (t t' x : List ℕ) → 0 < length x → IsSpooled (Some Memory) a a m m t t' x
unpushed a m t t' x some = ((0, omega (arith, some, length-append t x), Appends-nil a), refl)

moves_then : (a b c : Option (List ℕ)) (t t' t'' x y : List ℕ) → Moves a b t t' x → Moves b c t' t'' y → Moves a c t t'' (x ++ y)
moves_then a b c t t' t'' x y (k, first, e) (l, second, f) = (
  k ++ l,
  Appends-trans a b c k l first second,
  append_assoc k l t'' ∙ ap (λ (z : List ℕ). k ++ z) f ∙ sym (append_assoc k t' y) ∙ ap (λ (z : List ℕ). z ++ y) e ∙ append_assoc t x y,
)

prefix_then : (a b c : Option (List ℕ)) (t t' x y : List ℕ) → Moves a b t t' x → AppendsPrefix b c (t' ++ y) → AppendsPrefix a c (t ++ (x ++ y))
prefix_then a b c t t' x y (k, first, e) second =
    subst (AppendsPrefix a c) (sym (append_assoc k t' y) ∙ ap (λ (z : List ℕ). z ++ y) e ∙ append_assoc t x y)
    (prefix_second a b c k (t' ++ y) first second)

-- the first part went well, and the second came to this
pub spooled_then : (f : Option LedgerFault) (a b c : Option (List ℕ)) (m n o : ℕ) (t t' t'' x y : List ℕ) →
    IsSpooled None a b m n t t' x → IsSpooled f b c n o t' t'' y → IsSpooled f a c m o t t'' (x ++ y)
spooled_then None a b c m n o t t' t'' x y first second =
    (moves_then a b c t t' t'' x y first.0 second.0, second.1 ∙ first.1)
spooled_then (Some Device) a b c m n o t t' t'' x y first second =
    (prefix_then a b c t t' x y first.0 second.0, second.1 ∙ ap (λ (k : ℕ). min (k + 1) (2 ^ 64 - 1)) first.1)
spooled_then (Some Memory) a b c m n o t t' t'' x y first second =
    (prefix_then a b c t t' x y first.0 second.0, second.1 ∙ first.1)
spooled_then (Some Failed) a b c m n o t t' t'' x y first second = second

-- the first part failed, and more was to come
pub spooled_before : (f : LedgerFault) (a b : Option (List ℕ)) (m n : ℕ) (t t' t'' x y : List ℕ) →
    IsSpooled (Some f) a b m n t t' x → IsSpooled (Some f) a b m n t t'' (x ++ y)
spooled_before Device a b m n t t' t'' x y h = (subst (AppendsPrefix a b) (append_assoc t x y) (prefix_first a b (t ++ x) y h.0), h.1)
spooled_before Memory a b m n t t' t'' x y h = (subst (AppendsPrefix a b) (append_assoc t x y) (prefix_first a b (t ++ x) y h.0), h.1)
spooled_before Failed a b m n t t' t'' x y h = h

-- no text waited before, and none waits after
pub appended : (f : Option LedgerFault) (a b : Option (List ℕ)) (m n : ℕ) (t t' x : List ℕ) → t ≡ [] → (f ≡ None → t' ≡ []) →
    IsSpooled f a b m n t t' x → IsAppended f a b m n x
appended None a b m n t t' x none empty ((k, took, e), same) =
    (subst (Appends a b) (sym (append-nil k) ∙ ap (λ (z : List ℕ). k ++ z) (sym (empty refl)) ∙ e ∙ ap (λ (z : List ℕ). z ++ x) none) took, same)
appended (Some Device) a b m n t t' x none empty h = (subst (AppendsPrefix a b) (ap (λ (z : List ℕ). z ++ x) none) h.0, h.1)
appended (Some Memory) a b m n t t' x none empty h = (subst (AppendsPrefix a b) (ap (λ (z : List ℕ). z ++ x) none) h.0, h.1)
appended (Some Failed) a b m n t t' x none empty h = h

pub line_some : (version : LedgerVersion) (e : Entry) → 0 < length (line_text version e)
unfolding line_text
line_some version e = simp length-append (omega arith)

pub head_some : (version : LedgerVersion) → 0 < length (ledger_head version)
unfolding ledger_head
head_some Two = lit< tt
head_some Three = lit< tt

pub lines_some : (version : LedgerVersion) (entries : List Entry) → 0 < length entries → 0 < length (lines_text version entries)
lines_some version [] some = absurd (omega arith)
lines_some version (e ∷ es) some = omega (arith, line_some version e, length-append (line_text version e) (lines_text version es))

pub end_some : (totals : Totals) (filters : ℕ) (a b : Ending) → 0 < length (end_text totals filters a b)
unfolding tap_line
end_some totals filters a b = simp length-append (omega arith)

pub link_some : (link : VirtualLink) (counts : LinkCounts) → 0 < length (link_line link counts)
unfolding link_line count_field
link_some link counts = omega arith

-- text was added, and then what waits was written, or not yet
pub spooled_flush : (f : Option LedgerFault) (a b : Option (List ℕ)) (m n : ℕ) (t t' t'' x : List ℕ) → t' ≡ t ++ x →
    IsSpooled f a b m n t' t'' [] → IsSpooled f a b m n t t'' x
spooled_flush f a b m n t t' t'' x e h =
    subst (IsSpooled f a b m n t t'') (append-nil x) (spooled_then f a a b m m n t t' t'' x [] (pushed a m t t' x e) h)

-- the fault that a `?` makes
pub fault_from : {T : Type 0} (r : Result T LedgerFault) (fault : LedgerFault) → IsErrAnd r (λ f. f ≡ fault) → fault_of r ≡ Some fault
fault_from (Ok x) fault h = absurd h
fault_from (Err f) fault h = ap Some h

pub where_no_fault : {T P : Type 0} (r : Result T LedgerFault) → OnOk r P → fault_of r ≡ None → P
where_no_fault (Ok x) h e = h
where_no_fault (Err f) h e = cc

-- there was no memory for the text, and none waited
pub unappended : (a : Option (List ℕ)) (m : ℕ) (x : List ℕ) → 0 < length x → IsAppended (Some Memory) a a m m x
unappended a m x some = ((0, some, Appends-nil a), refl)

-- the text of one more item
pub spooled_next : {X : Type 0} (text : X → List ℕ) (xs : List X) (i : ℕ) (x : X) (a b c : Option (List ℕ)) (m n o : ℕ) (t t' t'' : List ℕ) →
    take (i + 1) xs ≡ take i xs ++ x ∷ [] → IsSpooled None a b m n t t' (flat_map text (take i xs)) →
    IsSpooled None b c n o t' t'' (text x) → IsSpooled None a c m o t t'' (flat_map text (take (i + 1) xs))
spooled_next text xs i x a b c m n o t t' t'' more first second =
    subst (IsSpooled None a c m o t t'') (texts_more text xs i x more)
    (spooled_then None a b c m n o t t' t'' (flat_map text (take i xs)) (text x) first second)

-- an item's text failed
pub spooled_stop : {X : Type 0} (text : X → List ℕ) (xs : List X) (i : ℕ) (x : X) (f : LedgerFault) (a b c : Option (List ℕ)) (m n o : ℕ) (t t' t'' : List ℕ) →
    take (i + 1) xs ≡ take i xs ++ x ∷ [] → IsSpooled None a b m n t t' (flat_map text (take i xs)) →
    IsSpooled (Some f) b c n o t' t'' (text x) → IsSpooled (Some f) a c m o t t'' (flat_map text xs)
spooled_stop text xs i x f a b c m n o t t' t'' more first second =
    subst (IsSpooled (Some f) a c m o t t'')
    (ap (λ (l : List ℕ). l ++ flat_map text (drop (i + 1) xs)) (texts_more text xs i x more) ∙ texts_split text xs (i + 1))
    (spooled_before f a c m o t t'' t'' (flat_map text (take i xs) ++ text x) (flat_map text (drop (i + 1) xs))
    (spooled_then (Some f) a b c m n o t t' t'' (flat_map text (take i xs)) (text x) first second))
