-- Lines are read one way.
use Rattle.std.proofs.Common.{◌≡◌, ◌∙◌, true≢false, ℕ, zero, suc, ◌+◌, ◌*◌, ◌<◌, ◌≤◌, Bool, true, false, cond, not, List, [], ◌∷◌, ◌++◌, length, get_or, is_none, Option, None, Some, refl, sym, ap, subst, arith, length-append, append-nil}
use Rattle.std.proofs.lemmas.Fmt.{digits_decimal}
use Rattle.std.proofs.lemmas.Bool.{false≢true}
use Rattle.std.specs.Fmt.{decimal}
use Rattle.std.specs.Io.KnownBytes.{Consumes, IsAtEnd}
use Rattle.std.specs.List.{position_or_len}
use Rattle.std.specs.Str.Parse.{AllDigits}
use Rattle.ledger_text.proofs.Decimals.{own}
use Rattle.ledger_text.proofs.Spelling.{one_line}
use Rattle.ledger_text.specs.Fields.{Agrees, first_field}
use Rattle.ledger_text.specs.FrameText.{IsFrameText, fields_before, frame_fields}
use Rattle.ledger_text.specs.Ledger.{ReadLine, ReadsLines}
use Rattle.ledger_text.specs.Lines.{IsNextLine}
use Rattle.ledger_text.specs.Newlines.{NoNewline, is_newline}
use Rattle.ledger_text.specs.Order.{IsCounts, IsLineAt, IsLineFaultAt, counts_word, head_line}
use Rattle.ledger_text.specs.Places.{has_total, stage_after}
use Rattle.ledger_text.specs.Reader.{IsBadLine, IsFound, Reading, last_of}
use Rattle.ledger_text.specs.declared.bounds.TheConstants.{BLOCK_LEN, MAX_LINES}
use Rattle.ledger_text.specs.declared.fault.LineFault.{LineFault}
use Rattle.ledger_text.specs.declared.fault.LineFault.TheVariants as faults
use Rattle.ledger_text.specs.declared.frame.FrameLine.{FrameLine}
use Rattle.ledger_text.specs.declared.order.Counts.{Counts}
use Rattle.ledger_text.specs.declared.order.Counts.TheVariants as counts
use Rattle.ledger_text.specs.declared.order.LedgerLine.{LedgerLine}
use Rattle.ledger_text.specs.declared.order.LedgerLine.TheVariants as lines
use Rattle.ledger_text.specs.declared.order.LedgerStage.{LedgerStage}
use Rattle.ledger_text.specs.declared.order.LedgerStage.TheVariants as stages
use Rattle.ledger_text.specs.declared.reader.FoundLine.TheVariants as found
use Rattle.ledger_text.specs.declared.reader.LedgerStop.{LedgerStop}
use Rattle.verdict_ledger.specs.declared.version.LedgerVersion.{LedgerVersion}
use Rattle.verdict_ledger.specs.declared.version.LedgerVersion.TheVariants.{Two, Three}

-- ---- the text of a line

-- the first byte is no newline, nor one of the others
step : (x : ℕ) (xs : List ℕ) (b : Bool) → is_newline x ≡ b → NoNewline (x ∷ xs) → (is_newline x ≡ false) × NoNewline xs
step x xs b e h =
    let here : position_or_len is_newline (x ∷ xs) ≡ cond (not b) (1 + position_or_len is_newline xs) 0 =
    ap (λ (t : Bool). cond (not t) (1 + position_or_len is_newline xs) 0) e in
    by b e (sym here ∙ h)
  where
    by : (b : Bool) → is_newline x ≡ b → cond (not b) (1 + position_or_len is_newline xs) 0 ≡ length (x ∷ xs) → (is_newline x ≡ false) × NoNewline xs
    by true e h = absurd (omega (arith, h))
    by false e h = (e, omega (arith, h))

ten_is : (x : ℕ) → 10 ≡ x → is_newline x ≡ false → ⊥
ten_is x e h = subst (λ (y : ℕ). is_newline y ≡ false → ⊥) e (λ none. true≢false none) h

same_text : (xs ys m n : List ℕ) → NoNewline xs → NoNewline ys → (xs ++ 10 ∷ []) ++ m ≡ (ys ++ 10 ∷ []) ++ n → (xs ≡ ys) × (m ≡ n)
same_text [] [] m n p q e = (refl, cc)
same_text [] (y ∷ ys) m n p q e =
    let first : 10 ≡ y = ap (λ (l : List ℕ). get_or l 0 0) e in
    absurd (ten_is y first (step y ys (is_newline y) refl q).0)
same_text (x ∷ xs) [] m n p q e =
    let first : 10 ≡ x = sym (ap (λ (l : List ℕ). get_or l 0 0) e) in
    absurd (ten_is x first (step x xs (is_newline x) refl p).0)
same_text (x ∷ xs) (y ∷ ys) m n p q e =
    let first : x ≡ y = ap (λ (l : List ℕ). get_or l 0 0) e in
    let others : (xs ++ 10 ∷ []) ++ m ≡ (ys ++ 10 ∷ []) ++ n = cc in
    let same = same_text xs ys m n (step x xs (is_newline x) refl p).1 (step y ys (is_newline y) refl q).1 others in
    let text : x ∷ xs ≡ y ∷ ys = let tail : xs ≡ ys = same.0 in cc in
    (text, same.1)

-- ---- all that it says

abbrev code : List ℕ → ℕ
code word = length word * 65536 + get_or word 0 0 * 256 + get_or word 1 0

one_kind : (j k : Counts) → counts_word j ≡ counts_word k → j ≡ k
one_kind counts.Link counts.Link e = refl
one_kind counts.Filter counts.Filter e = refl
one_kind counts.Tap counts.Tap e = refl
one_kind counts.Total counts.Total e = refl
one_kind _ _ e = absurd (omega (arith, ap code e))

no_digits : (kind : Counts) → AllDigits 10 (counts_word kind) → ⊥
no_digits counts.Link h = absurd (omega (arith, h.0))
no_digits counts.Filter h = absurd (omega (arith, h.0))
no_digits counts.Tap h = absurd (omega (arith, h.0))
no_digits counts.Total h = absurd (omega (arith, h.0))

frame_is_no_counts : (version : LedgerVersion) (text : List ℕ) (v : FrameLine) (kind : Counts) → IsFrameText version text v → IsCounts text kind → ⊥
frame_is_no_counts version text v kind is counted =
    let first : decimal v.stamp.0 ≡ counts_word kind = sym (ap first_field is.fields) ∙ sym counted in
    no_digits kind (subst (AllDigits 10) first (digits_decimal own v.stamp.0 (omega (arith, is.values.stamp))))

one_version : (m n : LedgerVersion) → head_line m ≡ head_line n → m ≡ n
one_version Two Two e = refl
one_version Three Three e = refl
one_version _ _ e = absurd (omega (arith, ap (λ (l : List ℕ). get_or l 12 0) e))

one_frame : (version : LedgerVersion) (text : List ℕ) (v w : FrameLine) → IsFrameText version text v → IsFrameText version text w → v ≡ w
one_frame version text v w p q = one_line version v w p.values q.values (sym p.fields ∙ q.fields)

one_said : (stage : LedgerStage) (text : List ℕ) (l k : LedgerLine) → IsLineAt stage text l → IsLineAt stage text k → l ≡ k
one_said stages.Head text (lines.Head m) (lines.Head n) p q = ap lines.Head (one_version m n (sym p ∙ q))
one_said (stages.Frames version) text (lines.Frame v) (lines.Frame w) p q = ap lines.Frame (one_frame version text v w p q)
one_said (stages.Frames version) text (lines.Frame v) (lines.Counts k) p q = absurd (frame_is_no_counts version text v k p q)
one_said (stages.Frames version) text (lines.Counts j) (lines.Frame w) p q = absurd (frame_is_no_counts version text w j q p)
one_said (stages.Frames version) text (lines.Counts j) (lines.Counts k) p q = ap lines.Counts (one_kind j k (p ∙ sym q))
one_said (stages.Counts last) text (lines.Counts j) (lines.Counts k) p q = ap lines.Counts (one_kind j k (p.0 ∙ sym q.0))
one_said stages.Head text (lines.Head m) _ p q = absurd q
one_said stages.Head text _ _ p q = absurd p
one_said (stages.Frames version) text (lines.Head m) _ p q = absurd p
one_said (stages.Frames version) text _ (lines.Head m) p q = absurd q
one_said (stages.Counts last) text (lines.Counts j) _ p q = absurd q
one_said (stages.Counts last) text _ _ p q = absurd p

-- ---- the lines, one after another

abbrev make : List ℕ → LedgerLine → ReadLine
make text line = record { text = text; line = line }

same_line : (r q : ReadLine) → r.text ≡ q.text → r.line ≡ q.line → q ≡ r
same_line r q text line = let same : make q.text q.line ≡ make r.text r.line = cc in same

pub first_lines : (stage here end : LedgerStage) (bytes : List ℕ) (left : Option (List ℕ)) (rs all : List ReadLine)
    → ReadsLines stage (Some bytes) rs here left → ReadsLines stage (Some bytes) all end (Some [])
    → (others : List ReadLine) × (all ≡ rs ++ others) × ReadsLines here left others end (Some [])
first_lines stage here end bytes left [] all (same, left_is) h =
    (all, refl, subst (λ (x : Option (List ℕ)). ReadsLines here x all end (Some [])) left_is (subst (λ (x : LedgerStage). ReadsLines x (Some bytes) all end (Some [])) same h))
first_lines stage here end bytes left (r ∷ rs) all (None, takes, more) h = absurd takes.gone
first_lines stage here end bytes left (r ∷ rs) [] (Some m, takes, more) (same, none) =
    let empty : bytes ≡ [] = cc in
    absurd (omega (arith, ap length (sym takes.gone ∙ empty), length-append (r.text ++ 10 ∷ []) m, length-append r.text (10 ∷ [])))
first_lines stage here end bytes left (r ∷ rs) (q ∷ all) (Some m, takes, more) (None, first, others) = absurd first.gone
first_lines stage here end bytes left (r ∷ rs) (q ∷ all) (Some m, takes, more) (Some n, first, others) =
    let same = same_text r.text q.text m n takes.one first.one (sym takes.gone ∙ first.gone) in
    let said = one_said stage r.text r.line q.line takes.stands (subst (λ (x : List ℕ). IsLineAt stage x q.line) (sym same.0) first.stands) in
    let line : q ≡ r = same_line r q same.0 said in
    let left_same : n ≡ m = sym same.1 in
    let rest : ReadsLines (stage_after r.line) (Some m) all end (Some []) =
    subst (λ (x : LedgerLine). ReadsLines (stage_after x) (Some m) all end (Some [])) (sym said)
    (subst (λ (x : List ℕ). ReadsLines (stage_after q.line) (Some x) all end (Some [])) left_same others) in
    let found = first_lines (stage_after r.line) here end m left rs all more rest in
    (found.0, (let tail : all ≡ rs ++ found.0 = found.1 in cc), found.2)

-- ---- a line that stands at its place

agrees_itself : (n : ℕ) (fields : List (List ℕ)) → Agrees n fields fields
agrees_itself zero fields = tt
agrees_itself (suc n) [] = refl
agrees_itself (suc n) (field ∷ fields) = (refl, agrees_itself n fields)

not_wrong : (stage : LedgerStage) (line : List ℕ) (said : LedgerLine) (fault : LineFault) → IsLineAt stage line said → IsLineFaultAt stage line fault → ⊥
not_wrong stages.Head line (lines.Head version) faults.Head p q = q version p
not_wrong (stages.Frames version) line (lines.Frame v) (faults.Frame fault) p q =
    q.0.departs v p.values (subst (λ (fields : List (List ℕ)). Agrees (suc (fields_before version fault)) (frame_fields v) fields) (sym p.fields) (agrees_itself (suc (fields_before version fault)) (frame_fields v)))
not_wrong (stages.Frames version) line (lines.Counts kind) (faults.Frame fault) p q = q.1 kind p
not_wrong (stages.Counts last) line (lines.Counts kind) faults.Order p q = q kind p.0 p.1
not_wrong stages.Head line (lines.Head version) _ p q = absurd q
not_wrong stages.Head line _ _ p q = absurd p
not_wrong (stages.Frames version) line (lines.Head m) _ p q = absurd p
not_wrong (stages.Frames version) line _ _ p q = absurd q
not_wrong (stages.Counts last) line (lines.Counts kind) _ p q = absurd q
not_wrong (stages.Counts last) line _ _ p q = absurd p

-- ---- none is refused

-- bytes without a newline end before the first
ends_before : (line after text rest : List ℕ) → NoNewline line → line ++ after ≡ (text ++ 10 ∷ []) ++ rest → length line ≤ length text
ends_before [] after text rest h e = omega arith
ends_before (x ∷ line) after [] rest h e =
    let first : 10 ≡ x = sym (ap (λ (l : List ℕ). get_or l 0 0) e) in
    absurd (ten_is x first (step x line (is_newline x) refl h).0)
ends_before (x ∷ line) after (y ∷ text) rest h e =
    let others : line ++ after ≡ (text ++ 10 ∷ []) ++ rest = cc in
    omega (arith, ends_before line after text rest (step x line (is_newline x) refl h).1 others)

total_is_last : (stage : LedgerStage) (text : List ℕ) (line : LedgerLine) → has_total stage ≡ true → IsLineAt stage text line → ⊥
total_is_last stages.Head text line h p = false≢true h
total_is_last (stages.Frames version) text line h p = false≢true h
total_is_last (stages.Counts counts.Link) text line h p = false≢true h
total_is_last (stages.Counts counts.Filter) text line h p = false≢true h
total_is_last (stages.Counts counts.Tap) text line h p = false≢true h
total_is_last (stages.Counts counts.Total) text (lines.Counts kind) h p = false≢true p.1
total_is_last (stages.Counts counts.Total) text _ h p = p

none_is_no : (bytes : List ℕ) → None ≡ Some bytes → ⊥
none_is_no bytes e = true≢false (ap is_none e)

same_bytes : (xs ys : List ℕ) → Some xs ≡ Some ys → ys ≡ xs
same_bytes xs ys e = cc

-- the bytes that begin with others
consumed : (left after : Option (List ℕ)) (bytes xs : List ℕ) → left ≡ Some bytes → Consumes left after xs → (rest : List ℕ) × (bytes ≡ xs ++ rest)
consumed None after bytes xs e h = absurd (none_is_no bytes e)
consumed (Some ys) None bytes xs e h = absurd h
consumed (Some ys) (Some rest) bytes xs e h = (rest, same_bytes ys bytes e ∙ h)

consumed_all : (left after : Option (List ℕ)) (bytes xs : List ℕ) → left ≡ Some bytes → Consumes left after xs → IsAtEnd after → bytes ≡ xs
consumed_all None after bytes xs e h end = absurd (none_is_no bytes e)
consumed_all (Some ys) None bytes xs e h end = absurd h
consumed_all (Some ys) (Some rest) bytes xs e h end = same_bytes ys bytes e ∙ h ∙ ap (λ (l : List ℕ). xs ++ l) end ∙ append-nil xs

at_end : (left : Option (List ℕ)) (bytes : List ℕ) → left ≡ Some bytes → IsAtEnd left → bytes ≡ []
at_end None bytes e h = absurd (none_is_no bytes e)
at_end (Some ys) bytes e h = same_bytes ys bytes e ∙ h

-- whole lines are left
abbrev AreLeft : LedgerStage → List ℕ → List ReadLine → Type 0
AreLeft stage bytes others = ReadsLines stage (Some bytes) others (stages.Counts counts.Total) (Some [])

line_refused : (stage : LedgerStage) (bytes line rest : List ℕ) (others : List ReadLine) (fault : LineFault) → NoNewline line → bytes ≡ (line ++ 10 ∷ []) ++ rest
    → AreLeft stage bytes others → IsLineFaultAt stage line fault → ⊥
line_refused stage bytes line rest [] fault one is (last, none) bad =
    let empty = same_bytes bytes [] none in
    omega (arith, ap length (empty ∙ is), length-append (line ++ 10 ∷ []) rest, length-append line (10 ∷ []))
line_refused stage bytes line rest (r ∷ others) fault one is (None, takes, more) bad = takes.gone
line_refused stage bytes line rest (r ∷ others) fault one is (Some m, takes, more) bad =
    let same = same_text r.text line m rest takes.one one (sym takes.gone ∙ is) in
    not_wrong stage line r.line fault (subst (λ (x : List ℕ). IsLineAt stage x r.line) same.0 takes.stands) bad

long_refused : (stage : LedgerStage) (bytes line rest : List ℕ) (others : List ReadLine) → NoNewline line → length line ≡ BLOCK_LEN → bytes ≡ line ++ rest
    → AreLeft stage bytes others → ⊥
long_refused stage bytes line rest [] one long is (last, none) = omega (arith, ap length (same_bytes bytes [] none ∙ is), length-append line rest, long)
long_refused stage bytes line rest (r ∷ others) one long is (None, takes, more) = takes.gone
long_refused stage bytes line rest (r ∷ others) one long is (Some m, takes, more) =
    omega (arith, ends_before line rest r.text m one (sym is ∙ takes.gone), takes.short, long)

part_refused : (stage : LedgerStage) (bytes : List ℕ) (others : List ReadLine) → has_total stage ≡ true → 0 < length bytes → AreLeft stage bytes others → ⊥
part_refused stage bytes [] total some (last, none) = omega (arith, some, ap length (same_bytes bytes [] none))
part_refused stage bytes (r ∷ others) total some (mid, takes, more) = total_is_last stage r.text r.line total takes.stands

pub none_refused : (old new : Reading) (bytes line : List ℕ) (others : List ReadLine) (fault : LineFault) → old.left ≡ Some bytes
    → AreLeft old.stage bytes others → old.number < MAX_LINES → IsBadLine old new line fault → ⊥
none_refused old new bytes line others faults.Newline is reads few (total, (one, some, short, gone, end)) =
    part_refused old.stage bytes others total (subst (λ (l : List ℕ). 0 < length l) (sym (consumed_all old.left new.left bytes line is gone end)) some) reads
none_refused old new bytes line others faults.Long is reads few (one, long, gone) =
    let found = consumed old.left new.left bytes line is gone in
    long_refused old.stage bytes line found.0 others one long found.1 reads
none_refused old new bytes line others faults.TooMany is reads few (next, many) = omega (arith, few, many)
none_refused old new bytes line others faults.Head is reads few ((one, short, gone), (low, bad)) =
    let found = consumed old.left new.left bytes (line ++ 10 ∷ []) is gone in
    line_refused old.stage bytes line found.0 others faults.Head one found.1 reads bad
none_refused old new bytes line others (faults.Frame fault) is reads few ((one, short, gone), (low, bad)) =
    let found = consumed old.left new.left bytes (line ++ 10 ∷ []) is gone in
    line_refused old.stage bytes line found.0 others (faults.Frame fault) one found.1 reads bad
none_refused old new bytes line others faults.Order is reads few ((one, short, gone), (low, bad)) =
    let found = consumed old.left new.left bytes (line ++ 10 ∷ []) is gone in
    line_refused old.stage bytes line found.0 others faults.Order one found.1 reads bad

-- ---- no end is found before

not_ended : (stage : LedgerStage) (bytes : List ℕ) (others : List ReadLine) → has_total stage ≡ false → NoNewline bytes → AreLeft stage bytes others → ⊥
not_ended stage bytes [] without one (last, none) = true≢false (sym (ap has_total last) ∙ without)
not_ended stage bytes (r ∷ others) without one (None, takes, more) = takes.gone
not_ended stage bytes (r ∷ others) without one (Some m, takes, more) =
    omega (arith, ends_before bytes [] r.text m one (append-nil bytes ∙ takes.gone), ap length takes.gone, length-append (r.text ++ 10 ∷ []) m, length-append r.text (10 ∷ []))

end_before : (old new : Reading) (bytes line : List ℕ) (others : List ReadLine) (within : Bool) → old.left ≡ Some bytes → AreLeft old.stage bytes others
    → has_total old.stage ≡ false → IsNextLine old.left new.left line (last_of within) → ⊥
end_before old new bytes line others true is reads without (one, some, short, gone, end) =
    not_ended old.stage bytes others without (subst NoNewline (sym (consumed_all old.left new.left bytes line is gone end)) one) reads
end_before old new bytes line others false is reads without (here, after) =
    not_ended old.stage bytes others without (subst NoNewline (sym (at_end old.left bytes is here)) refl) reads

pub no_end_before : (old new : Reading) (bytes line : List ℕ) (others : List ReadLine) (stop : LedgerStop) → old.left ≡ Some bytes
    → AreLeft old.stage bytes others → IsFound old new line (found.Incomplete stop) → ⊥
no_end_before old new bytes line others stop is reads (without, count, next, stays) = end_before old new bytes line others stop.within_line is reads without next
