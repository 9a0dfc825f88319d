-- The line of a frame against the text of an entry.
use Rattle.std.proofs.Common.{◌≡◌, ◌∙◌, ℕ, zero, suc, ◌/◌, ◌%◌, ◌^◌, ◌<◌, ◌≤◌, Bool, true, false, cond, nat_lt, ltb-true, List, [], ◌∷◌, ◌++◌, Option, None, Some, IfSome, codes, refl, sym, ap, arith, append_assoc}
use Rattle.std.proofs.lemmas.Bool.Decides.{nat_tests}
use Rattle.std.proofs.lemmas.List.{append_cancel_right}
use Rattle.std.specs.Option.{option_map_or}
use Rattle.std.specs.Fmt.{decimal}
use Rattle.std.specs.List.{join_with_byte, onto_first, list_all}
use Rattle.std.specs.Str.Parse.{AllDigits}
use Rattle.std.specs.Int.{IsInRange}
use Rattle.std.proofs.lemmas.Fmt.{digits_decimal}
use Rattle.std.proofs.lemmas.Str.Parse.{digit_from_value}
use Rattle.std.proofs.lemmas.List.Splits.{join_with_byte-slice_split, slice_split-cons_no}
use Rattle.afdx_frame.specs.View.{link_of, sequence_of}
use Rattle.afdx_frame.specs.declared.key.VlId.{VlId}
use Rattle.afdx_frame.specs.declared.key.Network.{Network}
use Rattle.afdx_frame.specs.declared.key.Network.TheVariants.{A, B}
use Rattle.vl_config.specs.declared.class.Class.{Class}
use Rattle.vl_config.specs.declared.class.Class.TheVariants.{Cut, Runt, Oversize, Foreign, Unconfigured, TooLong, Regular}
use Rattle.policing.specs.declared.verdict.Policing.{Policing}
use Rattle.policing.specs.declared.verdict.Policing.TheVariants.{Within, Excess}
use Rattle.integrity.specs.declared.verdict.Integrity.{Integrity}
use Rattle.integrity.specs.declared.verdict.Integrity.TheVariants.{First, Reset, Next, Skip, Off, Out}
use Rattle.redundancy.specs.declared.verdict.Redundancy.{Redundancy}
use Rattle.redundancy.specs.declared.verdict.Redundancy.TheVariants.{Deliver, Copy, Both}
use Rattle.verdict_ledger.specs.Entry.{Entry}
use Rattle.redundancy.specs.Word.{redundancy_word}
use Rattle.integrity.specs.Word.{integrity_word}
use Rattle.policing.specs.Word.{policing_word}
use Rattle.afdx_frame.specs.Frame.{network_letter}
use Rattle.vl_config.specs.Class.{is_addressed, class_word}
use Rattle.verdict_ledger.specs.Text.{length_text, line_text, optional_field, verdict_text, word_field, number_field, mask_text, hex_digit}
use Rattle.verdict_ledger.specs.declared.version.LedgerVersion.{LedgerVersion}
use Rattle.verdict_ledger.specs.declared.version.LedgerVersion.TheVariants.{Two, Three}
use Rattle.ledger_text.specs.Reads.{dash_or, Below}
use Rattle.ledger_text.specs.Fields.{fields_of, is_space}
use Rattle.ledger_text.specs.FrameText.{IsFrameLine, IsFrameText, frame_fields, length_fields, length_shown, link_fits, link_text, shown}
use Rattle.ledger_text.specs.declared.frame.FrameLine.{FrameLine}
use Rattle.ledger_text.proofs.Decimals.{own, first_true, second_true, both_true}

-- ---- the text of an entry is its fields, joined by spaces

optional_is : (o : Option ℕ) → optional_field o ≡ 32 ∷ dash_or decimal o
optional_is None = refl
optional_is (Some n) = refl

optional_link : (o : Option VlId) → optional_field (option_map_or (λ id. Some id.0) o None) ≡ 32 ∷ dash_or link_text o
optional_link None = refl
optional_link (Some id) = refl

address_by : (b : Bool) (l : Option VlId) (q : Option ℕ)
    → cond b (optional_field (option_map_or (λ id. Some id.0) l None) ++ optional_field q) (codes " - -")
    ≡ (32 ∷ dash_or link_text (cond b l None)) ++ (32 ∷ dash_or decimal (cond b q None))
address_by true l q = ap (λ (x : List ℕ). x ++ optional_field q) (optional_link l) ∙ ap (λ (x : List ℕ). (32 ∷ dash_or link_text l) ++ x) (optional_is q)
address_by false l q = refl

flat : (a b c l q w x y z k m n : List ℕ)
    → a ++ (b ++ (c ++ ((l ++ q) ++ ((w ++ (x ++ (y ++ z))) ++ (k ++ (m ++ n))))))
    ≡ (a ++ (b ++ (c ++ (l ++ (q ++ (w ++ (x ++ (y ++ (z ++ (k ++ m)))))))))) ++ n
flat a b c l q w x y z k m n = simp append_assoc

spread : (a b c l q w x y z k m n : List ℕ)
    → a ++ ((32 ∷ b) ++ ((32 ∷ c) ++ (((32 ∷ l) ++ (32 ∷ q)) ++ (((32 ∷ w) ++ ((32 ∷ x) ++ ((32 ∷ y) ++ (32 ∷ z)))) ++ ((32 ∷ k) ++ ((32 ∷ m) ++ n))))))
    ≡ join_with_byte 32 (a ∷ b ∷ c ∷ l ∷ q ∷ w ∷ x ∷ y ∷ z ∷ k ∷ m ∷ []) ++ n
spread a b c l q w x y z k m n =
    flat a (32 ∷ b) (32 ∷ c) (32 ∷ l) (32 ∷ q) (32 ∷ w) (32 ∷ x) (32 ∷ y) (32 ∷ z) (32 ∷ k) (32 ∷ m) n

flat_more : (a b c l q w x y z k m o n : List ℕ)
    → a ++ (b ++ (c ++ ((l ++ q) ++ ((w ++ (x ++ (y ++ z))) ++ (k ++ (m ++ (o ++ n)))))))
    ≡ (a ++ (b ++ (c ++ (l ++ (q ++ (w ++ (x ++ (y ++ (z ++ (k ++ (m ++ o))))))))))) ++ n
flat_more a b c l q w x y z k m o n = simp append_assoc

spread_more : (a b c l q w x y z k m o n : List ℕ)
    → a ++ ((32 ∷ b) ++ ((32 ∷ c) ++ (((32 ∷ l) ++ (32 ∷ q)) ++ (((32 ∷ w) ++ ((32 ∷ x) ++ ((32 ∷ y) ++ (32 ∷ z)))) ++ ((32 ∷ k) ++ ((32 ∷ m) ++ ((32 ∷ o) ++ n)))))))
    ≡ join_with_byte 32 (a ∷ b ∷ c ∷ l ∷ q ∷ w ∷ x ∷ y ∷ z ∷ k ∷ m ∷ o ∷ []) ++ n
spread_more a b c l q w x y z k m o n =
    flat_more a (32 ∷ b) (32 ∷ c) (32 ∷ l) (32 ∷ q) (32 ∷ w) (32 ∷ x) (32 ∷ y) (32 ∷ z) (32 ∷ k) (32 ∷ m) (32 ∷ o) n

spread_last : (version : LedgerVersion) (whole : ℕ) (a b c l q w x y z k m n : List ℕ)
    → a ++ ((32 ∷ b) ++ ((32 ∷ c) ++ (((32 ∷ l) ++ (32 ∷ q)) ++ (((32 ∷ w) ++ ((32 ∷ x) ++ ((32 ∷ y) ++ (32 ∷ z)))) ++ ((32 ∷ k) ++ ((32 ∷ m) ++ (length_text version whole ++ n)))))))
    ≡ join_with_byte 32 (a ∷ b ∷ c ∷ l ∷ q ∷ w ∷ x ∷ y ∷ z ∷ k ∷ m ∷ length_fields (length_shown version whole)) ++ n
spread_last Two whole a b c l q w x y z k m n = spread a b c l q w x y z k m n
spread_last Three whole a b c l q w x y z k m n = spread_more a b c l q w x y z k m (decimal whole) n

pub entry_text : (version : LedgerVersion) (e : Entry) → line_text version e ≡ join_with_byte 32 (frame_fields (shown version e)) ++ codes "\n"
unfolding line_text
entry_text version e =
    let v = shown version e in
    let last = word_field (mask_text e.mask) ++ (length_text version e.frame.whole ++ codes "\n") in
    let rest = optional_field e.keep ++ last in
    let front = λ (x : List ℕ). decimal e.frame.stamp ++ (word_field (network_letter e.frame.network) ++ (number_field e.frame.number ++ x)) in
    ap (λ (x : List ℕ). front (x ++ (verdict_text e.verdict ++ rest))) (address_by (is_addressed e.verdict.class) (link_of e.frame.bytes) (sequence_of e.frame.bytes))
    ∙ ap (λ (x : List ℕ). front (((32 ∷ dash_or link_text v.link) ++ (32 ∷ dash_or decimal v.sequence)) ++ (verdict_text e.verdict ++ (x ++ last)))) (optional_is e.keep)
    ∙ spread_last version e.frame.whole (decimal v.stamp.0) (network_letter v.network) (decimal v.number) (dash_or link_text v.link) (dash_or decimal v.sequence) (class_word v.verdict.class)
    (dash_or policing_word v.verdict.policing) (dash_or integrity_word v.verdict.integrity) (dash_or redundancy_word v.verdict.redundancy) (dash_or decimal v.kept) (mask_text v.mask) (codes "\n")

-- ---- no field has a byte up to the space

abbrev pub is_clear : List ℕ → Bool
is_clear bytes = list_all (λ b. nat_lt 32 b) bytes

abbrev pub AllClear : List (List ℕ) → Type 0
AllClear [] = Unit {0}
AllClear (x ∷ xs) = (is_clear x ≡ true) × AllClear xs

not_space : (b : ℕ) → nat_lt 32 b ≡ true → is_space b ≡ false
not_space b e = let l : 32 < b = ltb-true 32 b e in grind (arith, nat_tests)

digits_clear : (ds : List ℕ) → AllDigits 10 ds → is_clear ds ≡ true
digits_clear [] h = refl
digits_clear (d ∷ ds) h =
    let here : IsInRange 48 57 d = digit_from_value d h.0 in
    let first : nat_lt 32 d ≡ true = grind (arith, nat_tests) in
    both_true (nat_lt 32 d) (is_clear ds) first (digits_clear ds h.1)

decimal_clear : (n : ℕ) → n < 2 ^ 64 → is_clear (decimal n) ≡ true
decimal_clear n h = digits_clear (decimal n) (digits_decimal own n h)

network_clear : (n : Network) → is_clear (network_letter n) ≡ true
network_clear A = refl
network_clear B = refl

class_clear : (c : Class) → is_clear (class_word c) ≡ true
class_clear Cut = refl
class_clear Runt = refl
class_clear Oversize = refl
class_clear Foreign = refl
class_clear Unconfigured = refl
class_clear TooLong = refl
class_clear Regular = refl

policing_clear : (p : Option Policing) → is_clear (dash_or policing_word p) ≡ true
policing_clear None = refl
policing_clear (Some Within) = refl
policing_clear (Some Excess) = refl

integrity_clear : (t : Option Integrity) → is_clear (dash_or integrity_word t) ≡ true
integrity_clear None = refl
integrity_clear (Some First) = refl
integrity_clear (Some Reset) = refl
integrity_clear (Some Next) = refl
integrity_clear (Some Skip) = refl
integrity_clear (Some Off) = refl
integrity_clear (Some Out) = refl

redundancy_clear : (r : Option Redundancy) → is_clear (dash_or redundancy_word r) ≡ true
redundancy_clear None = refl
redundancy_clear (Some Deliver) = refl
redundancy_clear (Some Copy) = refl
redundancy_clear (Some Both) = refl

number_clear : (o : Option ℕ) (k : ℕ) → k ≤ 2 ^ 64 → IfSome o (Below k) → is_clear (dash_or decimal o) ≡ true
number_clear None k l h = refl
number_clear (Some n) k l h = decimal_clear n (omega arith)

link_clear : (o : Option VlId) → IfSome o link_fits → is_clear (dash_or link_text o) ≡ true
link_clear None h = refl
link_clear (Some l) h = decimal_clear l.0 (omega arith)

hex_clear : (n : ℕ) → n < 16 → nat_lt 32 (hex_digit n) ≡ true
hex_clear zero h = refl
hex_clear (suc zero) h = refl
hex_clear (suc (suc zero)) h = refl
hex_clear (suc (suc (suc zero))) h = refl
hex_clear (suc (suc (suc (suc zero)))) h = refl
hex_clear (suc (suc (suc (suc (suc zero))))) h = refl
hex_clear (suc (suc (suc (suc (suc (suc zero)))))) h = refl
hex_clear (suc (suc (suc (suc (suc (suc (suc zero))))))) h = refl
hex_clear (suc (suc (suc (suc (suc (suc (suc (suc zero)))))))) h = refl
hex_clear (suc (suc (suc (suc (suc (suc (suc (suc (suc zero))))))))) h = refl
hex_clear (suc (suc (suc (suc (suc (suc (suc (suc (suc (suc zero)))))))))) h = refl
hex_clear (suc (suc (suc (suc (suc (suc (suc (suc (suc (suc (suc zero))))))))))) h = refl
hex_clear (suc (suc (suc (suc (suc (suc (suc (suc (suc (suc (suc (suc zero)))))))))))) h = refl
hex_clear (suc (suc (suc (suc (suc (suc (suc (suc (suc (suc (suc (suc (suc zero))))))))))))) h = refl
hex_clear (suc (suc (suc (suc (suc (suc (suc (suc (suc (suc (suc (suc (suc (suc zero)))))))))))))) h = refl
hex_clear (suc (suc (suc (suc (suc (suc (suc (suc (suc (suc (suc (suc (suc (suc (suc zero))))))))))))))) h = refl
hex_clear (suc (suc (suc (suc (suc (suc (suc (suc (suc (suc (suc (suc (suc (suc (suc (suc n)))))))))))))))) h = absurd (omega arith)

mask_clear : (m : ℕ) → m < 2 ^ 8 → is_clear (mask_text m) ≡ true
mask_clear m h =
    both_true (nat_lt 32 (hex_digit (m / 16))) (is_clear (hex_digit (m % 16) ∷ [])) (hex_clear (m / 16) (omega arith))
    (both_true (nat_lt 32 (hex_digit (m % 16))) true (hex_clear (m % 16) (omega arith)) refl)

length_clear : (o : Option ℕ) → IfSome o (Below (2 ^ 32)) → AllClear (length_fields o)
length_clear None h = tt
length_clear (Some n) h = (decimal_clear n (omega arith), tt)

pub all_clear : (version : LedgerVersion) (v : FrameLine) → IsFrameLine version v → AllClear (frame_fields v)
all_clear version v z = (
  decimal_clear v.stamp.0 (omega (arith, z.stamp)),
  (
    network_clear v.network,
    (
      decimal_clear v.number (omega (arith, z.number)),
      (
        link_clear v.link z.link.fits,
        (
          number_clear v.sequence (2 ^ 8) (omega arith) z.sequence.fits,
          (
            class_clear v.verdict.class,
            (
              policing_clear v.verdict.policing,
              (
                integrity_clear v.verdict.integrity,
                (
                  redundancy_clear v.verdict.redundancy,
                  (number_clear v.kept (2 ^ 32) (omega arith) z.kept, (mask_clear v.mask z.mask.small, length_clear v.length z.length.fits)),
                ),
              ),
            ),
          ),
        ),
      ),
    ),
  ),
)

-- ---- the fields of fields that spaces join

split_at_space : (xs ys : List ℕ) → is_clear xs ≡ true → fields_of (xs ++ 32 ∷ ys) ≡ xs ∷ fields_of ys
split_at_space [] ys h = refl
split_at_space (x ∷ xs) ys h =
    slice_split-cons_no is_space x (xs ++ 32 ∷ ys) (not_space x (first_true (nat_lt 32 x) (is_clear xs) h))
    ∙ ap (onto_first x) (split_at_space xs ys (second_true (nat_lt 32 x) (is_clear xs) h))

split_last : (xs : List ℕ) → is_clear xs ≡ true → fields_of xs ≡ xs ∷ []
split_last [] h = refl
split_last (x ∷ xs) h =
    slice_split-cons_no is_space x xs (not_space x (first_true (nat_lt 32 x) (is_clear xs) h))
    ∙ ap (onto_first x) (split_last xs (second_true (nat_lt 32 x) (is_clear xs) h))

split_join : (x : List ℕ) (xs : List (List ℕ)) → AllClear (x ∷ xs) → fields_of (join_with_byte 32 (x ∷ xs)) ≡ x ∷ xs
split_join x [] h = split_last x h.0
split_join x (y ∷ ys) h =
    split_at_space x (join_with_byte 32 (y ∷ ys)) h.0 ∙ ap (λ (l : List (List ℕ)). x ∷ l) (split_join y ys h.1)

pub fields_split : (version : LedgerVersion) (v : FrameLine) → IsFrameLine version v → fields_of (join_with_byte 32 (frame_fields v)) ≡ frame_fields v
fields_split version v z = split_join _ _ (all_clear version v z)

pub reads_back : (version : LedgerVersion) (e : Entry) (line : List ℕ) → IsFrameLine version (shown version e) → line_text version e ≡ line ++ codes "\n"
    → IsFrameText version line (shown version e)
reads_back version e line z t =
    let joined = join_with_byte 32 (frame_fields (shown version e)) in
    let same : joined ≡ line = append_cancel_right joined line (codes "\n") (sym (entry_text version e) ∙ t) in
    record { values = z; fields = ap fields_of (sym same) ∙ fields_split version (shown version e) z }

pub is_text : (version : LedgerVersion) (e : Entry) (line : List ℕ) → IsFrameText version line (shown version e) → line_text version e ≡ line ++ codes "\n"
is_text version e line p =
    entry_text version e ∙ ap (λ (x : List ℕ). x ++ codes "\n") (ap (join_with_byte 32) (sym p.fields) ∙ join_with_byte-slice_split 32 line)
