-- The bytes of a line, and how many they are.
use Rattle.std.proofs.Common.{◌≡◌, ◌∙◌, ℕ, ◌+◌, ◌*◌, ◌^◌, ◌<◌, ◌≤◌, Bool, true, false, cond, not, nat_lt, nat_le, ltb-true, leb-true, lt-ltb, List, [], ◌∷◌, ◌++◌, length, Option, None, Some, IfSome, refl, ap, arith, length-append}
use Rattle.std.proofs.lemmas.Bool.Decides.{nat_tests}
use Rattle.std.proofs.lemmas.Fmt.{digits_decimal, length-decimal-le}
use Rattle.std.proofs.lemmas.List.Folds.{list_all-append}
use Rattle.std.proofs.lemmas.Str.Parse.{digit_from_value}
use Rattle.std.specs.Fmt.{decimal}
use Rattle.std.specs.Int.{IsInRange}
use Rattle.std.specs.List.{join_with_byte, list_all, position_or_len}
use Rattle.std.specs.Str.Parse.{AllDigits}
use Rattle.afdx_frame.specs.Frame.{network_letter}
use Rattle.afdx_frame.specs.declared.key.Network.{Network}
use Rattle.afdx_frame.specs.declared.key.Network.TheVariants.{A, B}
use Rattle.afdx_frame.specs.declared.key.VlId.{VlId}
use Rattle.integrity.specs.Word.{integrity_word}
use Rattle.integrity.specs.declared.verdict.Integrity.{Integrity}
use Rattle.integrity.specs.declared.verdict.Integrity.TheVariants.{First, Reset, Next, Skip, Off, Out}
use Rattle.ledger_text.proofs.Decimals.{both_true, first_true, own, second_true}
use Rattle.ledger_text.proofs.Texts.{all_clear}
use Rattle.ledger_text.specs.FrameText.{IsFrameLine, frame_fields, length_fields, link_fits, link_text}
use Rattle.ledger_text.specs.Newlines.{NoNewline, is_newline}
use Rattle.ledger_text.specs.Reads.{Below, dash_or}
use Rattle.ledger_text.specs.declared.frame.FrameLine.{FrameLine}
use Rattle.policing.specs.Word.{policing_word}
use Rattle.policing.specs.declared.verdict.Policing.{Policing}
use Rattle.policing.specs.declared.verdict.Policing.TheVariants.{Within, Excess}
use Rattle.redundancy.specs.Word.{redundancy_word}
use Rattle.redundancy.specs.declared.verdict.Redundancy.{Redundancy}
use Rattle.redundancy.specs.declared.verdict.Redundancy.TheVariants.{Deliver, Copy, Both}
use Rattle.verdict_ledger.specs.Text.{mask_text}
use Rattle.verdict_ledger.specs.declared.version.LedgerVersion.{LedgerVersion}
use Rattle.vl_config.specs.Class.{class_word}
use Rattle.vl_config.specs.declared.class.Class.{Class}
use Rattle.vl_config.specs.declared.class.Class.TheVariants.{Cut, Runt, Oversize, Foreign, Unconfigured, TooLong, Regular}

-- no byte is below the space
abbrev pub is_plain : List ℕ → Bool
is_plain bytes = list_all (λ b. nat_lt 31 b) bytes

-- bytes of a line, at most so many
pub record IsPart (most : ℕ) (bytes : List ℕ) : Type 0 where
  pub plain : is_plain bytes ≡ true
  pub few : length bytes ≤ most

pub word_part : (most : ℕ) (bytes : List ℕ) → is_plain bytes ≡ true → nat_le (length bytes) most ≡ true → IsPart most bytes
word_part most bytes plain few = record { plain = plain; few = leb-true (length bytes) most few }

pub join_parts : (m n : ℕ) (xs ys : List ℕ) → IsPart m xs → IsPart n ys → IsPart (m + n) (xs ++ ys)
join_parts m n xs ys p q = record {
  plain = list_all-append (λ b. nat_lt 31 b) xs ys ∙ both_true (is_plain xs) (is_plain ys) p.plain q.plain;
  few = omega (arith, length-append xs ys, p.few, q.few);
}

-- ---- no newline is among them

not_newline : (b : ℕ) → nat_lt 31 b ≡ true → is_newline b ≡ false
not_newline b e = let l : 31 < b = ltb-true 31 b e in grind (arith, nat_tests)

pub no_newline : (xs : List ℕ) → is_plain xs ≡ true → NoNewline xs
no_newline [] h = refl
no_newline (x ∷ xs) h =
    let here : position_or_len is_newline (x ∷ xs) ≡ 1 + position_or_len is_newline xs =
    ap (λ (b : Bool). cond (not b) (1 + position_or_len is_newline xs) 0) (not_newline x (first_true (nat_lt 31 x) (is_plain xs) h)) in
    omega (arith, here, no_newline xs (second_true (nat_lt 31 x) (is_plain xs) h))

-- ---- numbers and words

digits_plain : (ds : List ℕ) → AllDigits 10 ds → is_plain ds ≡ true
digits_plain [] h = refl
digits_plain (d ∷ ds) h =
    let here : IsInRange 48 57 d = digit_from_value d h.0 in
    let first : nat_lt 31 d ≡ true = grind (arith, nat_tests) in
    both_true (nat_lt 31 d) (is_plain ds) first (digits_plain ds h.1)

pub number_part : (n : ℕ) → n < 2 ^ 64 → IsPart 20 (decimal n)
number_part n h = record {
  plain = digits_plain (decimal n) (digits_decimal own n h);
  few = length-decimal-le 20 n (omega arith) (omega arith) h;
}

network_part : (n : Network) → IsPart 20 (network_letter n)
network_part A = word_part 20 _ refl refl
network_part B = word_part 20 _ refl refl

pub letter_part : (n : Network) → IsPart 1 (network_letter n)
letter_part A = word_part 1 _ refl refl
letter_part B = word_part 1 _ refl refl

class_part : (c : Class) → IsPart 20 (class_word c)
class_part Cut = word_part 20 _ refl refl
class_part Runt = word_part 20 _ refl refl
class_part Oversize = word_part 20 _ refl refl
class_part Foreign = word_part 20 _ refl refl
class_part Unconfigured = word_part 20 _ refl refl
class_part TooLong = word_part 20 _ refl refl
class_part Regular = word_part 20 _ refl refl

policing_part : (p : Option Policing) → IsPart 20 (dash_or policing_word p)
policing_part None = word_part 20 _ refl refl
policing_part (Some Within) = word_part 20 _ refl refl
policing_part (Some Excess) = word_part 20 _ refl refl

integrity_part : (t : Option Integrity) → IsPart 20 (dash_or integrity_word t)
integrity_part None = word_part 20 _ refl refl
integrity_part (Some First) = word_part 20 _ refl refl
integrity_part (Some Reset) = word_part 20 _ refl refl
integrity_part (Some Next) = word_part 20 _ refl refl
integrity_part (Some Skip) = word_part 20 _ refl refl
integrity_part (Some Off) = word_part 20 _ refl refl
integrity_part (Some Out) = word_part 20 _ refl refl

redundancy_part : (r : Option Redundancy) → IsPart 20 (dash_or redundancy_word r)
redundancy_part None = word_part 20 _ refl refl
redundancy_part (Some Deliver) = word_part 20 _ refl refl
redundancy_part (Some Copy) = word_part 20 _ refl refl
redundancy_part (Some Both) = word_part 20 _ refl refl

optional_part : (o : Option ℕ) (k : ℕ) → k ≤ 2 ^ 64 → IfSome o (Below k) → IsPart 20 (dash_or decimal o)
optional_part None k l h = word_part 20 _ refl refl
optional_part (Some n) k l h = number_part n (omega arith)

link_part : (o : Option VlId) → IfSome o link_fits → IsPart 20 (dash_or link_text o)
link_part None h = word_part 20 _ refl refl
link_part (Some l) h = number_part l.0 (omega arith)

-- ---- the line of a frame

-- each field is short
abbrev AreParts : List (List ℕ) → Type 0
AreParts [] = Unit {0}
AreParts (x ∷ xs) = IsPart 20 x × AreParts xs

join_fields : (x : List ℕ) (xs : List (List ℕ)) → AreParts (x ∷ xs) → IsPart (21 * length (x ∷ xs)) (join_with_byte 32 (x ∷ xs))
join_fields x [] h = record { plain = h.0.plain; few = omega (arith, h.0.few) }
join_fields x (y ∷ ys) h =
    let more = join_fields y ys h.1 in
    let rest = join_with_byte 32 (y ∷ ys) in
    record {
      plain = list_all-append (λ b. nat_lt 31 b) x (32 ∷ rest) ∙ both_true (is_plain x) (is_plain (32 ∷ rest)) h.0.plain more.plain;
      few = omega (arith, length-append x (32 ∷ rest), h.0.few, more.few);
    }

join_all : (xs : List (List ℕ)) → AreParts xs → IsPart (21 * length xs) (join_with_byte 32 xs)
join_all [] h = word_part 0 [] refl refl
join_all (x ∷ xs) h = join_fields x xs h

clear_plain : (xs : List ℕ) → list_all (λ b. nat_lt 32 b) xs ≡ true → is_plain xs ≡ true
clear_plain [] h = refl
clear_plain (x ∷ xs) h =
    let above : 32 < x = ltb-true 32 x (first_true (nat_lt 32 x) (list_all (λ b. nat_lt 32 b) xs) h) in
    both_true (nat_lt 31 x) (is_plain xs) (lt-ltb 31 x (omega arith)) (clear_plain xs (second_true (nat_lt 32 x) (list_all (λ b. nat_lt 32 b) xs) h))

mask_part : (m : ℕ) → list_all (λ b. nat_lt 32 b) (mask_text m) ≡ true → IsPart 20 (mask_text m)
mask_part m clear = word_part 20 (mask_text m) (clear_plain (mask_text m) clear) refl

length_part : (o : Option ℕ) → IfSome o (Below (2 ^ 32)) → AreParts (length_fields o)
length_part None h = tt
length_part (Some n) h = (number_part n (omega arith), tt)

one_length : (o : Option ℕ) → length (length_fields o) ≤ 1
one_length None = omega arith
one_length (Some n) = omega arith

pub frame_part : (version : LedgerVersion) (v : FrameLine) → IsFrameLine version v → IsPart 252 (join_with_byte 32 (frame_fields v))
frame_part version v z =
    let fields : AreParts (frame_fields v) = (
      number_part v.stamp.0 (omega (arith, z.stamp)),
      (
        network_part v.network,
        (
          number_part v.number (omega (arith, z.number)),
          (
            link_part v.link z.link.fits,
            (
              optional_part v.sequence (2 ^ 8) (omega arith) z.sequence.fits,
              (
                class_part v.verdict.class,
                (
                  policing_part v.verdict.policing,
                  (
                    integrity_part v.verdict.integrity,
                    (
                      redundancy_part v.verdict.redundancy,
                      (optional_part v.kept (2 ^ 32) (omega arith) z.kept, (mask_part v.mask (all_clear version v z).1.1.1.1.1.1.1.1.1.1.0, length_part v.length z.length.fits)),
                    ),
                  ),
                ),
              ),
            ),
          ),
        ),
      ),
    ) in
    let line = join_all (frame_fields v) fields in
    record { plain = line.plain; few = omega (arith, line.few, one_length v.length) }
