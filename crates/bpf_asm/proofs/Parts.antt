-- Texts of parts: blanks, marks and words with their tokens. A listing is such a text.
use Rattle.std.proofs.Common.{◌≡◌, ℕ, zero, suc, ◌+◌, ◌^◌, ◌<◌, ◌≤◌, ◌-◌, Bool, true, false, not, ◌&&◌, ◌||◌, ◌==◌, List, [], ◌∷◌, ◌++◌, length, map, min, Some, refl, sym, ap, subst, ◌∙◌, arith, nat_lt, rules}
use Rattle.std.proofs.lemmas.List.{append_assoc}
use Rattle.std.proofs.lemmas.Bool.Decides.{nat_tests}
use Rattle.std.proofs.lemmas.Bool.{and_parts}
use Rattle.std.proofs.lemmas.Fmt.{digits_decimal, decimal_nonempty, decimal_is_IsNumeral, first_decimal, decimal_digit}
use Rattle.std.proofs.lemmas.Str.Parse.{IsNumeralModel, numerals_by_value}
use Rattle.std.specs.Prelude.{decimal, slice_index}
use Rattle.std.specs.List.{list_all}
use Rattle.std.specs.Char.{is_ascii_digit, is_digit}
use Rattle.std.specs.Str.{all_ascii_digits}
use Rattle.std.specs.Str.Parse.{AllDigits, digits_value}
use Rattle.bpf_text.specs.Keywords.{keywords, keyword_of}
use Rattle.bpf_text.specs.Numbers.{number_of, too_large}
use Rattle.bpf_text.specs.Tokens.{Token, Name, Num, Mark, Lexeme, Item, Lexed, End, is_word_byte, is_mark, is_blank, opens_line_comment, name_token, word_item, items_at}
use Rattle.bpf_text.specs.Grammar.{token_of}
use Rattle.bpf_text.proofs.Pieces.{Piece, Blank, Sign, Run, bytes_of, items_of, NoRun, AreLaid, text_items}
use Rattle.bpf_asm.specs.Listing.{label_text}

pub data Part : Type 0 where
  Space : ℕ → Part  -- a blank byte
  Point : ℕ → Part  -- a mark
  Spelt : List ℕ → Token → Part  -- a word and its token

abbrev pub part_text : Part → List ℕ
part_text (Space b) = b ∷ []
part_text (Point b) = b ∷ []
part_text (Spelt word token) = word

abbrev pub text_of : List Part → List ℕ
text_of [] = []
text_of (part ∷ parts) = part_text part ++ text_of parts

abbrev pub part_tokens : Part → List Token
part_tokens (Space b) = []
part_tokens (Point b) = Mark b ∷ []
part_tokens (Spelt word token) = token ∷ []

abbrev pub tokens_of : List Part → List Token
tokens_of [] = []
tokens_of (part ∷ parts) = part_tokens part ++ tokens_of parts

abbrev pub lexeme_at : ℕ → Token → Lexeme
lexeme_at at token = record { at = at; token = token }

abbrev pub lexemes_of : ℕ → List Part → List Lexeme
lexemes_of at [] = []
lexemes_of at (part ∷ parts) = map (lexeme_at at) (part_tokens part) ++ lexemes_of (at + length (part_text part)) parts

-- ---- sound parts

-- a word that is read as its token
pub record IsSpelt (word : List ℕ) (token : Token) : Type 0 where
  pub some : nat_lt 0 (length word) ≡ true
  pub bytes : list_all is_word_byte word ≡ true
  pub item : (at : ℕ) → word_item at word ≡ Lexed (lexeme_at at token)

abbrev pub IsSound : Part → Type 0
IsSound (Space b) = is_blank b ≡ true
IsSound (Point b) = is_mark b ≡ true
IsSound (Spelt word token) = IsSpelt word token

abbrev pub AreSound : List Part → Type 0
AreSound [] = Unit {0}
AreSound (part ∷ parts) = IsSound part × AreSound parts

abbrev pub begins_run : List Part → Bool
begins_run [] = false
begins_run (Space b ∷ parts) = false
begins_run (Point b ∷ parts) = false
begins_run (Spelt word token ∷ parts) = true

-- no word follows a word, and no # is the first byte of a line
abbrev pub laid : ℕ → List Part → Bool
laid before [] = true
laid before (Space b ∷ parts) = laid b parts
laid before (Point b ∷ parts) = not (opens_line_comment before b) && laid b parts
laid before (Spelt word token ∷ parts) = not (begins_run parts) && laid 95 parts

-- ---- parts one after the other

pub text_append : (ps qs : List Part) → text_of (ps ++ qs) ≡ text_of ps ++ text_of qs
text_append [] qs = refl
text_append (p ∷ ps) qs = ap (λ (t : List ℕ). part_text p ++ t) (text_append ps qs) ∙ sym (append_assoc (part_text p) (text_of ps) (text_of qs))

pub sound_append : (ps qs : List Part) → AreSound ps → AreSound qs → AreSound (ps ++ qs)
sound_append [] qs a b = b
sound_append (p ∷ ps) qs a b = (a.0, sound_append ps qs a.1 b)

pub lexemes_append : (at : ℕ) (ps qs : List Part) → lexemes_of at (ps ++ qs) ≡ lexemes_of at ps ++ lexemes_of (at + length (text_of ps)) qs
lexemes_append at [] qs = ap (λ (n : ℕ). lexemes_of n qs) (same at)
  where
    same : (n : ℕ) → n ≡ n + 0
    same n = omega arith
lexemes_append at (p ∷ ps) qs =
    let first : List Lexeme = map (lexeme_at at) (part_tokens p) in
    let next : ℕ = at + length (part_text p) in
    ap (λ (ls : List Lexeme). first ++ ls) (lexemes_append next ps qs ∙ ap (λ (n : ℕ). lexemes_of next ps ++ lexemes_of n qs) (sums at (part_text p) (text_of ps)))
    ∙ sym (append_assoc first (lexemes_of next ps) (lexemes_of (at + length (text_of (p ∷ ps))) qs))
  where
    lens : (xs ys : List ℕ) → length (xs ++ ys) ≡ length xs + length ys
    lens [] ys = omega arith
    lens (x ∷ xs) ys = omega (arith, lens xs ys)

    sums : (n : ℕ) (xs ys : List ℕ) → n + length xs + length ys ≡ n + length (xs ++ ys)
    sums n xs ys = omega (arith, lens xs ys)

pub tokens_are : (at : ℕ) (ps : List Part) → map token_of (lexemes_of at ps) ≡ tokens_of ps
tokens_are at [] = refl
tokens_are at (Space b ∷ ps) = tokens_are (at + 1) ps
tokens_are at (Point b ∷ ps) = ap (λ (ts : List Token). Mark b ∷ ts) (tokens_are (at + 1) ps)
tokens_are at (Spelt word token ∷ ps) = ap (λ (ts : List Token). token ∷ ts) (tokens_are (at + length word) ps)

-- ---- the items of parts

abbrev run_of : List ℕ → Piece
run_of [] = Blank 32
run_of (b ∷ word) = Run b word

abbrev piece_of : Part → Piece
piece_of (Space b) = Blank b
piece_of (Point b) = Sign b
piece_of (Spelt word token) = run_of word

run_bytes : (word : List ℕ) (pieces : List Piece) → nat_lt 0 (length word) ≡ true → bytes_of (run_of word ∷ pieces) ≡ word ++ bytes_of pieces
run_bytes [] pieces some = absurd (cc)
run_bytes (b ∷ word) pieces some = refl

bytes_are : (ps : List Part) → AreSound ps → bytes_of (map piece_of ps) ≡ text_of ps
bytes_are [] sound = refl
bytes_are (Space b ∷ ps) sound = ap (λ (t : List ℕ). b ∷ t) (bytes_are ps sound.1)
bytes_are (Point b ∷ ps) sound = ap (λ (t : List ℕ). b ∷ t) (bytes_are ps sound.1)
bytes_are (Spelt word token ∷ ps) sound = run_bytes word (map piece_of ps) sound.0.some ∙ ap (λ (t : List ℕ). word ++ t) (bytes_are ps sound.1)

no_run : (ps : List Part) → not (begins_run ps) ≡ true → NoRun (map piece_of ps)
no_run [] e = tt
no_run (Space b ∷ ps) e = tt
no_run (Point b ∷ ps) e = tt
no_run (Spelt word token ∷ ps) e = absurd (cc)

not_true : (b : Bool) → not b ≡ true → b ≡ false
not_true true e = absurd (cc)
not_true false e = refl

run_laid : (before : ℕ) (word : List ℕ) (pieces : List Piece) → nat_lt 0 (length word) ≡ true → list_all is_word_byte word ≡ true → NoRun pieces → AreLaid 95 pieces → AreLaid before (run_of word ∷ pieces)
run_laid before [] pieces some bytes none later = absurd (cc)
run_laid before (b ∷ word) pieces some bytes none later = (bytes, none, later)

are_laid : (before : ℕ) (ps : List Part) → AreSound ps → laid before ps ≡ true → AreLaid before (map piece_of ps)
are_laid before [] sound e = tt
are_laid before (Space b ∷ ps) sound e = (sound.0, are_laid b ps sound.1 e)
are_laid before (Point b ∷ ps) sound e =
    let both = and_parts (not (opens_line_comment before b)) (laid b ps) e in
    (sound.0, not_true (opens_line_comment before b) both.0, are_laid b ps sound.1 both.1)
are_laid before (Spelt word token ∷ ps) sound e =
    let both = and_parts (not (begins_run ps)) (laid 95 ps) e in
    run_laid before word (map piece_of ps) sound.0.some sound.0.bytes (no_run ps both.0) (are_laid 95 ps sound.1 both.1)

run_items : (at : ℕ) (word : List ℕ) (pieces : List Piece) → nat_lt 0 (length word) ≡ true → items_of at (run_of word ∷ pieces) ≡ word_item at word ∷ items_of (at + length word) pieces
run_items at [] pieces some = absurd (cc)
run_items at (b ∷ word) pieces some = ap (λ (n : ℕ). word_item at (b ∷ word) ∷ items_of n pieces) (sums at (length word))
  where
    sums : (n m : ℕ) → n + 1 + m ≡ n + suc m
    sums n m = omega arith

-- the items of the parts up to the end
abbrev all_items : ℕ → List Part → List Item
all_items at ps = map Lexed (lexemes_of at ps) ++ End (at + length (text_of ps)) ∷ []

end_of : (at m n : ℕ) (ls : List Lexeme) → m ≡ n → map Lexed ls ++ End m ∷ [] ≡ map Lexed ls ++ End n ∷ []
end_of at m n ls e = ap (λ (i : ℕ). map Lexed ls ++ End i ∷ []) e

items_are : (at : ℕ) (ps : List Part) → AreSound ps → items_of at (map piece_of ps) ≡ all_items at ps
items_are at [] sound = ap (λ (n : ℕ). End n ∷ []) (let same : at ≡ at + 0 = omega arith in same)
items_are at (Space b ∷ ps) sound = items_are (at + 1) ps sound.1 ∙ end_of at _ _ (lexemes_of (at + 1) ps) (sums at (length (text_of ps)))
  where
    sums : (n m : ℕ) → n + 1 + m ≡ n + suc m
    sums n m = omega arith
items_are at (Point b ∷ ps) sound =
    ap (λ (is : List Item). Lexed (lexeme_at at (Mark b)) ∷ is) (items_are (at + 1) ps sound.1 ∙ end_of at _ _ (lexemes_of (at + 1) ps) (sums at (length (text_of ps))))
  where
    sums : (n m : ℕ) → n + 1 + m ≡ n + suc m
    sums n m = omega arith
items_are at (Spelt word token ∷ ps) sound =
    run_items at word (map piece_of ps) sound.0.some
    ∙ ap (λ (i : Item). i ∷ items_of (at + length word) (map piece_of ps)) (sound.0.item at)
    ∙ ap (λ (is : List Item). Lexed (lexeme_at at token) ∷ is) (items_are (at + length word) ps sound.1 ∙ end_of at _ _ (lexemes_of (at + length word) ps) (sums at word (text_of ps)))
  where
    lens : (xs ys : List ℕ) → length (xs ++ ys) ≡ length xs + length ys
    lens [] ys = omega arith
    lens (x ∷ xs) ys = omega (arith, lens xs ys)

    sums : (n : ℕ) (xs ys : List ℕ) → n + length xs + length ys ≡ n + length (xs ++ ys)
    sums n xs ys = omega (arith, lens xs ys)

pub parts_items : (ps : List Part) → AreSound ps → laid 10 ps ≡ true → items_at (text_of ps) 0 ≡ map Lexed (lexemes_of 0 ps) ++ End (0 + length (text_of ps)) ∷ []
parts_items ps sound e =
    ap (λ (t : List ℕ). items_at t 0) (sym (bytes_are ps sound)) ∙ text_items (map piece_of ps) (are_laid 10 ps sound e) ∙ items_are 0 ps sound

-- ---- numbers, labels and keywords

own : IsNumeralModel (λ ds. all_ascii_digits ds ≡ true) (digits_value 10)
own = numerals_by_value _ (search rules)

digit_bytes : (ds : List ℕ) → all_ascii_digits ds ≡ true → list_all is_word_byte ds ≡ true
digit_bytes [] h = refl
digit_bytes (d ∷ ds) h =
    let both = and_parts (is_ascii_digit d) (all_ascii_digits ds) h in
    ap (λ (t : Bool). ((t || Rattle.std.specs.Char.is_ascii_uppercase d || Rattle.std.specs.Char.is_ascii_lowercase d) || d == 95) && list_all is_word_byte ds) both.0 ∙ digit_bytes ds both.1

digit_tests : (ds : List ℕ) → AllDigits 10 ds → list_all (λ digit. is_digit digit 10) ds ≡ true
digit_tests [] h = refl
digit_tests (d ∷ ds) h = rw (below, digit_tests ds h.1) refl
  where
    below : is_digit d 10 ≡ true
    below = grind (arith, nat_tests, h.0)

first_digit : (ds : List ℕ) → all_ascii_digits ds ≡ true → 0 < length ds → is_ascii_digit (slice_index ds 0) ≡ true
first_digit [] h some = absurd (omega arith)
first_digit (d ∷ ds) h some = (and_parts (is_ascii_digit d) (all_ascii_digits ds) h).0

-- a number token: its word begins with a digit, and has this value
pub number_spelt : (word : List ℕ) (n : ℕ) → nat_lt 0 (length word) ≡ true → list_all is_word_byte word ≡ true → is_ascii_digit (slice_index word 0) ≡ true → number_of word ≡ Some n → IsSpelt word (Num n)
unfolding word_item
number_spelt word n some bytes digit value = record { some = some; bytes = bytes; item = λ at. rw (digit, value) refl }

-- a name or a keyword: its word doesn't begin with a digit
pub name_spelt : (word : List ℕ) → nat_lt 0 (length word) ≡ true → list_all is_word_byte word ≡ true → is_ascii_digit (slice_index word 0) ≡ false → IsSpelt word (name_token word)
unfolding word_item
name_spelt word some bytes digit = record { some = some; bytes = bytes; item = λ at. rw digit refl }

-- decimal digits are no prefix where the first of them isn't 0
decimal_number : (word : List ℕ) (n : ℕ) → 48 < slice_index word 0 → nat_lt 0 (length word) ≡ true → list_all (λ digit. is_digit digit 10) word ≡ true → digits_value 10 word ≡ n → n < 2 ^ 32 → number_of word ≡ Some n
unfolding number_of
decimal_number word n first some digits value small =
    let no_zero : (slice_index word 0 == 48) ≡ false = grind (arith, nat_tests, first) in
    let least : min n too_large ≡ n = omega arith in
    rw (no_zero, some, digits, value, least) refl

zero_number : number_of (48 ∷ []) ≡ Some 0
unfolding number_of
zero_number = refl

pub decimal_value : (n : ℕ) → n < 2 ^ 32 → number_of (decimal n) ≡ Some n
decimal_value zero small = ap number_of (decimal_digit 0 (omega arith)) ∙ zero_number
decimal_value (suc n) small =
    let wide : suc n < 2 ^ 64 = omega arith in
    let numeral = decimal_is_IsNumeral (suc n) wide in
    decimal_number (decimal (suc n)) (suc n) (first_decimal (suc n) (omega arith) wide) (grind (arith, nat_tests, numeral.0.0)) (digit_tests (decimal (suc n)) numeral.0.1) numeral.1 small

pub decimal_spelt : (n : ℕ) → n < 2 ^ 32 → IsSpelt (decimal n) (Num n)
decimal_spelt n small =
    let wide : n < 2 ^ 64 = omega arith in
    let some : 0 < length (decimal n) = decimal_nonempty n wide in
    number_spelt (decimal n) n (grind (arith, nat_tests, some)) (digit_bytes (decimal n) (digits_decimal own n wide)) (first_digit (decimal n) (digits_decimal own n wide) some) (decimal_value n small)

-- no keyword is an L and digits
no_keyword : (d : ℕ) (ds : List ℕ) → d < 10 → name_token (76 ∷ (48 + d) ∷ ds) ≡ Name (76 ∷ (48 + d) ∷ ds)
unfolding keyword_of keywords
no_keyword zero ds less = refl
no_keyword (suc zero) ds less = refl
no_keyword (suc (suc zero)) ds less = refl
no_keyword (suc (suc (suc zero))) ds less = refl
no_keyword (suc (suc (suc (suc zero)))) ds less = refl
no_keyword (suc (suc (suc (suc (suc zero))))) ds less = refl
no_keyword (suc (suc (suc (suc (suc (suc zero)))))) ds less = refl
no_keyword (suc (suc (suc (suc (suc (suc (suc zero))))))) ds less = refl
no_keyword (suc (suc (suc (suc (suc (suc (suc (suc zero)))))))) ds less = refl
no_keyword (suc (suc (suc (suc (suc (suc (suc (suc (suc zero))))))))) ds less = refl
no_keyword (suc (suc (suc (suc (suc (suc (suc (suc (suc (suc d)))))))))) ds less = absurd (omega arith)

label_name : (ds : List ℕ) → all_ascii_digits ds ≡ true → 0 < length ds → name_token (76 ∷ ds) ≡ Name (76 ∷ ds)
label_name [] h some = absurd (omega arith)
label_name (d ∷ ds) h some =
    let digit : is_ascii_digit d ≡ true = (and_parts (is_ascii_digit d) (all_ascii_digits ds) h).0 in
    let range : (48 ≤ d) × (d ≤ 57) = (grind (arith, nat_tests, digit), grind (arith, nat_tests, digit)) in
    let same : 48 + (d - 48) ≡ d = omega (arith, range.0) in
    subst (λ c. name_token (76 ∷ c ∷ ds) ≡ Name (76 ∷ c ∷ ds)) same (no_keyword (d - 48) ds (omega (arith, range.1)))

pub label_spelt : (n : ℕ) → n < 2 ^ 32 → IsSpelt (label_text n) (Name (label_text n))
label_spelt n small =
    let wide : n < 2 ^ 64 = omega arith in
    let digits : all_ascii_digits (decimal n) ≡ true = digits_decimal own n wide in
    subst (IsSpelt (label_text n)) (label_name (decimal n) digits (decimal_nonempty n wide))
    (name_spelt (label_text n) (grind (arith, nat_tests)) (digit_bytes (decimal n) digits) refl)
