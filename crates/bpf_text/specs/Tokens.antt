-- The tokens of a text: longest runs of bytes, with blanks and comments between them (bpf_asm's
-- tools/bpf/bpf_exp.l).
use Rattle.std.specs.Prelude.{ℕ, zero, suc, ◌≡◌, ◌+◌, ◌-◌, Bool, true, false, ◌&&◌, ◌||◌, ◌==◌, List, [], ◌∷◌, Option, drop, take, nat_lt, if◌then◌else◌, slice_index, Result, Ok, Err}
use Rattle.std.specs.List.{prefix_len, position_or_len, position, zip}
use Rattle.std.specs.Option.{option_map_or}
use Rattle.std.specs.Char.{is_ascii_digit, is_ascii_alphanumeric}
use Rattle.bpf_text.specs.declared.keyword.Keyword.{Keyword}
use Rattle.bpf_text.specs.declared.fault.TextFault.{TextFault}
use Rattle.bpf_text.specs.declared.fault.TextFault.TheVariants.{Character, Number, Form}
use Rattle.bpf_text.specs.Keywords.{keyword_of}
use Rattle.bpf_text.specs.Numbers.{number_of}

pub data Token : Type 0 where
  Word : Keyword → Token
  Name : List ℕ → Token
  Num : ℕ → Token
  Mark : ℕ → Token

-- a token and the offset where it begins
pub record Lexeme : Type 0 where
  pub at : ℕ
  pub token : Token

-- the item in one place of a text: a token, or a fault in its place, or its end
pub data Item : Type 0 where
  Lexed : Lexeme → Item
  Bad : TextFault → Item
  End : ℕ → Item

-- ---- Runs of bytes

abbrev pub is_word_byte : ℕ → Bool
is_word_byte b = is_ascii_alphanumeric b || b == 95

-- one of : , # % [ ] ( ) + - * &
abbrev pub is_mark : ℕ → Bool
is_mark b = b == 58 || b == 44 || b == 35 || b == 37 || b == 91 || b == 93 || b == 40 || b == 41 || b == 43 || b == 45 || b == 42 || b == 38

-- space, tab, carriage return and line feed
abbrev pub is_blank : ℕ → Bool
is_blank b = b == 32 || b == 9 || b == 13 || b == 10

-- the index of the first */
abbrev pub close_at : List ℕ → Option ℕ
close_at bytes = position (λ (pair : ℕ × ℕ). pair.0 == 42 && pair.1 == 47) (zip bytes (drop 1 bytes))

-- a line comment: from ; on, or from a # on that is the first byte of a line
abbrev pub opens_line_comment : ℕ → ℕ → Bool
opens_line_comment before b = b == 59 || (b == 35 && before == 10)

-- the length of a block comment, by the bytes after its /; 0 where there is none, or it isn't closed
abbrev pub comment_len : List ℕ → ℕ
comment_len bytes = if slice_index bytes 0 == 42 then option_map_or (λ i. i + 4) (close_at (drop 1 bytes)) 0 else 0

-- The length of the blank or the comment at the front, 0 where there is none. A /* that isn't closed begins no comment.
-- before is the byte before the front, a line feed at the start of the text.
abbrev pub blank_len : ℕ → List ℕ → ℕ
blank_len before [] = 0
blank_len before (b ∷ bytes) =
    if is_blank b then 1
    else (if opens_line_comment before b then 1 + position_or_len (λ c. c == 10) bytes
    else (if b == 47 then comment_len bytes
    else 0))

-- ---- Tokens

-- a longest run of letters, digits and _ is a token, and so is each mark
abbrev pub token_len : List ℕ → ℕ
token_len bytes = if is_word_byte (slice_index bytes 0) then prefix_len is_word_byte bytes else 1

-- a name, if it is no keyword
abbrev pub name_token : List ℕ → Token
name_token name = option_map_or (λ k. Word k) (keyword_of name) (Name name)

-- the longest run of letters, digits and _ at the front
abbrev pub word_at : List ℕ → List ℕ
word_at bytes = take (prefix_len is_word_byte bytes) bytes

-- such a run is a number where it begins with a digit
unfoldable pub word_item : ℕ → List ℕ → Item
word_item at word =
    if is_ascii_digit (slice_index word 0) then option_map_or (λ n. Lexed (record { at = at; token = Num n })) (number_of word) (Bad (Number at))
    else Lexed (record { at = at; token = name_token word })

-- the item at an offset, by the bytes from there on
abbrev pub item_at : ℕ → List ℕ → Item
item_at at [] = End at
item_at at (b ∷ bytes) =
    if is_word_byte b then word_item at (word_at (b ∷ bytes))
    else (if is_mark b then Lexed (record { at = at; token = Mark b })
    else Bad (Character at))

-- The items of the bytes from an offset on, the last of which is the end. The byte before them is before, and the first
-- skip of them belong to what was read there.
unfoldable pub items_from : ℕ → ℕ → ℕ → List ℕ → List Item
items_from before skip at [] = End at ∷ []
items_from before (suc skip) at (b ∷ bytes) = items_from b skip (at + 1) bytes
items_from before zero at (b ∷ bytes) =
    if nat_lt 0 (blank_len before (b ∷ bytes)) then items_from b (blank_len before (b ∷ bytes) - 1) (at + 1) bytes
    else (item_at at (b ∷ bytes) ∷ items_from b (token_len (b ∷ bytes) - 1) (at + 1) bytes)

-- the byte before an offset, a line feed at the start of the text
abbrev pub byte_before : List ℕ → ℕ → ℕ
byte_before text at = slice_index (10 ∷ text) at

-- the items of a text from an offset on
unfoldable pub items_at : List ℕ → ℕ → List Item
items_at text at = items_from (byte_before text at) 0 at (drop at text)

-- ---- Reading the items

-- the next token and the items after it; the text's end is no token
abbrev pub next_token : List Item → Result (Lexeme × List Item) TextFault
next_token [] = Err (Form 0)
next_token (Lexed lexeme ∷ items) = Ok (lexeme, items)
next_token (Bad fault ∷ items) = Err fault
next_token (End at ∷ items) = Err (Form at)

abbrev pub at_end : List Item → Bool
at_end [] = true
at_end (Lexed lexeme ∷ items) = false
at_end (Bad fault ∷ items) = false
at_end (End at ∷ items) = true

abbrev pub is_mark_token : ℕ → Token → Bool
is_mark_token mark (Word k) = false
is_mark_token mark (Name name) = false
is_mark_token mark (Num n) = false
is_mark_token mark (Mark b) = b == mark

abbrev pub begins_with_mark : ℕ → List Item → Bool
begins_with_mark mark [] = false
begins_with_mark mark (Lexed lexeme ∷ items) = is_mark_token mark lexeme.token
begins_with_mark mark (Bad fault ∷ items) = false
begins_with_mark mark (End at ∷ items) = false

-- true if the next token is this mark, and the items after it if it is
abbrev pub after_mark : ℕ → List Item → Bool × List Item
after_mark mark items = if begins_with_mark mark items then (true, drop 1 items) else (false, items)

-- The result of a function, seen by view, with the items that it left, is what reading the items gives.
abbrev pub Parses : {X Y : Type 0} → (X → Y) → Result X TextFault → List Item → Result (Y × List Item) TextFault → Type 0
Parses view (Ok x) items read = read ≡ Ok (view x, items)
Parses view (Err fault) items read = read ≡ Err fault
