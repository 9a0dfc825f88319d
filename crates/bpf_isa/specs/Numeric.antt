-- The numeric form of a program (bpf_asm, `tcpdump -ddd`), as this project's profile reads it.
use Rattle.std.specs.Prelude.{ℕ, ◌+◌, ◌-◌, ◌*◌, ◌^◌, ◌<◌, Bool, ◌||◌, not, List, [], ◌∷◌, ◌++◌, length, fold, filter, position, decimal, codes, Option, Some, None, Result, Ok, Err, nat_lt, ◌==◌, if◌then◌else◌, ◌≡◌}
use Rattle.std.specs.List.{slice_split, filter_map, flat_map}
use Rattle.std.specs.Char.{is_ascii_digit}
use Rattle.bpf_isa.specs.declared.packed.Packed.{Packed}
use Rattle.bpf_isa.specs.declared.state.TheConstants.{MAX_INSNS}
use Rattle.bpf_isa.specs.declared.numeric.fault.NumericFault.{NumericFault}
use Rattle.bpf_isa.specs.declared.numeric.fault.NumericFault.TheVariants.{Character, Number, Form, Count, TooMany, Memory}

-- ---- Writing: the count and a comma, then each instruction's four numbers and a comma.

abbrev pub packed_text : Packed → List ℕ
packed_text w = decimal w.code ++ codes " " ++ decimal w.jt ++ codes " " ++ decimal w.jf ++ codes " " ++ decimal w.k ++ codes ","

abbrev pub numeric_text : List Packed → List ℕ
numeric_text ws = decimal (length ws) ++ codes "," ++ flat_map packed_text ws

-- an instruction whose numbers fit their fields
pub record IsPacked (w : Packed) : Type 0 where
  pub code : w.code < 2 ^ 16
  pub jt : w.jt < 2 ^ 8
  pub jf : w.jf < 2 ^ 8
  pub k : w.k < 2 ^ 32

-- ---- Bytes: digits; space, tab and carriage return; comma and newline.

abbrev pub is_blank : ℕ → Bool
is_blank b = b == 32 || b == 9 || b == 13

abbrev pub is_separator : ℕ → Bool
is_separator b = b == 44 || b == 10

abbrev pub is_space : ℕ → Bool
is_space b = is_blank b || is_separator b

abbrev pub is_allowed : ℕ → Bool
is_allowed b = is_ascii_digit b || is_blank b || is_separator b

-- ---- Parts: the bytes of a part of the text, and the offset where it begins.

abbrev pub Part : Type 0
Part = ℕ × List ℕ

-- each piece with its offset, if one byte stands between each two
abbrev pub with_offsets : ℕ → List (List ℕ) → List Part
with_offsets at [] = []
with_offsets at (piece ∷ pieces) = (at, piece) ∷ with_offsets (at + length piece + 1) pieces

-- the parts between the bytes that end one
abbrev pub parts : (ℕ → Bool) → ℕ → List ℕ → List Part
parts ends at bytes = with_offsets at (slice_split ends bytes)

-- the numbers of an item stand between its blanks
unfoldable pub numbers_in : ℕ → List ℕ → List Part
numbers_in at item = filter (λ p. nat_lt 0 (length p.1)) (parts is_blank at item)

-- an item is its first number and the others; one of blanks alone is none
abbrev pub Item : Type 0
Item = Part × List Part

abbrev pub item_of : List Part → Option Item
item_of [] = None
item_of (first ∷ others) = Some (first, others)

-- the items stand between the commas and newlines
unfoldable pub items_in : ℕ → List ℕ → List Item
items_in at text = filter_map (λ p. item_of (numbers_in p.0 p.1)) (parts is_separator at text)

-- where the item at an index begins
abbrev pub offset_in : ℕ → List Item → Option ℕ
offset_in i [] = None
offset_in i (item ∷ items) = if i == 0 then Some item.0.0 else offset_in (i - 1) items

-- ---- Checking, from left to right.

infixl 10 ◌>>=◌
abbrev pub ◌>>=◌ : {A B : Type 0} → Result A NumericFault → (A → Result B NumericFault) → Result B NumericFault
(Ok x) >>= f = f x
(Err e) >>= f = Err e

-- the number that decimal digits write
unfoldable pub value_of : List ℕ → ℕ
value_of digits = fold (λ n digit. n * 10 + (digit - 48)) 0 digits

unfoldable pub number_of : ℕ → Part → Result ℕ NumericFault
number_of most number = if nat_lt most (value_of number.1) then Err (Number number.0) else Ok (value_of number.1)

-- the first item: the count alone
unfoldable pub count_of : Part → List Part → Result ℕ NumericFault
count_of first [] = do
  n ← number_of 0xffff_ffff first
  if nat_lt MAX_INSNS n then Err (TooMany first.0) else Ok n
count_of first (_ ∷ _) = Err (Form first.0)

-- a further item: code, jt, jf and k
unfoldable pub packed_of : Part → List Part → Result Packed NumericFault
packed_of code (jt ∷ jf ∷ k ∷ []) = do
  code ← number_of 0xffff code
  jt ← number_of 0xff jt
  jf ← number_of 0xff jf
  k ← number_of 0xffff_ffff k
  Ok (record { code = code; jt = jt; jf = jf; k = k })
packed_of first _ = Err (Form first.0)

unfoldable pub insns_of : List Item → Result (List Packed) NumericFault
insns_of [] = Ok []
insns_of (item ∷ items) = do
  insn ← packed_of item.0 item.1
  insns ← insns_of items
  Ok (insn ∷ insns)

-- the items after the count in a text of this length: there are as many as the count says
unfoldable pub counted_insns : ℕ → ℕ → List Item → Result (List Packed) NumericFault
counted_insns end count items = do
  insns ← insns_of items
  if length insns == count then Ok insns else Err (Count end)

-- the items of a text of this length
unfoldable pub program_of : ℕ → List Item → Result (List Packed) NumericFault
program_of end [] = Err (Form end)
program_of end (first ∷ others) = do
  count ← count_of first.0 first.1
  counted_insns end count others

-- a byte that the form doesn't have comes before all other faults
abbrev pub unless_at : Option ℕ → Result (List Packed) NumericFault → Result (List Packed) NumericFault
unless_at None read = read
unless_at (Some at) read = Err (Character at)

unfoldable pub numeric_of : List ℕ → Result (List Packed) NumericFault
numeric_of text = unless_at (position (λ b. not (is_allowed b)) text) (program_of (length text) (items_in 0 text))

-- the form has all the bytes, and the first item is a count of at least 1
pub record HasCount (text : List ℕ) : Type 0 where
  pub known : position (λ b. not (is_allowed b)) text ≡ None
  pub first : Item
  pub others : List Item
  pub items : items_in 0 text ≡ first ∷ others
  pub count : ℕ
  pub counted : count_of first.0 first.1 ≡ Ok count
  pub positive : 0 < count

-- ---- The result of a reader: this, or out of memory.

abbrev pub IsFault : {Y : Type 0} → NumericFault → Result Y NumericFault → Type 0
IsFault Memory read = Unit {0}
IsFault (Character at) read = read ≡ Err (Character at)
IsFault (Number at) read = read ≡ Err (Number at)
IsFault (Form at) read = read ≡ Err (Form at)
IsFault (Count at) read = read ≡ Err (Count at)
IsFault (TooMany at) read = read ≡ Err (TooMany at)

abbrev pub Gives : {X Y : Type 0} → (X → Y) → Result X NumericFault → Result Y NumericFault → Type 0
Gives view (Ok x) read = read ≡ Ok (view x)
Gives view (Err e) read = IsFault e read
