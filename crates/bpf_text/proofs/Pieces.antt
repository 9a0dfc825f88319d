-- A text written as blanks and tokens, one after the other, has these items. A crate that writes source derives its texts
-- with this page.
use Rattle.std.proofs.Common.{◌≡◌, ℕ, zero, suc, ◌+◌, ◌-◌, Bool, true, false, cond, ◌==◌, ◌||◌, ◌&&◌, List, [], ◌∷◌, ◌++◌, length, take, refl, sym, ap, ◌∙◌, arith, add-zero, nat_lt}
use Rattle.std.specs.List.{prefix_len, list_all}
use Rattle.std.proofs.lemmas.Bool.Decides.{nat_tests}
use Rattle.std.proofs.Math.Seq.{take-append_seam}
use Rattle.bpf_text.specs.declared.fault.TextFault.TheVariants.{Character}
use Rattle.bpf_text.proofs.Bits.{and_left, and_right}
use Rattle.bpf_text.specs.Tokens.{Item, Lexed, Bad, End, Mark, is_word_byte, is_mark, is_blank, opens_line_comment, blank_len, token_len, word_at, word_item, item_at, items_from, items_at}

pub data Piece : Type 0 where
  Blank : ℕ → Piece  -- a blank byte
  Sign : ℕ → Piece  -- a mark
  Run : ℕ → List ℕ → Piece  -- a name, a keyword or a number: its first byte and the others

abbrev pub bytes_of : List Piece → List ℕ
bytes_of [] = []
bytes_of (Blank b ∷ pieces) = b ∷ bytes_of pieces
bytes_of (Sign b ∷ pieces) = b ∷ bytes_of pieces
bytes_of (Run b word ∷ pieces) = b ∷ (word ++ bytes_of pieces)

-- the items from an offset on
abbrev pub items_of : ℕ → List Piece → List Item
items_of at [] = End at ∷ []
items_of at (Blank b ∷ pieces) = items_of (at + 1) pieces
items_of at (Sign b ∷ pieces) = Lexed (record { at = at; token = Mark b }) ∷ items_of (at + 1) pieces
items_of at (Run b word ∷ pieces) = word_item at (b ∷ word) ∷ items_of (at + 1 + length word) pieces

-- no run follows
abbrev pub NoRun : List Piece → Type 0
NoRun [] = Unit {0}
NoRun (Blank b ∷ pieces) = Unit {0}
NoRun (Sign b ∷ pieces) = Unit {0}
NoRun (Run b word ∷ pieces) = ⊥

-- Each piece is one of its kind, no run follows a run, and no # is the first byte of a line. The byte before them is
-- before.
abbrev pub AreLaid : ℕ → List Piece → Type 0
AreLaid before [] = Unit {0}
AreLaid before (Blank b ∷ pieces) = (is_blank b ≡ true) × AreLaid b pieces
AreLaid before (Sign b ∷ pieces) = (is_mark b ≡ true) × (opens_line_comment before b ≡ false) × AreLaid b pieces
AreLaid before (Run b word ∷ pieces) = (list_all is_word_byte (b ∷ word) ≡ true) × NoRun pieces × AreLaid 95 pieces

-- ---- The byte before matters where it is a line feed

same_blank : (e f : ℕ) (bytes : List ℕ) → (e == 10) ≡ (f == 10) → blank_len e bytes ≡ blank_len f bytes
same_blank e f [] h = refl
same_blank e f (b ∷ bytes) h = ap (λ (t : Bool). cond (is_blank b) 1 (cond (b == 59 || (b == 35 && t)) (blank_line b bytes) (blank_block b bytes))) h
  where
    blank_line : ℕ → List ℕ → ℕ
    blank_line b bytes = 1 + Rattle.std.specs.List.position_or_len (λ c. c == 10) bytes

    blank_block : ℕ → List ℕ → ℕ
    blank_block b bytes = cond (b == 47) (Rattle.bpf_text.specs.Tokens.comment_len bytes) 0

same_items : (e f at : ℕ) (bytes : List ℕ) → (e == 10) ≡ (f == 10) → items_from e 0 at bytes ≡ items_from f 0 at bytes
unfolding items_from
same_items e f at [] h = refl
same_items e f at (b ∷ bytes) h = ap (λ (n : ℕ). cond (nat_lt 0 n) (items_from b (n - 1) (at + 1) bytes) (item_at at (b ∷ bytes) ∷ items_from b (token_len (b ∷ bytes) - 1) (at + 1) bytes)) (same_blank e f (b ∷ bytes) h)

-- ---- One piece

blank_here : (before at b : ℕ) (bytes : List ℕ) → is_blank b ≡ true → items_from before 0 at (b ∷ bytes) ≡ items_from b 0 (at + 1) bytes
unfolding items_from
blank_here before at b bytes h =
    let len : blank_len before (b ∷ bytes) ≡ 1 = ap (λ (t : Bool). cond t 1 (cond (opens_line_comment before b) (1 + Rattle.std.specs.List.position_or_len (λ c. c == 10) bytes) (cond (b == 47) (Rattle.bpf_text.specs.Tokens.comment_len bytes) 0))) h in
    ap (λ (n : ℕ). cond (nat_lt 0 n) (items_from b (n - 1) (at + 1) bytes) (item_at at (b ∷ bytes) ∷ items_from b (token_len (b ∷ bytes) - 1) (at + 1) bytes)) len

no_blank : (before b : ℕ) (bytes : List ℕ) → is_blank b ≡ false → opens_line_comment before b ≡ false → (b == 47) ≡ false → blank_len before (b ∷ bytes) ≡ 0
no_blank before b bytes e f g =
    ap (λ (t : Bool). cond t 1 (cond (opens_line_comment before b) (1 + Rattle.std.specs.List.position_or_len (λ c. c == 10) bytes) (cond (b == 47) (Rattle.bpf_text.specs.Tokens.comment_len bytes) 0))) e
    ∙ ap (λ (t : Bool). cond t (1 + Rattle.std.specs.List.position_or_len (λ c. c == 10) bytes) (cond (b == 47) (Rattle.bpf_text.specs.Tokens.comment_len bytes) 0)) f
    ∙ ap (λ (t : Bool). cond t (Rattle.bpf_text.specs.Tokens.comment_len bytes) 0) g

token_here : (before at b : ℕ) (bytes : List ℕ) → blank_len before (b ∷ bytes) ≡ 0 → items_from before 0 at (b ∷ bytes) ≡ item_at at (b ∷ bytes) ∷ items_from b (token_len (b ∷ bytes) - 1) (at + 1) bytes
unfolding items_from
token_here before at b bytes h = ap (λ (n : ℕ). cond (nat_lt 0 n) (items_from b (n - 1) (at + 1) bytes) (item_at at (b ∷ bytes) ∷ items_from b (token_len (b ∷ bytes) - 1) (at + 1) bytes)) h

mark_kinds : (b : ℕ) → is_mark b ≡ true → (is_blank b ≡ false) × ((b == 47) ≡ false) × (is_word_byte b ≡ false)
mark_kinds b h = (grind (arith, nat_tests), grind (arith, nat_tests), grind (arith, nat_tests))

word_kinds : (before b : ℕ) → is_word_byte b ≡ true → (is_blank b ≡ false) × ((b == 47) ≡ false) × (opens_line_comment before b ≡ false) × ((b == 10) ≡ false)
word_kinds before b h = (grind (arith, nat_tests), grind (arith, nat_tests), grind (arith, nat_tests), grind (arith, nat_tests))

mark_here : (before at b : ℕ) (bytes : List ℕ) → is_mark b ≡ true → opens_line_comment before b ≡ false → items_from before 0 at (b ∷ bytes) ≡ Lexed (record { at = at; token = Mark b }) ∷ items_from b 0 (at + 1) bytes
mark_here before at b bytes h o =
    let k = mark_kinds b h in
    token_here before at b bytes (no_blank before b bytes k.0 o k.1)
    ∙ (rw k.2 (rw h refl))

abbrev NoWord : List ℕ → Type 0
NoWord [] = Unit {0}
NoWord (b ∷ bytes) = is_word_byte b ≡ false

word_len : (word rest : List ℕ) → list_all is_word_byte word ≡ true → NoWord rest → prefix_len is_word_byte (word ++ rest) ≡ length word
word_len [] [] h n = refl
word_len [] (b ∷ rest) h n = ap (λ (t : Bool). cond t (1 + prefix_len is_word_byte rest) 0) n
word_len (b ∷ word) rest h n =
    let later : prefix_len is_word_byte (word ++ rest) ≡ length word = word_len word rest (and_right (is_word_byte b) (list_all is_word_byte word) h) n in
    let first : prefix_len is_word_byte (b ∷ (word ++ rest)) ≡ 1 + prefix_len is_word_byte (word ++ rest) = ap (λ (t : Bool). cond t (1 + prefix_len is_word_byte (word ++ rest)) 0) (and_left (is_word_byte b) (list_all is_word_byte word) h) in
    omega arith

skip_word : (k : ℕ) (word rest : List ℕ) (e at : ℕ) → k ≡ length word → list_all is_word_byte word ≡ true → (e == 10) ≡ false → items_from e k at (word ++ rest) ≡ items_from 95 0 (at + length word) rest
unfolding items_from
skip_word zero [] rest e at len h n = same_items e 95 at rest n ∙ ap (λ (i : ℕ). items_from 95 0 i rest) (sym (add-zero at))
skip_word (suc k) [] rest e at len h n = absurd (omega arith)
skip_word zero (b ∷ word) rest e at len h n = absurd (omega arith)
skip_word (suc k) (b ∷ word) rest e at len h n =
    skip_word k word rest b (at + 1) (omega arith) (and_right (is_word_byte b) (list_all is_word_byte word) h) (word_kinds 0 b (and_left (is_word_byte b) (list_all is_word_byte word) h)).3
    ∙ ap (λ (i : ℕ). items_from 95 0 i rest) (let same : at + 1 + length word ≡ at + length (b ∷ word) = omega arith in same)

run_here : (before at b : ℕ) (word rest : List ℕ) → list_all is_word_byte (b ∷ word) ≡ true → NoWord rest → items_from before 0 at (b ∷ (word ++ rest)) ≡ word_item at (b ∷ word) ∷ items_from 95 0 (at + 1 + length word) rest
run_here before at b word rest h n =
    let first : is_word_byte b ≡ true = and_left (is_word_byte b) (list_all is_word_byte word) h in
    let k = word_kinds before b first in
    let len : prefix_len is_word_byte (b ∷ (word ++ rest)) ≡ length (b ∷ word) = word_len (b ∷ word) rest h n in
    let token : token_len (b ∷ (word ++ rest)) ≡ prefix_len is_word_byte (b ∷ (word ++ rest)) = ap (λ (t : Bool). cond t (prefix_len is_word_byte (b ∷ (word ++ rest))) 1) first in
    let left : token_len (b ∷ (word ++ rest)) - 1 ≡ length word = omega arith in
    let here : word_at (b ∷ (word ++ rest)) ≡ b ∷ word = ap (λ (i : ℕ). take i (b ∷ (word ++ rest))) len ∙ take-append_seam (b ∷ word) rest in
    let item : item_at at (b ∷ (word ++ rest)) ≡ word_item at (b ∷ word) = ap (λ (t : Bool). cond t (word_item at (word_at (b ∷ (word ++ rest)))) (cond (is_mark b) (Lexed (record { at = at; token = Mark b })) (Bad (Character at)))) first ∙ ap (word_item at) here in
    token_here before at b (word ++ rest) (no_blank before b (word ++ rest) k.0 k.2 k.1)
    ∙ ap (λ (i : Item). i ∷ items_from b (token_len (b ∷ (word ++ rest)) - 1) (at + 1) (word ++ rest)) item
    ∙ ap (λ (is : List Item). word_item at (b ∷ word) ∷ is) (ap (λ (i : ℕ). items_from b i (at + 1) (word ++ rest)) left ∙ skip_word (length word) word rest b (at + 1) refl (and_right (is_word_byte b) (list_all is_word_byte word) h) k.3)

-- ---- The pieces of a text

no_word : (before : ℕ) (pieces : List Piece) → NoRun pieces → AreLaid before pieces → NoWord (bytes_of pieces)
no_word before [] n h = tt
no_word before (Blank b ∷ pieces) n h = blank_no_word b h.0
  where
    blank_no_word : (b : ℕ) → is_blank b ≡ true → is_word_byte b ≡ false
    blank_no_word b e = grind (arith, nat_tests)
no_word before (Sign b ∷ pieces) n h = (mark_kinds b h.0).2
no_word before (Run b word ∷ pieces) n h = absurd n

pub laid_items : (before at : ℕ) (pieces : List Piece) → AreLaid before pieces → items_from before 0 at (bytes_of pieces) ≡ items_of at pieces
unfolding items_from
laid_items before at [] h = refl
laid_items before at (Blank b ∷ pieces) h = blank_here before at b (bytes_of pieces) h.0 ∙ laid_items b (at + 1) pieces h.1
laid_items before at (Sign b ∷ pieces) h = mark_here before at b (bytes_of pieces) h.0 h.1 ∙ ap (λ (is : List Item). Lexed (record { at = at; token = Mark b }) ∷ is) (laid_items b (at + 1) pieces h.2)
laid_items before at (Run b word ∷ pieces) h = run_here before at b word (bytes_of pieces) h.0 (no_word 95 pieces h.1 h.2) ∙ ap (λ (is : List Item). word_item at (b ∷ word) ∷ is) (laid_items 95 (at + 1 + length word) pieces h.2)

-- the items of a text of such pieces
pub text_items : (pieces : List Piece) → AreLaid 10 pieces → items_at (bytes_of pieces) 0 ≡ items_of 0 pieces
unfolding items_at
text_items pieces h = laid_items 10 0 pieces h
