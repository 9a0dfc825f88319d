-- Blanks, words and the items of a text from one offset to another.
use Rattle.std.proofs.Common.{◌≡◌, ◌≢◌, eqb, eq-eqb, slice_index, ℕ, zero, suc, ◌+◌, ◌-◌, ◌<◌, ◌≤◌, Bool, true, false, cond, not, ◌==◌, List, [], ◌∷◌, length, get_or, drop, take, Option, Some, None, refl, sym, ap, subst, ◌∙◌, inl, inr, arith, lit≤, Ok, Err, add-one, add-zero, length-drop, length-take, get_or-drop, nat_lt}
use Rattle.std.specs.Prelude.{IfSome}
use Rattle.std.specs.List.{prefix_len, position_or_len}
use Rattle.std.specs.Str.{IsUtf8, IsCharBoundary}
use Rattle.std.specs.Char.{is_ascii_digit}
use Rattle.std.specs.Option.{option_map_or}
use Rattle.std.proofs.lemmas.Bool.{ltb-true, lt-ltb, cases_lt, ne_eqb}
use Rattle.std.proofs.lemmas.Bool.Decides.{nat_tests}
use Rattle.std.proofs.lemmas.List.Sums.{prefix_len-le-length, prefix_len_passes}
use Rattle.std.proofs.lemmas.List.{drop_all}
use Rattle.std.proofs.lemmas.Slice.Zip.{length-zip}
use Rattle.std.proofs.lemmas.Str.{IsCharBoundary-after_ascii}
use Rattle.std.proofs.Math.Seq.{drop-cons}
use Rattle.bpf_text.specs.declared.fault.TextFault.TheVariants.{Character, Number, Form}
use Rattle.bpf_text.specs.Tokens.{Item, Lexed, Bad, End, Mark, is_word_byte, is_mark, close_at, blank_len, token_len, byte_before, word_at, word_item, item_at, items_from, items_at, next_token, at_end, begins_with_mark, after_mark, Word, Name, Num}
use Rattle.bpf_text.specs.Keywords.{keyword_of}
use Rattle.bpf_text.specs.Numbers.{number_of}
use Rattle.bpf_text.specs.declared.keyword.Keyword.{Keyword}

-- ---- Words

word_ascii : (b : ℕ) → is_word_byte b ≡ true → b < 128
word_ascii b e = grind (arith, nat_tests)

pub word_within : (text : List ℕ) (at n : ℕ) → n ≡ prefix_len is_word_byte (drop at text) → 0 < n → at + n ≤ length text
word_within text at n e some = omega (arith, prefix_len-le-length is_word_byte (drop at text), length-drop at text)

-- a word ends between two characters
pub word_boundary : (text : List ℕ) (at n : ℕ) → IsUtf8 text → n ≡ prefix_len is_word_byte (drop at text) → 0 < n → IsCharBoundary text (at + n)
word_boundary text at n utf8 e some =
    let within : at + n ≤ length text = word_within text at n e some in
    let last : is_word_byte (get_or (drop at text) (n - 1) 0) ≡ true = prefix_len_passes is_word_byte (drop at text) (n - 1) 0 (omega arith) in
    let ascii : get_or (drop at text) (n - 1) 0 < 128 = word_ascii (get_or (drop at text) (n - 1) 0) last in
    let ascii_there : get_or text (at + (n - 1)) 0 < 128 = rw get_or-drop at ascii in
    let same : at + (n - 1) + 1 ≡ at + n = omega arith in
    subst (IsCharBoundary text) same (IsCharBoundary-after_ascii text (at + (n - 1)) utf8 (omega arith) ascii_there)

-- ---- Blanks

some_within : (P : ℕ → Type 0) (b : Bool) (n : ℕ) → (b ≡ true → P n) → IfSome (cond b (Some n) None) P
some_within P true n h = h refl
some_within P false n h = tt

pub close_within : (bytes : List ℕ) → IfSome (close_at bytes) (λ i. i + 2 ≤ length bytes)
close_within bytes =
    some_within (λ i. i + 2 ≤ length bytes) _ _
    (λ e. omega (arith, ltb-true _ _ e, length-zip bytes (drop 1 bytes), length-drop 1 bytes))

-- ---- Items

pub items_end : (text : List ℕ) (at : ℕ) → at ≡ length text → items_at text at ≡ End at ∷ []
unfolding items_at items_from
items_end text at e =
    let none : drop at text ≡ [] = drop_all at text (omega arith) in
    rw none refl

items_skip : (text : List ℕ) (k at b : ℕ) → at + k ≤ length text → b ≡ byte_before text at → items_from b k at (drop at text) ≡ items_at text (at + k)
unfolding items_at items_from
items_skip text zero at b within e = rw (add-zero, e) refl
items_skip text (suc k) at b within e =
    rw (drop-cons text at 0 (omega arith))
    (let same : at + suc k ≡ at + 1 + k = omega arith in rw same
    (let rest : drop (suc at) text ≡ drop (at + 1) text = ap (λ (n : ℕ). drop n text) (sym (add-one at)) in rw rest
    (items_skip text k (at + 1) (get_or text at 0) (omega arith) (let before : byte_before text (at + 1) ≡ get_or text at 0 = rw add-one refl in sym before))))

blank_first : (b at x : ℕ) (r : List ℕ) → 0 < blank_len b (x ∷ r) → items_from b 0 at (x ∷ r) ≡ items_from x (blank_len b (x ∷ r) - 1) (at + 1) r
unfolding items_from
blank_first b at x r some =
    ap (λ (t : Bool). cond t (items_from x (blank_len b (x ∷ r) - 1) (at + 1) r) (item_at at (x ∷ r) ∷ items_from x (token_len (x ∷ r) - 1) (at + 1) r)) (lt-ltb 0 (blank_len b (x ∷ r)) some)

token_first : (b at x : ℕ) (r : List ℕ) → blank_len b (x ∷ r) ≡ 0 → items_from b 0 at (x ∷ r) ≡ item_at at (x ∷ r) ∷ items_from x (token_len (x ∷ r) - 1) (at + 1) r
unfolding items_from
token_first b at x r none =
    ap (λ (n : ℕ). cond (nat_lt 0 n) (items_from x (blank_len b (x ∷ r) - 1) (at + 1) r) (item_at at (x ∷ r) ∷ items_from x (token_len (x ∷ r) - 1) (at + 1) r)) none

-- the bytes from an offset on: the one there, and the bytes from the next one on
pub bytes_from : (text : List ℕ) (at : ℕ) → at < length text → drop at text ≡ get_or text at 0 ∷ drop (at + 1) text
bytes_from text at within = drop-cons text at 0 within ∙ ap (λ (n : ℕ). get_or text at 0 ∷ drop n text) (sym (add-one at))

-- the rest of what begins at an offset
skip_rest : (text : List ℕ) (at n : ℕ) → 1 ≤ n → at + n ≤ length text → items_from (get_or text at 0) (n - 1) (at + 1) (drop (at + 1) text) ≡ items_at text (at + n)
skip_rest text at n some fits =
    let before : byte_before text (at + 1) ≡ get_or text at 0 = rw add-one refl in
    let same : at + 1 + (n - 1) ≡ at + n = omega arith in
    items_skip text (n - 1) (at + 1) (get_or text at 0) (omega arith) (sym before) ∙ ap (λ (k : ℕ). items_at text k) same

pub items_after_blank : (text : List ℕ) (at n : ℕ) → at < length text → n ≡ blank_len (byte_before text at) (drop at text) → 0 < n → at + n ≤ length text → items_at text at ≡ items_at text (at + n)
unfolding items_at
items_after_blank text at n within e some fits =
    let bytes = bytes_from text at within in
    let len : n ≡ blank_len (byte_before text at) (get_or text at 0 ∷ drop (at + 1) text) = e ∙ ap (blank_len (byte_before text at)) bytes in
    let some' : 0 < blank_len (byte_before text at) (get_or text at 0 ∷ drop (at + 1) text) = subst (λ (k : ℕ). 0 < k) len some in
    ap (items_from (byte_before text at) 0 at) bytes
    ∙ blank_first (byte_before text at) at (get_or text at 0) (drop (at + 1) text) some'
    ∙ ap (λ (k : ℕ). items_from (get_or text at 0) (k - 1) (at + 1) (drop (at + 1) text)) (sym len)
    ∙ skip_rest text at n some fits

pub items_token : (text : List ℕ) (at n : ℕ) → at < length text → blank_len (byte_before text at) (drop at text) ≡ 0 → n ≡ token_len (drop at text) → 1 ≤ n → at + n ≤ length text → items_at text at ≡ item_at at (drop at text) ∷ items_at text (at + n)
unfolding items_at
items_token text at n within none e some fits =
    let bytes = bytes_from text at within in
    let none' : blank_len (byte_before text at) (get_or text at 0 ∷ drop (at + 1) text) ≡ 0 = sym (ap (blank_len (byte_before text at)) bytes) ∙ none in
    let len : n ≡ token_len (get_or text at 0 ∷ drop (at + 1) text) = e ∙ ap token_len bytes in
    ap (items_from (byte_before text at) 0 at) bytes
    ∙ token_first (byte_before text at) at (get_or text at 0) (drop (at + 1) text) none'
    ∙ ap (λ (bs : List ℕ). item_at at bs ∷ items_from (get_or text at 0) (token_len (get_or text at 0 ∷ drop (at + 1) text) - 1) (at + 1) (drop (at + 1) text)) (sym bytes)
    ∙ ap (λ (k : ℕ). item_at at (drop at text) ∷ items_from (get_or text at 0) (k - 1) (at + 1) (drop (at + 1) text)) (sym len)
    ∙ ap (λ (is : List Item). item_at at (drop at text) ∷ is) (skip_rest text at n some fits)

-- ---- The next token

pub next_at_end : (text : List ℕ) (at : ℕ) → at ≡ length text → next_token (items_at text at) ≡ Err (Form at)
next_at_end text at e = ap next_token (items_end text at e)

-- the item at an offset, by the byte there
item_by : (text : List ℕ) (at : ℕ) → at < length text → item_at at (drop at text) ≡ cond (is_word_byte (get_or text at 0)) (word_item at (word_at (drop at text))) (cond (is_mark (get_or text at 0)) (Lexed (record { at = at; token = Mark (get_or text at 0) })) (Bad (Character at)))
item_by text at within =
    let bytes = bytes_from text at within in
    ap (item_at at) bytes ∙ ap (λ (bs : List ℕ). cond (is_word_byte (get_or text at 0)) (word_item at (word_at bs)) (cond (is_mark (get_or text at 0)) (Lexed (record { at = at; token = Mark (get_or text at 0) })) (Bad (Character at)))) (sym bytes)

first_byte : (text : List ℕ) (at : ℕ) → at < length text → get_or (drop at text) 0 0 ≡ get_or text at 0
first_byte text at within = ap (λ (bs : List ℕ). get_or bs 0 0) (bytes_from text at within)

pub word_some : (text : List ℕ) (at : ℕ) → at < length text → is_word_byte (get_or text at 0) ≡ true → 0 < prefix_len is_word_byte (drop at text)
word_some text at within is =
    let bytes = bytes_from text at within in
    rw bytes (let e : prefix_len is_word_byte (get_or text at 0 ∷ drop (at + 1) text) ≡ 1 + prefix_len is_word_byte (drop (at + 1) text) = ap (λ (b : Bool). cond b (1 + prefix_len is_word_byte (drop (at + 1) text)) 0) is in omega arith)

pub items_word : (text : List ℕ) (at : ℕ) → at < length text → blank_len (byte_before text at) (drop at text) ≡ 0 → is_word_byte (get_or text at 0) ≡ true → items_at text at ≡ word_item at (word_at (drop at text)) ∷ items_at text (at + prefix_len is_word_byte (drop at text))
items_word text at within none is =
    let len : prefix_len is_word_byte (drop at text) ≡ token_len (drop at text) = sym (ap (λ (b : Bool). cond b (prefix_len is_word_byte (drop at text)) 1) (ap is_word_byte (first_byte text at within) ∙ is)) in
    let some = word_some text at within is in
    items_token text at (prefix_len is_word_byte (drop at text)) within none len some (word_within text at (prefix_len is_word_byte (drop at text)) refl some)
    ∙ ap (λ (i : Item). i ∷ items_at text (at + prefix_len is_word_byte (drop at text))) (item_by text at within ∙ ap (λ (b : Bool). cond b (word_item at (word_at (drop at text))) (cond (is_mark (get_or text at 0)) (Lexed (record { at = at; token = Mark (get_or text at 0) })) (Bad (Character at)))) is)

pub items_other : (text : List ℕ) (at : ℕ) → at < length text → blank_len (byte_before text at) (drop at text) ≡ 0 → is_word_byte (get_or text at 0) ≡ false → items_at text at ≡ cond (is_mark (get_or text at 0)) (Lexed (record { at = at; token = Mark (get_or text at 0) })) (Bad (Character at)) ∷ items_at text (at + 1)
items_other text at within none is =
    let len : 1 ≡ token_len (drop at text) = sym (ap (λ (b : Bool). cond b (prefix_len is_word_byte (drop at text)) 1) (ap is_word_byte (first_byte text at within) ∙ is)) in
    items_token text at 1 within none len (lit≤ tt) (omega arith)
    ∙ ap (λ (i : Item). i ∷ items_at text (at + 1)) (item_by text at within ∙ ap (λ (b : Bool). cond b (word_item at (word_at (drop at text))) (cond (is_mark (get_or text at 0)) (Lexed (record { at = at; token = Mark (get_or text at 0) })) (Bad (Character at)))) is)

-- ---- Bounds

pub line_within : (n : ℕ) (bytes : List ℕ) → n ≡ position_or_len (λ c. c == 10) bytes → n ≤ length bytes
line_within n bytes e = omega (arith, e, prefix_len-le-length (λ c. not (c == 10)) bytes)

pub close_some : (i : ℕ) (bytes : List ℕ) → Some i ≡ close_at bytes → i + 2 ≤ length bytes
close_some i bytes e = subst (λ (o : Option ℕ). IfSome o (λ i. i + 2 ≤ length bytes)) (sym e) (close_within bytes)

pub blank_inside : (text : List ℕ) (at n : ℕ) → at ≤ length text → n ≤ length (drop at text) → at + n ≤ length text
blank_inside text at n within e = omega (arith, length-drop at text)

pub blank_starts : (text : List ℕ) (at n : ℕ) → at ≤ length text → 0 < n → n ≤ length (drop at text) → at < length text
blank_starts text at n within some e = omega (arith, length-drop at text)

-- ---- The next token, by the byte at the offset

pub next_mark : (text : List ℕ) (at b : ℕ) → at < length text → blank_len (byte_before text at) (drop at text) ≡ 0 → b ≡ get_or text at 0 → is_word_byte b ≡ false → is_mark b ≡ true → next_token (items_at text at) ≡ Ok (record { at = at; token = Mark b }, items_at text (at + 1))
next_mark text at b within none e word mark =
    let item : cond (is_mark (get_or text at 0)) (Lexed (record { at = at; token = Mark (get_or text at 0) })) (Bad (Character at)) ≡ Lexed (record { at = at; token = Mark b }) =
    ap (λ (c : ℕ). cond (is_mark c) (Lexed (record { at = at; token = Mark c })) (Bad (Character at))) (sym e) ∙ ap (λ (t : Bool). cond t (Lexed (record { at = at; token = Mark b })) (Bad (Character at))) mark in
    ap next_token (items_other text at within none (ap is_word_byte (sym e) ∙ word) ∙ ap (λ (i : Item). i ∷ items_at text (at + 1)) item)

pub next_bad : (text : List ℕ) (at b : ℕ) → at < length text → blank_len (byte_before text at) (drop at text) ≡ 0 → b ≡ get_or text at 0 → is_word_byte b ≡ false → is_mark b ≡ false → next_token (items_at text at) ≡ Err (Character at)
next_bad text at b within none e word mark =
    let item : cond (is_mark (get_or text at 0)) (Lexed (record { at = at; token = Mark (get_or text at 0) })) (Bad (Character at)) ≡ Bad (Character at) =
    ap (λ (c : ℕ). cond (is_mark c) (Lexed (record { at = at; token = Mark c })) (Bad (Character at))) (sym e) ∙ ap (λ (t : Bool). cond t (Lexed (record { at = at; token = Mark b })) (Bad (Character at))) mark in
    ap next_token (items_other text at within none (ap is_word_byte (sym e) ∙ word) ∙ ap (λ (i : Item). i ∷ items_at text (at + 1)) item)

pub next_word : (text : List ℕ) (at b : ℕ) (word : List ℕ) (i : Item) → at < length text → blank_len (byte_before text at) (drop at text) ≡ 0 → b ≡ get_or text at 0 → is_word_byte b ≡ true → word ≡ word_at (drop at text) → i ≡ word_item at word → next_token (items_at text at) ≡ next_token (i ∷ items_at text (at + prefix_len is_word_byte (drop at text)))
next_word text at b word i within none e is taken item =
    ap next_token (items_word text at within none (ap is_word_byte (sym e) ∙ is))
    ∙ ap (λ (j : Item). next_token (j ∷ items_at text (at + prefix_len is_word_byte (drop at text)))) (ap (word_item at) (sym taken) ∙ sym item)

-- a word is neither the end nor a mark
word_is_token : (at : ℕ) (word : List ℕ) (mark : ℕ) (items : List Item) → (at_end (word_item at word ∷ items) ≡ false) × (begins_with_mark mark (word_item at word ∷ items) ≡ false)
unfolding word_item
word_is_token at word mark items = go (is_ascii_digit (slice_index word 0)) (number_of word) (keyword_of word)
  where
    go : (digit : Bool) (n : Option ℕ) (k : Option Keyword) → (at_end (cond digit (option_map_or (λ n. Lexed (record { at = at; token = Num n })) n (Bad (Number at))) (Lexed (record { at = at; token = option_map_or (λ k. Word k) k (Name word) })) ∷ items) ≡ false) × (begins_with_mark mark (cond digit (option_map_or (λ n. Lexed (record { at = at; token = Num n })) n (Bad (Number at))) (Lexed (record { at = at; token = option_map_or (λ k. Word k) k (Name word) })) ∷ items) ≡ false)
    go true None k = (refl, refl)
    go true (Some n) k = (refl, refl)
    go false n None = (refl, refl)
    go false n (Some k) = (refl, refl)

other_is_token : (at b mark : ℕ) (items : List Item) → (at_end (cond (is_mark b) (Lexed (record { at = at; token = Mark b })) (Bad (Character at)) ∷ items) ≡ false) × ((b == mark) ≡ false → begins_with_mark mark (cond (is_mark b) (Lexed (record { at = at; token = Mark b })) (Bad (Character at)) ∷ items) ≡ false)
other_is_token at b mark items =
    elim (is_mark b) as (λ (t : Bool). (at_end (cond t (Lexed (record { at = at; token = Mark b })) (Bad (Character at)) ∷ items) ≡ false) × ((b == mark) ≡ false → begins_with_mark mark (cond t (Lexed (record { at = at; token = Mark b })) (Bad (Character at)) ∷ items) ≡ false))
    [ true ↦ (refl, λ h. h) | false ↦ (refl, λ h. refl) ]

-- all that stands in a text before its end
inside : (text : List ℕ) (at mark : ℕ) → at < length text → blank_len (byte_before text at) (drop at text) ≡ 0 → (at_end (items_at text at) ≡ false) × ((get_or text at 0 == mark) ≡ false → begins_with_mark mark (items_at text at) ≡ false)
inside text at mark within none = go (is_word_byte (get_or text at 0)) refl
  where
    go : (t : Bool) → is_word_byte (get_or text at 0) ≡ t → (at_end (items_at text at) ≡ false) × ((get_or text at 0 == mark) ≡ false → begins_with_mark mark (items_at text at) ≡ false)
    go true is =
        let e = items_word text at within none is in
        let token = word_is_token at (word_at (drop at text)) mark (items_at text (at + prefix_len is_word_byte (drop at text))) in
        (ap at_end e ∙ token.0, λ other. ap (begins_with_mark mark) e ∙ token.1)
    go false is =
        let e = items_other text at within none is in
        let token = other_is_token at (get_or text at 0) mark (items_at text (at + 1)) in
        (ap at_end e ∙ token.0, λ other. ap (begins_with_mark mark) e ∙ token.1 other)

pub end_test : (text : List ℕ) (at : ℕ) → at ≤ length text → blank_len (byte_before text at) (drop at text) ≡ 0 → eqb at (length text) ≡ at_end (items_at text at)
end_test text at within none =
    elim (cases_lt at (length text)) [
      | inl below ↦ let ne : at ≢ length text = omega arith in ne_eqb at (length text) ne ∙ sym (inside text at 0 below none).0
      | inr past ↦ let e : at ≡ length text = omega arith in eq-eqb at (length text) e ∙ sym (ap at_end (items_end text at e))
    ]

mark_no_word : (b : ℕ) → is_mark b ≡ true → is_word_byte b ≡ false
mark_no_word b e = grind (arith, nat_tests)

pub mark_skipped : (text : List ℕ) (at mark : ℕ) → at < length text → blank_len (byte_before text at) (drop at text) ≡ 0 → mark ≡ get_or text at 0 → is_mark mark ≡ true → after_mark mark (items_at text at) ≡ (true, items_at text (at + 1))
mark_skipped text at mark within none e is =
    let item : cond (is_mark (get_or text at 0)) (Lexed (record { at = at; token = Mark (get_or text at 0) })) (Bad (Character at)) ≡ Lexed (record { at = at; token = Mark mark }) =
    ap (λ (c : ℕ). cond (is_mark c) (Lexed (record { at = at; token = Mark c })) (Bad (Character at))) (sym e) ∙ ap (λ (t : Bool). cond t (Lexed (record { at = at; token = Mark mark })) (Bad (Character at))) is in
    let items : items_at text at ≡ Lexed (record { at = at; token = Mark mark }) ∷ items_at text (at + 1) =
    items_other text at within none (ap is_word_byte (sym e) ∙ mark_no_word mark is) ∙ ap (λ (i : Item). i ∷ items_at text (at + 1)) item in
    ap (after_mark mark) items ∙ ap (λ (t : Bool). cond t (let r : Bool × List Item = (true, items_at text (at + 1)) in r) (false, Lexed (record { at = at; token = Mark mark }) ∷ items_at text (at + 1))) (eq-eqb mark mark refl)

pub mark_not_there : (text : List ℕ) (at mark : ℕ) → begins_with_mark mark (items_at text at) ≡ false → after_mark mark (items_at text at) ≡ (false, items_at text at)
mark_not_there text at mark e =
    ap (λ (t : Bool). cond t (let r : Bool × List Item = (true, drop 1 (items_at text at)) in r) (false, items_at text at)) e

pub no_mark_at_end : (text : List ℕ) (at mark : ℕ) → at ≡ length text → begins_with_mark mark (items_at text at) ≡ false
no_mark_at_end text at mark e = ap (begins_with_mark mark) (items_end text at e)

pub no_mark_here : (text : List ℕ) (at b mark : ℕ) → at < length text → blank_len (byte_before text at) (drop at text) ≡ 0 → b ≡ get_or text at 0 → (b == mark) ≡ false → begins_with_mark mark (items_at text at) ≡ false
no_mark_here text at b mark within none e other = (inside text at mark within none).1 (ap (λ (c : ℕ). c == mark) (sym e) ∙ other)

pub line_fits : (n k : ℕ) (bytes : List ℕ) → n ≡ position_or_len (λ c. c == 10) (take k (drop 1 bytes)) → n ≤ length bytes - 1
line_fits n k bytes e = omega (arith, line_within n (take k (drop 1 bytes)) e, length-take k (drop 1 bytes), length-drop 1 bytes)

pub close_fits : (i k : ℕ) (bytes : List ℕ) → Some i ≡ close_at (take k (drop 1 bytes)) → i + 2 ≤ length bytes - 1
close_fits i k bytes e = omega (arith, close_some i (take k (drop 1 bytes)) e, length-take k (drop 1 bytes), length-drop 1 bytes)
