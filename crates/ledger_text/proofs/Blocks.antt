-- The bytes between two places of a block, and what reads do to them.
use Rattle.std.proofs.Common.{◌≡◌, ◌∙◌, ℕ, ◌+◌, ◌-◌, ◌<◌, ◌≤◌, List, [], ◌∷◌, ◌++◌, length, take, drop, slice_range, Option, Some, None, get_or, refl, sym, ap, arith, append_assoc, drop-drop, length-drop, eqb-true}
use Rattle.std.specs.List.{position_or_len, before_first, after_first}
use Rattle.std.specs.Io.KnownBytes.{Keeps, Consumes, prepend_known}
use Rattle.std.proofs.lemmas.Grind.{common_steps}
use Rattle.std.proofs.lemmas.List.{drop-take, drop-append-le, take-append-le, length-take-le, take_at, take-take}
use Rattle.std.proofs.lemmas.List.Sums.{split_at_first, fails_before_first, passes_at_first, position_or_len_is}
use Rattle.std.proofs.Math.Seq.{take-append-add}
use Rattle.pcap_io.proofs.Draws.{length-between}
use Rattle.ledger_text.specs.Newlines.{is_newline, NoNewline}

-- ---- a read that follows the unread bytes

pub ahead : (s e : ℕ) (xs : List ℕ) → s ≤ e → drop s (take e xs) ≡ slice_range xs s e
ahead s e xs le =
    let whole : e ≡ s + (e - s) = omega arith in
    ap (λ (n : ℕ). drop s (take n xs)) whole ∙ drop-take s (e - s) xs

pub grown : (s e n : ℕ) (xs ys post : List ℕ) → s ≤ e → e ≤ length xs → n ≤ length ys
    → slice_range (take e xs ++ (ys ++ post)) s (e + n) ≡ slice_range xs s e ++ take n ys
grown s e n xs ys post le fits short =
    let front = take e xs in
    let size : length front ≡ e = length-take-le e xs fits in
    let some = slice_range xs s e in
    let is : drop s front ≡ some = ahead s e xs le in
    let count : length some ≡ e - s = ap length (sym is) ∙ (length-drop s front ∙ ap (λ (m : ℕ). m - s) size) in
    let more : e + n - s ≡ length some + n = omega (arith, count) in
    ap (take (e + n - s)) (drop-append-le s front (ys ++ post) (omega (arith, size)) ∙ ap (λ (l : List ℕ). l ++ (ys ++ post)) is)
    ∙ ap (λ (m : ℕ). take m (some ++ (ys ++ post))) more
    ∙ take-append-add some (ys ++ post) n
    ∙ ap (λ (l : List ℕ). some ++ l) (take-append-le n ys post short)

pub same : (s e : ℕ) (xs rest : List ℕ) → s ≤ e → e ≤ length xs → slice_range (take e xs ++ rest) s e ≡ slice_range xs s e
same s e xs rest le fits =
    let front = take e xs in
    let size : length front ≡ e = length-take-le e xs fits in
    let some = slice_range xs s e in
    let is : drop s front ≡ some = ahead s e xs le in
    let count : length some ≡ e - s = ap length (sym is) ∙ (length-drop s front ∙ ap (λ (m : ℕ). m - s) size) in
    ap (take (e - s)) (drop-append-le s front rest (omega (arith, size)) ∙ ap (λ (l : List ℕ). l ++ rest) is)
    ∙ take_at some rest (e - s) count

pub keeps_same : (a b : Option (List ℕ)) (old new : List ℕ) → new ≡ old → Keeps a b → Keeps (prepend_known old a) (prepend_known new b)
keeps_same None b old new e p = tt
keeps_same (Some x) None old new e p = absurd p
keeps_same (Some x) (Some y) old new e p = ap (λ (l : List ℕ). l ++ y) e ∙ ap (λ (l : List ℕ). old ++ l) p

pub no_more : (bytes : List ℕ) (n : ℕ) → n ≡ 0 → (front : List ℕ) → front ++ take n bytes ≡ front
no_more bytes n e front = grind (arith, common_steps)

-- ---- the first line of bytes

before_has_none : (u : List ℕ) → NoNewline (take (position_or_len is_newline u) u)
before_has_none u =
    let n = position_or_len is_newline u in
    let front = take n u in
    position_or_len_is is_newline front (length front) 0 (omega arith)
    (λ k l. let k2 = fails_before_first is_newline u k 0 (grind (arith, common_steps)) in grind (arith, common_steps))
    (λ l. absurd (omega arith))

-- bytes with a newline: those before the first one, it, and those after it
first_line : (u : List ℕ) (n : ℕ) → n ≡ position_or_len is_newline u → n < length u → u ≡ take n u ++ 10 ∷ drop (n + 1) u
first_line u n e l =
    let at : position_or_len is_newline u < length u = omega (arith, e) in
    let byte : get_or u (position_or_len is_newline u) 0 ≡ 10 = eqb-true _ 10 (passes_at_first is_newline u 0 at) in
    let parts = split_at_first is_newline u 0 at in
    rw e (parts ∙ ap (λ (b : ℕ). before_first is_newline u ++ b ∷ after_first is_newline u) byte)

pub front_of : (s n e : ℕ) (xs : List ℕ) → s + n ≤ e → slice_range xs s (s + n) ≡ take n (slice_range xs s e)
front_of s n e xs le =
    let some : s + n - s ≡ n = omega arith in
    ap (λ (m : ℕ). take m (drop s xs)) some ∙ sym (take-take n (e - s) (drop s xs) (omega arith))

pub back_of : (s n e : ℕ) (xs : List ℕ) → s + n ≤ e → slice_range xs (s + n) e ≡ drop n (slice_range xs s e)
back_of s n e xs le =
    let all : e - s ≡ n + (e - (s + n)) = omega arith in
    sym (ap (λ (m : ℕ). drop n (take m (drop s xs))) all ∙ (drop-take n (e - (s + n)) (drop s xs) ∙ ap (take (e - (s + n))) (drop-drop n s xs)))

pub line_is : (s n e : ℕ) (xs : List ℕ) → n ≡ position_or_len is_newline (slice_range xs s e) → s + n ≤ e → NoNewline (slice_range xs s (s + n))
line_is s n e xs p le = rw (front_of s n e xs le, p) (before_has_none (slice_range xs s e))

pub line_taken : (s n e : ℕ) (xs : List ℕ) → n ≡ position_or_len is_newline (slice_range xs s e) → s + n + 1 ≤ e → e ≤ length xs
    → slice_range xs s e ≡ slice_range xs s (s + n) ++ 10 ∷ slice_range xs (s + n + 1) e
line_taken s n e xs p le fits =
    let size = length-between s e xs fits in
    let one : s + (n + 1) ≡ s + n + 1 = omega arith in
    let back : slice_range xs (s + n + 1) e ≡ drop (n + 1) (slice_range xs s e) = rw one at (back_of s (n + 1) e xs (omega arith)) in
    rw (front_of s n e xs (omega arith), back) (first_line (slice_range xs s e) n p (omega (arith, size)))

line_gone : (before known : Option (List ℕ)) (u line rest : List ℕ) → Keeps before (prepend_known u known)
    → u ≡ line ++ 10 ∷ rest → Consumes before (prepend_known rest known) (line ++ 10 ∷ [])
line_gone None known u line rest kept e = tt
line_gone (Some x) None u line rest kept e = absurd kept
line_gone (Some x) (Some y) u line rest kept e =
    sym kept ∙ (ap (λ (l : List ℕ). l ++ y) e ∙ (append_assoc line (10 ∷ rest) y ∙ sym (append_assoc line (10 ∷ []) (rest ++ y))))

-- a line and its newline are gone from what was kept
pub line_consumed : (before known known2 : Option (List ℕ)) (u line rest : List ℕ) → known2 ≡ known → Keeps before (prepend_known u known)
    → u ≡ line ++ 10 ∷ rest → Consumes before (prepend_known rest known2) (line ++ 10 ∷ [])
line_consumed before known known2 u line rest same kept e = rw same (line_gone before known u line rest kept e)

pub kept_is : (a b : Option (List ℕ)) → b ≡ a → Keeps a b
kept_is None b e = tt
kept_is (Some x) b e = rw e refl
