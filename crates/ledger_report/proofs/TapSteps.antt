-- The words of a line `tap`, one by one.
use Rattle.std.proofs.Common.{◌≡◌, ◌∙◌, ℕ, ◌+◌, Bor, ◌<◌, ◌≤◌, ◌==◌, ◌⊎◌, inl, inr, true, false, List, [], ◌∷◌, ◌++◌, length, get_or, take, drop, Option, Some, None, refl, sym, ap, subst, arith}
use Rattle.std.specs.List.{AllWithin}
use Rattle.std.specs.Cmp.Lexicographic.{pointwise}
use Rattle.std.specs.Option.{MatchOption}
use Rattle.std.specs.Prelude.{IsSomeAnd, String, codes, decimal}
use Rattle.std.specs.Global.{Global}
use Rattle.std.specs.Char.{IsAsciiLowercase}
use Rattle.std.specs.Str.{IsUtf8}
use Rattle.std.proofs.lemmas.Bool.{cases_lt, true≢false}
use Rattle.std.proofs.lemmas.Bool.Decides.{Decides-eqb}
use Rattle.std.proofs.lemmas.List.{append_cancel_left, get_or_past, take-append-drop}
use Rattle.std.proofs.lemmas.Slice.Eq.{slice_eq-Decides}
use Rattle.std.proofs.lemmas.Str.{IsUtf8-from_ascii}
use Rattle.std.specs.String.{string_bytes}
use Rattle.afdx_frame.specs.declared.key.Network.{Network}
use Rattle.ledger_report.specs.TapLines.{IsReason, IsTapLine, Said, end_start, reason_text, said_in, tap_start}
use Rattle.ledger_report.specs.declared.counts_lines.TapEnding.{TapEnding}
use Rattle.ledger_report.specs.declared.counts_lines.TapEnd.{TapEnd}
use Rattle.ledger_report.specs.declared.counts_lines.TapEnd.TheVariants as ends

-- two words that a line goes on with are one, if what they begin is one
pub ends_apart : (d e : TapEnd) (xs ys : List ℕ) → end_start d ++ xs ≡ end_start e ++ ys → (d ≡ e) × (xs ≡ ys)
ends_apart ends.Clean ends.Clean xs ys is = (refl, append_cancel_left (codes "clean ") xs ys is)
ends_apart ends.Clean ends.Cut xs ys is = absurd (omega (arith, ap (λ (zs : List ℕ). get_or zs 1 0) is))
ends_apart ends.Clean ends.Bad xs ys is = absurd (omega (arith, ap (λ (zs : List ℕ). get_or zs 0 0) is))
ends_apart ends.Cut ends.Clean xs ys is = absurd (omega (arith, ap (λ (zs : List ℕ). get_or zs 1 0) is))
ends_apart ends.Cut ends.Cut xs ys is = (refl, append_cancel_left (codes "cut ") xs ys is)
ends_apart ends.Cut ends.Bad xs ys is = absurd (omega (arith, ap (λ (zs : List ℕ). get_or zs 0 0) is))
ends_apart ends.Bad ends.Clean xs ys is = absurd (omega (arith, ap (λ (zs : List ℕ). get_or zs 0 0) is))
ends_apart ends.Bad ends.Cut xs ys is = absurd (omega (arith, ap (λ (zs : List ℕ). get_or zs 0 0) is))
ends_apart ends.Bad ends.Bad xs ys is = (refl, append_cancel_left (codes "bad ") xs ys is)

-- ---- a prefix

taken : (words rest : List ℕ) → take (length words) (words ++ rest) ≡ words
taken [] rest = refl
taken (w ∷ words) rest = ap (λ (xs : List ℕ). w ∷ xs) (taken words rest)

pub stripped : (line words rest : List ℕ) → pointwise (λ (x y : ℕ). x == y) (take (length words) line) words ≡ true
    → rest ≡ drop (length words) line → line ≡ words ++ rest
stripped line words rest same is =
    let first : take (length words) line ≡ words = (slice_eq-Decides Decides-eqb (take (length words) line) words true (sym same)).0 refl in
    sym (take-append-drop (length words) line) ∙ ap (λ (xs : List ℕ). xs ++ drop (length words) line) first
    ∙ ap (λ (xs : List ℕ). words ++ xs) (sym is)

pub not_stripped : (line words rest : List ℕ) → pointwise (λ (x y : ℕ). x == y) (take (length words) line) words ≡ false → line ≡ words ++ rest → ⊥
not_stripped line words rest differ is =
    let first : take (length words) line ≡ words = ap (λ (xs : List ℕ). take (length words) xs) is ∙ taken words rest in
    true≢false
    (sym ((slice_eq-Decides Decides-eqb (take (length words) line) words
    (pointwise (λ (x y : ℕ). x == y) (take (length words) line) words) refl).1 first) ∙ differ)

pub after_words : (line words : List ℕ) (result : Option (Bor (List ℕ)))
    → MatchOption result (pointwise (λ (x y : ℕ). x == y) (take (length words) line) words ≡ false)
    (λ (x : Bor (List ℕ)). (pointwise (λ (x y : ℕ). x == y) (take (length words) line) words ≡ true) × (x.now ≡ drop (length words) line) ×
    (length x.now + length words ≡ length line))
    → MatchOption result ((rest : List ℕ) → line ≡ words ++ rest → ⊥) (λ (x : Bor (List ℕ)). line ≡ words ++ x.now)
after_words line words None differ = λ rest is. not_stripped line words rest differ is
after_words line words (Some rest) same = stripped line words rest.now same.0 same.1

-- ---- a reason

pub lower_utf8 : (bytes : List ℕ) → AllWithin IsAsciiLowercase bytes 0 (length bytes) → IsUtf8 bytes
lower_utf8 bytes all = IsUtf8-from_ascii bytes (λ i. at i (cases_lt i (length bytes)))
  where
    at : (i : ℕ) → (i < length bytes) ⊎ (length bytes ≤ i) → get_or bytes i 0 < 128
    at i (inl less) = (let low = all i 0 (omega arith) less in omega (arith, low.1))
    at i (inr past) = omega (arith, get_or_past bytes i 0 past)

-- ---- the whole line

-- all that a line of these words says, by its reason
pub said_by : (network : Network) (frames : ℕ) (line : List ℕ) (end : TapEnd) (said rest : List ℕ) (reason : Option (String Global))
    (result : Option TapEnding)
    → line ≡ tap_start network ++ said → said ≡ end_start end ++ (decimal frames ++ rest)
    → MatchOption reason ((word : List ℕ) → IsReason end word → rest ≡ reason_text end word → ⊥)
    (λ (r : String Global). IsReason end (string_bytes r) × (rest ≡ reason_text end (string_bytes r)))
    → MatchOption reason (result ≡ None) (λ (r : String Global). IsSomeAnd result
    (λ ending. ending ≡ record { end = end; frames = frames; reason = r }))
    → MatchOption result ((says : Said) → IsTapLine network frames says line → ⊥) (λ ending. IsTapLine network frames (said_in ending) line)
said_by network frames line end said rest None result start ended never none =
    rw none (λ says is.
    (let words : end_start end ++ (decimal frames ++ rest) ≡ end_start says.end ++ (decimal says.frames ++ reason_text says.end says.reason) =
    append_cancel_left (tap_start network) _ _ (ap (λ (xs : List ℕ). tap_start network ++ xs) (sym ended) ∙ sym start ∙ is.words) in
    let apart = ends_apart end says.end (decimal frames ++ rest) (decimal says.frames ++ reason_text says.end says.reason) words in
    let after : rest ≡ reason_text says.end says.reason =
    append_cancel_left (decimal frames) rest (reason_text says.end says.reason)
    (apart.1 ∙ ap (λ n. decimal n ++ reason_text says.end says.reason) is.count) in
    never says.reason (subst (λ (e : TapEnd). IsReason e says.reason) (sym apart.0) is.reason)
    (after ∙ ap (λ (e : TapEnd). reason_text e says.reason) (sym apart.0))))
said_by network frames line end said rest (Some r) None start ended is some = absurd some
said_by network frames line end said rest (Some r) (Some ending) start ended is some =
    subst (λ (e : TapEnding). IsTapLine network frames (said_in e) line) (sym some) (record {
      count = refl;
      reason = is.0;
      words = start ∙ ap (λ (xs : List ℕ). tap_start network ++ xs) (ended ∙ ap (λ (xs : List ℕ). end_start end ++ (decimal frames ++ xs)) is.1);
    })
