-- The length of a line is where the first newline stands, or all bytes where there is none.
use Rattle.std.proofs.Common.{◌≡◌, ℕ, Bool, true, false, List, Option, Some, None, length, arith, refl, sym, unwrap_or}
use Rattle.std.proofs.lemmas.List.Sums.{position_or_len_is}
use Rattle.std.specs.List.{position_or_len}
use Rattle.memchr.specs.Find.{IsFirstByte, is_byte}
use Rattle.ledger_text.specs.Newlines.{is_newline}

fails : (b : Bool) → (b ≡ true → ⊥) → b ≡ false
fails true h = absurd (h refl)
fails false h = refl

pub line_ends : (bytes : List ℕ) (found : Option ℕ) → IsFirstByte (is_byte 10) bytes found → unwrap_or found (length bytes) ≡ position_or_len is_newline bytes
line_ends bytes None h = sym (position_or_len_is is_newline bytes (length bytes) 0 (omega arith) (λ k l. fails _ (h k (omega arith) l)) (λ l. absurd (omega arith)))
line_ends bytes (Some at) h = sym (position_or_len_is is_newline bytes at 0 (omega (arith, h.0.high)) (λ k l. fails _ (h.0.before k (omega arith) l)) (λ l. h.1))
