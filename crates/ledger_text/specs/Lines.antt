-- The lines of a source that is read a block at a time.
use Rattle.std.specs.Prelude.{◌≡◌, ℕ, ◌<◌, List, ◌∷◌, ◌++◌, [], length, slice_range, Option}
use Rattle.std.specs.Io.KnownBytes.{Consumes, IsAtEnd, prepend_known}
use Rattle.ledger_text.specs.Newlines.{NoNewline}
use Rattle.ledger_text.specs.declared.lines.LineSource.{LineSource}
use Rattle.ledger_text.specs.declared.lines.LineFound.{LineFound}
use Rattle.ledger_text.specs.declared.lines.LineFound.TheVariants.{Line, End, Unended, Long}
use Rattle.ledger_text.specs.declared.bounds.TheConstants.{BLOCK_LEN}

-- the source that it reads from
abbrev pub line_source : {S : Type 0} → LineSource S → S
line_source lines = lines.source

-- all that was read ahead
abbrev pub unread_of : {S : Type 0} → LineSource S → List ℕ
unread_of lines = slice_range lines.block.items lines.start lines.end

-- the line that was found last
abbrev pub lent_line : {S : Type 0} → LineSource S → List ℕ
lent_line lines = slice_range lines.block.items lines.from lines.to

-- all that is left of both, where the source exposes its bytes
abbrev pub lines_left : {S : Type 0} → (S → Option (List ℕ)) → LineSource S → Option (List ℕ)
lines_left remaining lines = prepend_known (unread_of lines) (remaining lines.source)

-- The next find, which bytes it is, and what is left then: a line and its newline, which have room in a block; nothing; a last line with
-- no newline; or the first bytes of a line that has no room.
abbrev pub IsNextLine : Option (List ℕ) → Option (List ℕ) → List ℕ → LineFound → Type 0
IsNextLine before after line Line = NoNewline line × (length line < BLOCK_LEN) × Consumes before after (line ++ 10 ∷ [])
IsNextLine before after line End = IsAtEnd before × IsAtEnd after
IsNextLine before after line Unended = NoNewline line × (0 < length line) × (length line < BLOCK_LEN) × Consumes before after line × IsAtEnd after
IsNextLine before after line Long = NoNewline line × (length line ≡ BLOCK_LEN) × Consumes before after line
