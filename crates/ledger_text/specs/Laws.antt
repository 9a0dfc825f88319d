-- Laws of a ledger's text, which hold of the definitions alone.
use Rattle.std.specs.Prelude.{◌≡◌, ℕ, List, ◌++◌, codes, ◌↔◌}
use Rattle.verdict_ledger.specs.Entry.{Entry}
use Rattle.verdict_ledger.specs.Text.{line_text}
use Rattle.verdict_ledger.specs.declared.version.LedgerVersion.{LedgerVersion}
use Rattle.ledger_text.specs.FrameText.{IsFrameLine, IsFrameText, shown}
use Rattle.ledger_text.specs.declared.frame.FrameLine.{FrameLine}

-- a line is the text of the values of one frame's line at most
abbrev pub LineReadsOneWay : Type 0
LineReadsOneWay = (version : LedgerVersion) (line : List ℕ) (v w : FrameLine) → IsFrameText version line v → IsFrameText version line w → v ≡ w

-- a line reads as what an entry shows where a ledger's line of the entry is that line and a newline, and nowhere else
abbrev pub EntriesReadBack : Type 0
EntriesReadBack = (version : LedgerVersion) (e : Entry) (line : List ℕ) → IsFrameLine version (shown version e)
    → IsFrameText version line (shown version e) ↔ line_text version e ≡ line ++ codes "\n"
