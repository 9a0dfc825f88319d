-- A ledger's line `tap`: how a recording ends, and after how many frames (this project's format).
use Rattle.std.specs.Prelude.{◌≡◌, ℕ, ◌<◌, ◌≤◌, List, [], ◌++◌, codes, decimal, length, All, Option, Some, None}
use Rattle.std.specs.Char.{IsAsciiLowercase}
use Rattle.std.specs.String.{string_bytes}
use Rattle.afdx_frame.specs.declared.key.Network.{Network}
use Rattle.afdx_frame.specs.declared.key.Network.TheVariants.{A, B}
use Rattle.ledger_report.specs.declared.counts_lines.TapEnd.{TapEnd}
use Rattle.ledger_report.specs.declared.counts_lines.TapEnd.TheVariants as ends
use Rattle.ledger_report.specs.declared.counts_lines.TapEnding.{TapEnding}

-- how a recording ends, after how many frames, and why it isn't read on
pub record Said : Type 0 where
  pub end : TapEnd
  pub frames : ℕ
  pub reason : List ℕ

-- the part of it that is kept
abbrev pub said_in : TapEnding → Said
said_in ending = record { end = ending.end; frames = ending.frames; reason = string_bytes ending.reason }

-- the words that the line begins with
abbrev pub tap_start : Network → List ℕ
tap_start A = codes "tap A "
tap_start B = codes "tap B "

-- the word of its end
abbrev pub end_start : TapEnd → List ℕ
end_start ends.Clean = codes "clean "
end_start ends.Cut = codes "cut "
end_start ends.Bad = codes "bad "

-- all that stands after the number of frames: a word where the recording isn't read on, else nothing
abbrev pub reason_text : TapEnd → List ℕ → List ℕ
reason_text ends.Bad reason = codes " " ++ reason
reason_text end reason = []

-- a word in lower case, if the recording isn't read on
abbrev pub IsReason : TapEnd → List ℕ → Type 0
IsReason ends.Bad reason = (0 < length reason) × (length reason ≤ 32) × All IsAsciiLowercase reason
IsReason end reason = reason ≡ []

-- the whole line
abbrev pub tap_text : Network → Said → List ℕ
tap_text network said = tap_start network ++ (end_start said.end ++ (decimal said.frames ++ reason_text said.end said.reason))

-- The line says that the recording of the network, which has so many frames, ends so.
pub record IsTapLine (network : Network) (frames : ℕ) (said : Said) (text : List ℕ) : Type 0 where
  pub count : said.frames ≡ frames
  pub reason : IsReason said.end said.reason
  pub words : text ≡ tap_text network said

-- The ending is known, and it is what the line says.
abbrev pub IsEnding : Network → ℕ → List ℕ → Option TapEnding → Type 0
IsEnding network frames text None = ⊥
IsEnding network frames text (Some ending) = IsTapLine network frames (said_in ending) text
