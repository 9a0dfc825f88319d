-- A text that is read whole from a source (this project's profile).
use Rattle.std.specs.Prelude.{◌≡◌, ℕ, ◌+◌, ◌≤◌, List, length, Option}
use Rattle.std.specs.Str.{IsUtf8}
use Rattle.std.specs.Io.KnownBytes.{Consumes, IsAtEnd}
use Rattle.pcap_io.specs.Device.{CountsFailure}
use Rattle.run_inputs.specs.declared.text.TextRefusal.{TextRefusal}
use Rattle.run_inputs.specs.declared.text.TextRefusal.TheVariants.{Device, TooLong, NotUtf8, Memory}

-- the most bytes of a text
abbrev pub max_text : ℕ
max_text = 16777216

-- these bytes are all that was left of the source, and a text may have as many
abbrev pub IsWhole : Option (List ℕ) → Option (List ℕ) → List ℕ → Type 0
IsWhole before after bytes = Consumes before after bytes × IsAtEnd after × (length bytes ≤ max_text)

-- and they are UTF-8
abbrev pub IsWholeText : Option (List ℕ) → Option (List ℕ) → List ℕ → Type 0
IsWholeText before after text = IsWhole before after text × IsUtf8 text

-- why a text wasn't read: the source failed, or gave one byte more than a text may have, or other
-- bytes than UTF-8
abbrev pub IsTextRefusal : Option (List ℕ) → Option (List ℕ) → ℕ → ℕ → TextRefusal → Type 0
IsTextRefusal before after old new Device = CountsFailure old new
IsTextRefusal before after old new TooLong = ((bytes : List ℕ) × Consumes before after bytes × (length bytes ≡ max_text + 1)) × (new ≡ old)
IsTextRefusal before after old new NotUtf8 = ((bytes : List ℕ) × IsWhole before after bytes × (IsUtf8 bytes → ⊥)) × (new ≡ old)
IsTextRefusal before after old new Memory = new ≡ old
