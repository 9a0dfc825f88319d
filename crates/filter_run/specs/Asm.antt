-- The command `asm`: what it leaves, by what its devices show (this project's profile).
use Rattle.std.specs.Prelude.{◌≡◌, ℕ, List, ◌++◌, Option, Some, None, Result, Ok, Err, codes}
use Rattle.std.specs.Io.KnownBytes.{Appends}
use Rattle.bpf_isa.specs.Numeric.{numeric_text}
use Rattle.bpf_isa.specs.declared.packed.Packed.{Packed}
use Rattle.bpf_asm.specs.Assembly.{IsSourceOf, IsTextFault}
use Rattle.bpf_asm.specs.declared.fault.AsmFault.TheVariants as asm
use Rattle.pcap_io.specs.Device.{AppendsPrefix, CountsFailure}
use Rattle.run_fault.specs.Device.{Devices}
use Rattle.run_inputs.specs.Text.{IsTextRefusal, IsWholeText}
use Rattle.run_inputs.specs.declared.text.TextRefusal.{TextRefusal}
use Rattle.run_inputs.specs.declared.text.TextRefusal.TheVariants as refusals
use Rattle.command_line.specs.declared.fault.Fault.{Fault}
use Rattle.command_line.specs.declared.fault.Fault.TheVariants as fault
use Rattle.command_line.specs.declared.fault.FileOption.TheVariants as file

-- the printed text: the numeric form and a newline
abbrev pub printed : List Packed → List ℕ
printed p = numeric_text p ++ codes "\n"

-- the text is source of a program, and these bytes are its numeric form and a newline
abbrev pub IsAssembledAs : List ℕ → List ℕ → Type 0
IsAssembledAs text numeric = (p : List Packed) × IsSourceOf text p × (numeric ≡ printed p)

-- the fault of a text that wasn't read
abbrev pub text_fault : TextRefusal → Fault
text_fault refusals.Device = fault.File file.Standard
text_fault refusals.TooLong = fault.File file.Standard
text_fault refusals.NotUtf8 = fault.File file.Standard
text_fault refusals.Memory = fault.Asm asm.Memory

-- the outcome of printing a text's program, by what the sink took and how often it had failed
abbrev pub Prints : List ℕ → Option (List ℕ) → Option (List ℕ) → ℕ → ℕ → Result (Unit {0}) Fault → Type 0
Prints text before after old new (Ok done) = (p : List Packed) × IsSourceOf text p × Appends before after (printed p) × (new ≡ old)
Prints text before after old new (Err (fault.File file.Standard)) =
    (p : List Packed) × IsSourceOf text p × AppendsPrefix before after (printed p) × CountsFailure old new
Prints text before after old new (Err (fault.Asm f)) = IsTextFault text f × (after ≡ before) × (new ≡ old)
Prints text before after old new (Err f) = ⊥

-- The text wasn't read, for this reason, and nothing was written.
abbrev pub IsUnread : TextRefusal → Devices → Devices → Type 0
IsUnread refusal before after =
    IsTextRefusal before.source.remaining after.source.remaining before.source.failures after.source.failures refusal
    × (after.sink.contents ≡ before.sink.contents) × (after.sink.failures ≡ before.sink.failures)

-- The source's text was read whole, and this became of printing its program.
pub record IsRead (text : List ℕ) (outcome : Result (Unit {0}) Fault) (before after : Devices) : Type 0 where
  pub read : IsWholeText before.source.remaining after.source.remaining text
  pub source : after.source.failures ≡ before.source.failures
  pub printed : Prints text before.sink.contents after.sink.contents before.sink.failures after.sink.failures outcome

-- the outcome of the command, and what it leaves, by the text that it read
abbrev pub IsAsmRun : Option (List ℕ) → Result (Unit {0}) Fault → Devices → Devices → Type 0
IsAsmRun (Some text) outcome before after = IsRead text outcome before after
IsAsmRun None outcome before after = (refusal : TextRefusal) × (outcome ≡ Err (text_fault refusal)) × IsUnread refusal before after
