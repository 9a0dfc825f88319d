-- The texts that a run is set up by: the filters and the table of virtual links (this project's profile).
use Rattle.std.specs.Prelude.{◌≡◌, ◌⊎◌, ℕ, ◌+◌, List, [], ◌∷◌, map, Option, None, Some, Ok, ⊤}
use Rattle.bpf_asm.specs.Assembly.{IsSourceOf, IsTextFault}
use Rattle.bpf_isa.specs.Numeric.{numeric_of, IsFault, HasCount}
use Rattle.bpf_isa.specs.Table.{canonical_form}
use Rattle.bpf_isa.specs.declared.numeric.fault.NumericFault.TheVariants as numeric
use Rattle.bpf_isa.specs.declared.packed.Packed.{Packed}
use Rattle.bpf_loader.specs.Faults.{IsLoadable, IsFirstFault}
use Rattle.vl_config.specs.Document.{first_fault, MayAllocate}
use Rattle.vl_config.specs.declared.fault.ConfigFault.TheVariants as config
use Rattle.command_line.specs.declared.fault.Fault.{Fault}
use Rattle.command_line.specs.declared.fault.Fault.TheVariants as fault
use Rattle.command_line.specs.declared.fault.FileOption.{FileOption}
use Rattle.run_fault.specs.declared.fault.WatchFault.TheVariants as watch
use Rattle.run_inputs.specs.declared.text.TextRefusal.{TextRefusal}
use Rattle.run_inputs.specs.declared.text.TextRefusal.TheVariants as refusals

-- ---- a filter

-- the text holds this filter, in the form in which it runs
abbrev pub IsFilter : List ℕ → List Packed → Type 0
IsFilter text p = (words : List Packed) × (numeric_of text ≡ Ok words) × IsLoadable words × (p ≡ map canonical_form words)

-- the text, of the filter of this number, holds no filter, and this is its fault
abbrev pub IsFilterFault : List ℕ → Option ℕ → Fault → Type 0
IsFilterFault text number (fault.Numeric f n) = (n ≡ number) × IsFault f (numeric_of text) × (f ≡ numeric.Memory → HasCount text)
IsFilterFault text number (fault.Load f n) = (n ≡ number) × ((words : List Packed) × (numeric_of text ≡ Ok words) × IsFirstFault words f)
IsFilterFault text number _ = ⊥

-- the source text holds this filter, in the form in which it runs
abbrev pub IsSourceFilter : List ℕ → List Packed → Type 0
IsSourceFilter text p = (words : List Packed) × IsSourceOf text words × IsLoadable words × (p ≡ map canonical_form words)

-- the source text holds no filter, and this is its fault: that of its statements, or that of their program
abbrev pub IsSourceFault : List ℕ → Fault → Type 0
IsSourceFault text (fault.Asm f) = IsTextFault text f
IsSourceFault text (fault.Load f number) = (number ≡ None) × ((words : List Packed) × IsSourceOf text words × IsFirstFault words f)
IsSourceFault text _ = ⊥

-- ---- several filters

-- the texts hold these filters
abbrev pub AreFilters : List (List ℕ) → List (List Packed) → Type 0
AreFilters [] [] = ⊤
AreFilters (text ∷ texts) (p ∷ ps) = IsFilter text p × AreFilters texts ps
AreFilters _ _ = ⊥

-- the first text, of the filter of this number, or a later one has this fault, and those before it hold filters
abbrev pub IsFirstFilterFault : ℕ → List (List ℕ) → Fault → Type 0
IsFirstFilterFault number [] f = ⊥
IsFirstFilterFault number (text ∷ texts) f =
    IsFilterFault text (Some number) f ⊎ (((p : List Packed) × IsFilter text p) × IsFirstFilterFault (number + 1) texts f)

-- Of the text of the command line's filter and those of the table's, numbered from 1, the first fault. Where the command line's is a
-- filter, there may be no memory for the list.
abbrev pub IsFiltersFault : List ℕ → List (List ℕ) → Fault → Type 0
IsFiltersFault text texts f =
    IsFilterFault text None f
    ⊎ (((p : List Packed) × IsFilter text p) × ((f ≡ fault.Watch watch.Memory) ⊎ IsFirstFilterFault 1 texts f))

-- ---- texts of files

-- the fault of a file whose text wasn't read
abbrev pub file_fault : FileOption → TextRefusal → Fault
file_fault file refusals.Device = fault.File file
file_fault file refusals.TooLong = fault.File file
file_fault file refusals.NotUtf8 = fault.File file
file_fault file refusals.Memory = fault.Watch watch.Memory

-- the table of a text has this fault
abbrev pub IsConfigFault : List ℕ → Fault → Type 0
IsConfigFault text (fault.Config config.Memory) = MayAllocate text
IsConfigFault text (fault.Config f) = first_fault text ≡ Some f
IsConfigFault text _ = ⊥
