-- The effect of a call of the ledger on its sink.
use Rattle.std.specs.Prelude.{◌≡◌, ℕ, List, ◌++◌, Option, None, Some, Result, Ok, Err}
use Rattle.std.specs.Io.KnownBytes.{Appends}
use Rattle.pcap_io.specs.Device.{AppendsPrefix, CountsFailure}
use Rattle.verdict_ledger.specs.declared.fault.LedgerFault.{LedgerFault}
use Rattle.verdict_ledger.specs.declared.fault.LedgerFault.TheVariants.{Device, Memory, Failed}
use Rattle.verdict_ledger.specs.declared.fault.LedgerRefused.{LedgerRefused}

-- the fault of a call, None where there was none
abbrev pub fault_of : {T : Type 0} → Result T LedgerFault → Option LedgerFault
fault_of (Ok x) = None
fault_of (Err fault) = Some fault

abbrev pub refusal_of : {T W : Type 0} → Result T (LedgerRefused W) → Option LedgerFault
refusal_of (Ok x) = None
refusal_of (Err refused) = Some refused.fault

-- The sink took all the bytes; or a part from their start, and then failed, or there was no memory for the rest. Its count of
-- failures rises only where it failed.
abbrev pub IsAppended : Option LedgerFault → Option (List ℕ) → Option (List ℕ) → ℕ → ℕ → List ℕ → Type 0
IsAppended None old new before after bytes = Appends old new bytes × (after ≡ before)
IsAppended (Some Device) old new before after bytes = AppendsPrefix old new bytes × CountsFailure before after
IsAppended (Some Memory) old new before after bytes = AppendsPrefix old new bytes × (after ≡ before)
IsAppended (Some Failed) old new before after bytes = ⊥

-- The text that waits to be written grows by the bytes, and the sink takes what comes before the text that still waits.
abbrev pub Moves : Option (List ℕ) → Option (List ℕ) → List ℕ → List ℕ → List ℕ → Type 0
Moves old new text text' bytes = (taken : List ℕ) × Appends old new taken × (taken ++ text' ≡ text ++ bytes)

-- as `IsAppended`, where text waited before, and some may wait after
abbrev pub IsSpooled : Option LedgerFault → Option (List ℕ) → Option (List ℕ) → ℕ → ℕ → List ℕ → List ℕ → List ℕ → Type 0
IsSpooled None old new before after text text' bytes = Moves old new text text' bytes × (after ≡ before)
IsSpooled (Some Device) old new before after text text' bytes = AppendsPrefix old new (text ++ bytes) × CountsFailure before after
IsSpooled (Some Memory) old new before after text text' bytes = AppendsPrefix old new (text ++ bytes) × (after ≡ before)
IsSpooled (Some Failed) old new before after text text' bytes = ⊥
