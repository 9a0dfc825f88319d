-- Why a run was aborted (this project's profile).
use Rattle.std.specs.Prelude.{◌≡◌, ◌⊎◌, ℕ, Bool, true, false}
use Rattle.afdx_frame.specs.declared.key.Network.{Network}
use Rattle.afdx_frame.specs.declared.key.Network.TheVariants.{A, B}
use Rattle.pcap_io.specs.Device.{CountsFailure}
use Rattle.pcap_io.specs.declared.reader.OpenFault.{OpenFault}
use Rattle.pcap_io.specs.declared.reader.OpenFault.TheVariants as opening
use Rattle.run_fault.specs.declared.fault.Output.TheVariants as output
use Rattle.run_fault.specs.declared.fault.WatchFault.{WatchFault}
use Rattle.run_fault.specs.declared.fault.WatchFault.TheVariants as watch

-- the fault of a network's recording that wasn't opened
abbrev pub open_fault : Network → OpenFault → WatchFault
open_fault network (opening.Header fault) = watch.Header network fault
open_fault network opening.Device = watch.Read network

-- ---- which device failed

-- the devices of a run
pub data Device : Type 0 where
  SourceA : Device
  SourceB : Device
  CaptureSink : Device
  LedgerSink : Device

-- which device a fault names, if it names one
abbrev pub names : WatchFault → Device → Bool
names (watch.Read A) SourceA = true
names (watch.Read B) SourceB = true
names (watch.Write output.Capture) CaptureSink = true
names (watch.Write output.Ledger) LedgerSink = true
names _ _ = false

-- a device that is named failed, just once, and another didn't
abbrev pub FailsWhere : Bool → ℕ → ℕ → Type 0
FailsWhere true old new = CountsFailure old new
FailsWhere false old new = new ≡ old

-- the device failed where the fault names it
abbrev pub Fails : WatchFault → Device → ℕ → ℕ → Type 0
Fails fault device old new = FailsWhere (names fault device) old new

-- a device failed once more, or not
abbrev pub MayFail : ℕ → ℕ → Type 0
MayFail old new = (new ≡ old) ⊎ CountsFailure old new
