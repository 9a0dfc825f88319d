-- Which device a fault of a cut names (this project's profile).
use Rattle.std.specs.Prelude.{Bool, true, false}
use Rattle.afdx_frame.specs.declared.key.Network.{Network}
use Rattle.afdx_frame.specs.declared.key.Network.TheVariants.{A, B}
use Rattle.cut_run.specs.declared.fault.CutFault.{CutFault}
use Rattle.cut_run.specs.declared.fault.CutFault.TheVariants as faults
use Rattle.cut_run.specs.declared.fault.CutSource.TheVariants as source

-- the devices of a cut
pub data CutDevice : Type 0 where
  LedgerSource : CutDevice
  RecordingSource : Network → CutDevice
  OutputSink : CutDevice

abbrev pub names : CutFault → CutDevice → Bool
names (faults.Read source.Ledger) LedgerSource = true
names (faults.Read (source.Recording A)) (RecordingSource A) = true
names (faults.Read (source.Recording B)) (RecordingSource B) = true
names faults.Write OutputSink = true
names _ _ = false
