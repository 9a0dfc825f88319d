-- A run over two recordings as it begins (this project's profile).
use Rattle.std.specs.Prelude.{◌≡◌}
use Rattle.afdx_frame.specs.declared.key.Network.TheVariants.{A, B}
use Rattle.run_fault.specs.Device.{SinkMembers, SinkView, SourceMembers, SourceView, sink_at, source_at}
use Rattle.run_fault.specs.Fault.{CaptureSink, Fails, LedgerSink, SourceA, SourceB}
use Rattle.run_fault.specs.Recording.{FailsAtHeader, HasHeaderFault, WasOpened}
use Rattle.run_fault.specs.declared.fault.WatchFault.{WatchFault}
use Rattle.run_fault.specs.declared.fault.WatchFault.TheVariants as watch

-- the devices of a run, as it sees them
pub record WatchDevices : Type 0 where
  pub a : SourceView
  pub b : SourceView
  pub capture : SinkView
  pub ledger : SinkView

abbrev pub watch_devices : SourceView → SourceView → SinkView → SinkView → WatchDevices
watch_devices a b capture ledger = record { a = a; b = b; capture = capture; ledger = ledger }

abbrev pub devices_at : {S T W L : Type 0} → SourceMembers S → SourceMembers T → SinkMembers W → SinkMembers L → S → T → W → L → WatchDevices
devices_at s t w l a b capture ledger = watch_devices (source_at s a) (source_at t b) (sink_at w capture) (sink_at l ledger)

-- ---- a recording that is not opened

-- Only the device that the fault names failed, if it names one, and just once.
abbrev pub FailsOnly : WatchFault → WatchDevices → WatchDevices → Type 0
FailsOnly fault before after =
    Fails fault SourceA before.a.failures after.a.failures × Fails fault SourceB before.b.failures after.b.failures
    × Fails fault CaptureSink before.capture.failures after.capture.failures × Fails fault LedgerSink before.ledger.failures after.ledger.failures

abbrev pub OutputsUntouched : WatchDevices → WatchDevices → Type 0
OutputsUntouched before after = (after.capture ≡ before.capture) × (after.ledger ≡ before.ledger)

-- A recording wasn't opened, that of A first. Nothing was written.
abbrev pub StopsAtOpening : WatchFault → WatchDevices → WatchDevices → Type 0
StopsAtOpening (watch.Header A f) before after =
    HasHeaderFault f before.a after.a × (after.b ≡ before.b) × OutputsUntouched before after
StopsAtOpening (watch.Header B f) before after =
    WasOpened before.a after.a × HasHeaderFault f before.b after.b × OutputsUntouched before after
StopsAtOpening (watch.Read A) before after =
    FailsAtHeader before.a after.a × (after.b ≡ before.b) × OutputsUntouched before after
StopsAtOpening (watch.Read B) before after =
    WasOpened before.a after.a × FailsAtHeader before.b after.b × OutputsUntouched before after
StopsAtOpening fault before after = ⊥

-- and only the device that the fault names failed, if it names one
abbrev pub AbortsAtOpening : WatchFault → WatchDevices → WatchDevices → Type 0
AbortsAtOpening fault before after = FailsOnly fault before after × StopsAtOpening fault before after
