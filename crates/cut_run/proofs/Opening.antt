-- Recordings that aren't opened.
use Rattle.std.proofs.Common.{◌≡◌, refl}
use Rattle.afdx_frame.specs.declared.key.Network.TheVariants.{B}
use Rattle.pcap_io.specs.Device.{TakesAtMost, TakesFewer}
use Rattle.pcap_io.specs.Position.{IsOpenFault}
use Rattle.pcap_io.specs.declared.layout.TheConstants.{FILE_HEADER_LEN}
use Rattle.pcap_io.specs.declared.reader.OpenFault.{OpenFault}
use Rattle.pcap_io.specs.declared.reader.OpenFault.TheVariants as opening
use Rattle.run_fault.specs.Device.{SinkView, SourceView}
use Rattle.run_fault.specs.Recording.{WasOpened}
use Rattle.cut_run.specs.Cut.{FailsOnly, IsUnopened}
use Rattle.cut_run.specs.Naming.{open_fault}

pub refused_b : (fault : OpenFault) (ledger a a' b b' : SourceView) (output : SinkView) → WasOpened a a' → a'.failures ≡ a.failures
    → IsOpenFault b.told b.remaining b.failures b'.failures fault → TakesAtMost FILE_HEADER_LEN b.remaining b'.remaining
    → (fault ≡ opening.Device → TakesFewer FILE_HEADER_LEN b.remaining b'.remaining)
    → FailsOnly (open_fault B fault) (record { ledger = ledger; a = a; b = b; output = output }) (record { ledger = ledger; a = a'; b = b'; output = output })
    × IsUnopened (open_fault B fault) (record { ledger = ledger; a = a; b = b; output = output })
    (record { ledger = ledger; a = a'; b = b'; output = output })
refused_b (opening.Header f) ledger a a' b b' output opened same is taken fewer =
    (record { ledger = refl; a = same; b = is.1; output = refl }, (opened, (is.0, taken), refl, refl))
refused_b opening.Device ledger a a' b b' output opened same is taken fewer =
    (record { ledger = refl; a = same; b = is; output = refl }, (opened, fewer refl, refl, refl))
