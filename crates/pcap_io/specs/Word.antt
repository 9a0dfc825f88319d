-- The words of endings and of their reasons, as ledgers and manifests write them (this project's format), and how many frames stand before.
use Rattle.std.specs.Prelude.{ℕ, List, codes}
use Rattle.pcap_io.specs.declared.recording.BadReason.{BadReason}
use Rattle.pcap_io.specs.declared.recording.BadReason.TheVariants as reason
use Rattle.pcap_io.specs.declared.recording.Ending.{Ending}
use Rattle.pcap_io.specs.declared.recording.Ending.TheVariants.{Clean, Cut, Bad}

abbrev pub reason_word : BadReason → List ℕ
reason_word reason.Length = codes "length"
reason_word reason.Fraction = codes "fraction"
reason_word (reason.StampBack by) = codes "stampback"
reason_word reason.TooMany = codes "toomany"
reason_word reason.BlockLength = codes "blocklength"
reason_word reason.BlockLengthsDiffer = codes "blocklengthsdiffer"
reason_word reason.BlockBounds = codes "blockbounds"
reason_word reason.UnknownInterface = codes "unknowninterface"
reason_word reason.Section = codes "section"
reason_word reason.SimplePacket = codes "simplepacket"
reason_word reason.StampRange = codes "stamprange"
reason_word reason.SeveralInterfaces = codes "severalinterfaces"
reason_word reason.TooManyInterfaces = codes "toomanyinterfaces"
reason_word reason.NoSuchInterface = codes "nosuchinterface"
reason_word reason.FileHeader = codes "fileheader"
reason_word reason.NextFile = codes "nextfile"

abbrev pub ending_word : Ending → List ℕ
ending_word (Clean n) = codes "clean"
ending_word (Cut n) = codes "cut"
ending_word (Bad n reason) = codes "bad"

abbrev pub frames_before : Ending → ℕ
frames_before (Clean n) = n
frames_before (Cut n) = n
frames_before (Bad n reason) = n
