use Rattle.pcap_io.specs.Reader.{source_of, unread_of}
use Rattle.pcap_io.proofs.Steps.{tells_behind}
use Rattle.pcap_io.proofs.reader.TapReader.told_after.Goals as goal

pub returns : goal.returns
returns g c = λ none over.
    tells_behind (unread_of c.args.self.now) (g.S.TapSource.remaining (source_of c.args.self.now)) _ _ ((rw c.source.ensures at c.told.ensures) over)
