use Rattle.pcap_io.proofs.Parse.{one_holds, same_parse}
use Rattle.pcap_io.proofs.laws.one_parse.Goals as goal

pub returns-clause-packets : goal.returns-clause-packets
returns-clause-packets c = λ layout most late told bytes packets others rest left ending last s t.
    let one = same_parse layout most late told 0 0 bytes packets others rest left ending last s t in
    (one.same_packets, one.same_rest, one.same_ending)

pub returns-clause-frames : goal.returns-clause-frames
returns-clause-frames c = one_holds
