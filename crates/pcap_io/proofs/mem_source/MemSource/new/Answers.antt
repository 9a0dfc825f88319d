use Rattle.std.proofs.Common.{arith}
use Rattle.pcap_io.proofs.Bytes.{bytes_of-from, are_bytes-within}
use Rattle.pcap_io.proofs.mem_source.MemSource.new.Goals as goal

pub returns-clause-exposed : goal.returns-clause-exposed
returns-clause-exposed c = bytes_of-from _ (are_bytes-within c.args.bytes.items (λ i within. omega arith))
