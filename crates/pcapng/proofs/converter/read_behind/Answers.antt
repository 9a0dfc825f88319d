use Rattle.std.proofs.Common.{arith}
use Rattle.pcapng.proofs.Handed.{read_more}
use Rattle.pcapng.proofs.converter.read_behind.Goals as goal

pub returns-clause-read : goal.returns-clause-read
returns-clause-read g c = read_more c.read.result _ _ c.args.end _ c.args.block.now c.read.new.buf (omega arith) c.read.ensures.bound c.read.ensures.bytes
