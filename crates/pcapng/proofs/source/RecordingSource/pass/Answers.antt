use Rattle.pcapng.proofs.Handed.{passes}
use Rattle.pcapng.proofs.source.RecordingSource.pass.Goals as goal

pub returns-in-Ok-clause-bytes : goal.returns-in-Ok-clause-bytes
returns-in-Ok-clause-bytes g c = passes c.args.self.now.converter _ _ c.in-Ok.came c.read.new.buf c.requires.given c.requires.read c.requires.untouched c.in-Ok.ensures.bytes
