use Rattle.pcapng.proofs.Handed.{gives_source, gives_told}
use Rattle.pcapng.proofs.source.RecordingSource.give.Goals as goal

pub returns-clause-bytes : goal.returns-clause-bytes
returns-clause-bytes g c = gives_source c.args.self.now.converter c.give.new.self _ _ c.give.ensures.gives c.give.ensures.stage c.give.ensures.unread c.give.ensures.section

pub returns-clause-told : goal.returns-clause-told
returns-clause-told g c = gives_told c.args.self.now.converter c.give.new.self _ _ c.give.ensures.gives c.give.ensures.stage c.give.ensures.unread c.give.ensures.section
