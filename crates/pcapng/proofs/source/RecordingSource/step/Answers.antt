use Rattle.pcapng.proofs.Handed.{hands_source, hands_told}
use Rattle.pcapng.proofs.source.RecordingSource.step.Goals as goal

pub returns-clause-kept : goal.returns-clause-kept
returns-clause-kept g c = hands_source c.args.self.now.converter c.step.new.self _ c.step.ensures.kept

pub returns-clause-told : goal.returns-clause-told
returns-clause-told g c = hands_told c.args.self.now.converter c.step.new.self _ c.step.ensures.kept
