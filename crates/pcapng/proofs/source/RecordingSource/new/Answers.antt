use Rattle.pcapng.proofs.Handed.{starts_whole}
use Rattle.pcapng.proofs.source.RecordingSource.new.Goals as goal

pub returns-in-Ok-clause-whole : goal.returns-in-Ok-clause-whole
returns-in-Ok-clause-whole g c =
    starts_whole c.in-Ok.converter c.args.choice (g.S.TapSource.remaining c.args.source) (g.met.S.TapSource.gives_bytes c.args.source)
    c.in-Ok.ensures.start c.in-Ok.ensures.pending c.in-Ok.ensures.unread c.in-Ok.ensures.known
