use Rattle.pcap_io.specs.Block.{block_remaining, block_source, drawn_bytes, unread_bytes}
use Rattle.recording_files.proofs.Runs.{drawn_ahead}
use Rattle.recording_files.proofs.run.draw_ahead.Goals as goal

pub returns-in-Ok-clause-drawn : goal.returns-in-Ok-clause-drawn
returns-in-Ok-clause-drawn g c = λ all.
    drawn_ahead (unread_bytes c.args.input.now) (drawn_bytes c.draw.new.self) c.args.len (g.F.TapSource.remaining (block_source c.args.input.now))
    (block_remaining g.F.TapSource.remaining c.draw.new.self) (c.in-Ok.ensures.complete all) c.requires.ahead c.in-Ok.ensures.bytes
