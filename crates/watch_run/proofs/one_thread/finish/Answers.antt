use Rattle.std.proofs.Common.{subst}
use Rattle.pcap_io.specs.Reader.{reading_of}
use Rattle.afdx_frame.specs.declared.key.Network.TheVariants as networks
use Rattle.tap_merge.specs.Taps.{HasRead}
use Rattle.watch_run.proofs.Returned.{stopped_at_the_end, watched}
use Rattle.watch_run.proofs.one_thread.finish.Goals as goal

pub returns-in-Ok-clause-watched : goal.returns-in-Ok-clause-watched
returns-in-Ok-clause-watched g c = λ ps vl_table before h number.
    watched ps vl_table before _ h.frames_a h.frames_b h.cut c.in-Some-Some.end_a c.in-Some-Some.end_b c.in-Ok.tally c.args.taps.merger
    (reading_of g.S.TapSource.remaining g.S.TapSource.failures g.S.TapSource.told c.args.taps.a) (reading_of g.T.TapSource.remaining g.T.TapSource.failures g.T.TapSource.told c.args.taps.b) _ _ (record {
      a_left = c.into_sources-a.ensures.a;
      b_left = c.into_sources-a.ensures.b;
      a_failures = c.into_sources-a.ensures.a_failures;
      b_failures = c.into_sources-a.ensures.b_failures;
    })
    (subst (λ end. HasRead networks.A vl_table.late before.a h.frames_a end (reading_of g.S.TapSource.remaining g.S.TapSource.failures g.S.TapSource.told c.args.taps.a)) c.in-Some-Some.is-0 h.merged.read_a)
    (subst (λ end. HasRead networks.B vl_table.late before.b h.frames_b end (reading_of g.T.TapSource.remaining g.T.TapSource.failures g.T.TapSource.told c.args.taps.b)) c.in-Some-Some.is-1 h.merged.read_b)
    h.merged.follows c.requires.all
    (c.in-Ok.ensures.finished ps vl_table before.capture before.ledger h.cut h.written) number

pub returns-in-Err-clause-aborted : goal.returns-in-Err-clause-aborted
returns-in-Err-clause-aborted g c = rw c.new.ensures (λ ps vl_table before h.
    (let stops = stopped_at_the_end c.in-Err.field-0.fault ps vl_table before _ h.frames_a h.frames_b h.cut c.in-Some-Some.end_a c.in-Some-Some.end_b c.args.taps.merger
    (reading_of g.S.TapSource.remaining g.S.TapSource.failures g.S.TapSource.told c.args.taps.a) (reading_of g.T.TapSource.remaining g.T.TapSource.failures g.T.TapSource.told c.args.taps.b) _ _ (record {
      a_left = c.into_sources-a.ensures.a;
      b_left = c.into_sources-a.ensures.b;
      a_failures = c.into_sources-a.ensures.a_failures;
      b_failures = c.into_sources-a.ensures.b_failures;
    })
    (subst (λ end. HasRead networks.A vl_table.late before.a h.frames_a end (reading_of g.S.TapSource.remaining g.S.TapSource.failures g.S.TapSource.told c.args.taps.a)) c.in-Some-Some.is-0 h.merged.read_a)
    (subst (λ end. HasRead networks.B vl_table.late before.b h.frames_b end (reading_of g.T.TapSource.remaining g.T.TapSource.failures g.T.TapSource.told c.args.taps.b)) c.in-Some-Some.is-1 h.merged.read_b)
    h.merged.follows c.requires.all
    (c.in-Err.ensures.stopped ps vl_table before.capture before.ledger h.cut h.written) in
    (stops.fails, stops.run, stops.stops)))
