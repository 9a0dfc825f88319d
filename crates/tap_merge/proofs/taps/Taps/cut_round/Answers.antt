use Rattle.std.proofs.Common.{◌<◌, List, length, subst, sym}
use Rattle.afdx_frame.specs.Frame.{Frame}
use Rattle.afdx_frame.specs.declared.key.Network.TheVariants.{A, B}
use Rattle.pcap_io.specs.Reader.{reading_of}
use Rattle.ordered_merge.proofs.Following.{follows_cut}
use Rattle.tap_merge.proofs.TwoTaps.{part_of, some_cut}
use Rattle.tap_merge.proofs.taps.Taps.cut_round.Goals as goal

pub returns-in-Ok-clause-merged : goal.returns-in-Ok-clause-merged
returns-in-Ok-clause-merged g c = λ late a b frames_a frames_b cut h. record {
  read_a = h.read_a;
  read_b = h.read_b;
  follows = rw (c.in-Ok.ensures.rest, c.in-Ok.ensures.round) (follows_cut c.args.self.now.merger frames_a frames_b cut c.get.result h.follows);
}

pub returns-in-Ok-clause-some : goal.returns-in-Ok-clause-some
returns-in-Ok-clause-some g c = λ one.
    subst (λ (l : List Frame). 0 < length l) (sym c.in-Ok.ensures.round) (some_cut c.args.self.now.merger c.get.result c.get.ensures.nonzero one)

pub returns-in-Err-clause-stopped : goal.returns-in-Err-clause-stopped
returns-in-Err-clause-stopped g c = λ late a b frames_a frames_b cut h. record {
  frames_a = frames_a;
  frames_b = frames_b;
  rest = c.args.self.now.merger.pending;
  order = h.follows.order;
  read_a = part_of A late a frames_a c.args.self.now.end_a (reading_of g.S.TapSource.remaining g.S.TapSource.failures g.S.TapSource.told c.args.self.now.a) h.read_a;
  read_b = part_of B late b frames_b c.args.self.now.end_b (reading_of g.T.TapSource.remaining g.T.TapSource.failures g.T.TapSource.told c.args.self.now.b) h.read_b;
  fails = (h.read_a.failures, h.read_b.failures);
}
