use Rattle.std.proofs.Common.{Option, subst}
use Rattle.std.proofs.lemmas.Result.{err_from_is_err_and}
use Rattle.afdx_frame.specs.declared.key.Network.TheVariants.{A, B}
use Rattle.pcap_io.specs.Reader.{position_of, reading_of}
use Rattle.pcap_io.specs.declared.recording.Ending.{Ending}
use Rattle.tap_merge.specs.Taps.{HasRead, turns_of}
use Rattle.tap_merge.proofs.TwoTaps.{a_stays, b_stays, goes_on, less_work, merged_a, merged_b, stops_a, stops_b}
use Rattle.tap_merge.proofs.taps.Taps.merge_one.Goals as goal

pub returns-in_err-end-in-Some-A-clause-stopped : goal.returns-in_err-end-in-Some-A-clause-stopped
returns-in_err-end-in-Some-A-clause-stopped g c =
    let taps = c.args.self.now in
    let on = goes_on A taps.end_a (position_of taps.a) taps.merger c.requires.0 (rw c.in-Some-A.field-0-is at c.in-Some-A.ensures).0 in
    let p = err_from_is_err_and c.from_residual.result c.from_residual.ensures.1 in
    rw (p.1, p.2) (λ late a b frames_a frames_b cut h.
    (let s = stops_a c.in_err-end-in-Some-A.field-0.0 late a b frames_a frames_b cut taps.end_b
    (reading_of g.S.TapSource.remaining g.S.TapSource.failures g.S.TapSource.told taps.a)
    (reading_of g.S.TapSource.remaining g.S.TapSource.failures g.S.TapSource.told c.merge_next.new.reader)
    (reading_of g.T.TapSource.remaining g.T.TapSource.failures g.T.TapSource.told taps.b) taps.merger on.2.most
    (subst (λ (end : Option Ending). HasRead A late a frames_a end (reading_of g.S.TapSource.remaining g.S.TapSource.failures g.S.TapSource.told taps.a)) on.0 h.read_a)
    h.read_b h.follows c.in_err-end-in-Some-A.ensures.stopped in
    record { frames_a = s.0; frames_b = frames_b; rest = s.1; order = s.2; read_a = s.3; read_b = s.4; fails = s.5 }))

pub returns-in_err-end-in-Some-B-clause-stopped : goal.returns-in_err-end-in-Some-B-clause-stopped
returns-in_err-end-in-Some-B-clause-stopped g c =
    let taps = c.args.self.now in
    let on = goes_on B taps.end_b (position_of taps.b) taps.merger c.requires.1 (rw c.in-Some-B.field-0-is at c.in-Some-B.ensures).0 in
    let p = err_from_is_err_and c.from_residual-in_err-end-in-Some-B.result c.from_residual-in_err-end-in-Some-B.ensures.1 in
    rw (p.1, p.2) (λ late a b frames_a frames_b cut h.
    (let s = stops_b c.in_err-end-in-Some-B.field-0.0 late a b frames_a frames_b cut taps.end_a
    (reading_of g.T.TapSource.remaining g.T.TapSource.failures g.T.TapSource.told taps.b)
    (reading_of g.T.TapSource.remaining g.T.TapSource.failures g.T.TapSource.told c.merge_next-in-Some-B.new.reader)
    (reading_of g.S.TapSource.remaining g.S.TapSource.failures g.S.TapSource.told taps.a) taps.merger on.2.most
    (subst (λ (end : Option Ending). HasRead B late b frames_b end (reading_of g.T.TapSource.remaining g.T.TapSource.failures g.T.TapSource.told taps.b)) on.0 h.read_b)
    h.read_a h.follows c.in_err-end-in-Some-B.ensures.stopped in
    record { frames_a = frames_a; frames_b = s.0; rest = s.1; order = s.2; read_a = s.3; read_b = s.4; fails = s.5 }))

pub returns-in_ok-end-in-Some-A-clause-merged : goal.returns-in_ok-end-in-Some-A-clause-merged
returns-in_ok-end-in-Some-A-clause-merged g c = λ late a b frames_a frames_b cut h.
    (let taps = c.args.self.now in
    let on = goes_on A taps.end_a (position_of taps.a) taps.merger c.requires.0 (rw c.in-Some-A.field-0-is at c.in-Some-A.ensures).0 in
    let s = merged_a c.in_ok-end-in-Some-A.end late a frames_a frames_b cut
    (reading_of g.S.TapSource.remaining g.S.TapSource.failures g.S.TapSource.told taps.a)
    (reading_of g.S.TapSource.remaining g.S.TapSource.failures g.S.TapSource.told c.merge_next.new.reader) taps.merger c.merge_next.new.merger on.2.most
    (subst (λ (end : Option Ending). HasRead A late a frames_a end (reading_of g.S.TapSource.remaining g.S.TapSource.failures g.S.TapSource.told taps.a)) on.0 h.read_a)
    h.follows c.in_ok-end-in-Some-A.ensures.merged c.in_ok-end-in-Some-A.ensures.no_failure in
    (s.0, frames_b, record { read_a = s.1; read_b = h.read_b; follows = s.2 }))

pub returns-in_ok-end-in-Some-A-clause-goes_on : goal.returns-in_ok-end-in-Some-A-clause-goes_on
returns-in_ok-end-in-Some-A-clause-goes_on g c = λ _.
    (let taps = c.args.self.now in
    let on = goes_on A taps.end_a (position_of taps.a) taps.merger c.requires.0 (rw c.in-Some-A.field-0-is at c.in-Some-A.ensures).0 in
    rw on.0 (less_work A c.in_ok-end-in-Some-A.end
    (reading_of g.S.TapSource.remaining g.S.TapSource.failures g.S.TapSource.told taps.a)
    (reading_of g.S.TapSource.remaining g.S.TapSource.failures g.S.TapSource.told c.merge_next.new.reader) taps.merger c.merge_next.new.merger
    (turns_of taps.end_b (position_of taps.b)) on.2.most c.in_ok-end-in-Some-A.ensures.merged).0)

pub returns-in_ok-end-in-Some-B-clause-merged : goal.returns-in_ok-end-in-Some-B-clause-merged
returns-in_ok-end-in-Some-B-clause-merged g c = λ late a b frames_a frames_b cut h.
    (let taps = c.args.self.now in
    let on = goes_on B taps.end_b (position_of taps.b) taps.merger c.requires.1 (rw c.in-Some-B.field-0-is at c.in-Some-B.ensures).0 in
    let s = merged_b c.in_ok-end-in-Some-B.end late b frames_a frames_b cut
    (reading_of g.T.TapSource.remaining g.T.TapSource.failures g.T.TapSource.told taps.b)
    (reading_of g.T.TapSource.remaining g.T.TapSource.failures g.T.TapSource.told c.merge_next-in-Some-B.new.reader) taps.merger c.merge_next-in-Some-B.new.merger on.2.most
    (subst (λ (end : Option Ending). HasRead B late b frames_b end (reading_of g.T.TapSource.remaining g.T.TapSource.failures g.T.TapSource.told taps.b)) on.0 h.read_b)
    h.follows c.in_ok-end-in-Some-B.ensures.merged c.in_ok-end-in-Some-B.ensures.no_failure in
    (frames_a, s.0, record { read_a = h.read_a; read_b = s.1; follows = s.2 }))

pub returns-in_ok-end-in-Some-B-clause-goes_on : goal.returns-in_ok-end-in-Some-B-clause-goes_on
returns-in_ok-end-in-Some-B-clause-goes_on g c = λ _.
    (let taps = c.args.self.now in
    let on = goes_on B taps.end_b (position_of taps.b) taps.merger c.requires.1 (rw c.in-Some-B.field-0-is at c.in-Some-B.ensures).0 in
    rw on.0 (less_work B c.in_ok-end-in-Some-B.end
    (reading_of g.T.TapSource.remaining g.T.TapSource.failures g.T.TapSource.told taps.b)
    (reading_of g.T.TapSource.remaining g.T.TapSource.failures g.T.TapSource.told c.merge_next-in-Some-B.new.reader) taps.merger c.merge_next-in-Some-B.new.merger
    (turns_of taps.end_a (position_of taps.a)) on.2.most c.in_ok-end-in-Some-B.ensures.merged).1)

pub returns-in_ok-end-in-Some-A-clause-agree : goal.returns-in_ok-end-in-Some-A-clause-agree
returns-in_ok-end-in-Some-A-clause-agree g c =
    let taps = c.args.self.now in (
      c.in_ok-end-in-Some-A.ensures.agrees,
      b_stays c.in_ok-end-in-Some-A.end
          (reading_of g.S.TapSource.remaining g.S.TapSource.failures g.S.TapSource.told taps.a)
          (reading_of g.S.TapSource.remaining g.S.TapSource.failures g.S.TapSource.told c.merge_next.new.reader) taps.merger c.merge_next.new.merger taps.end_b (position_of taps.b)
          c.in_ok-end-in-Some-A.ensures.merged c.requires.1,
    )

pub returns-in_ok-end-in-Some-B-clause-agree : goal.returns-in_ok-end-in-Some-B-clause-agree
returns-in_ok-end-in-Some-B-clause-agree g c =
    let taps = c.args.self.now in (
      a_stays c.in_ok-end-in-Some-B.end
          (reading_of g.T.TapSource.remaining g.T.TapSource.failures g.T.TapSource.told taps.b)
          (reading_of g.T.TapSource.remaining g.T.TapSource.failures g.T.TapSource.told c.merge_next-in-Some-B.new.reader) taps.merger c.merge_next-in-Some-B.new.merger taps.end_a (position_of taps.a)
          c.in_ok-end-in-Some-B.ensures.merged c.requires.0,
      c.in_ok-end-in-Some-B.ensures.agrees,
    )
