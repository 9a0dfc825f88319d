use Rattle.std.proofs.Common.{arith}
use Rattle.cut_run.specs.Finder.{finding_of}
use Rattle.cut_run.specs.Places.{place_at}
use Rattle.cut_run.proofs.Finding.{found_passed, reads_ahead}
use Rattle.cut_run.proofs.finder.FrameFinder.find.Goals as goal

pub returns-then-number-self-clause-found : goal.returns-then-number-self-clause-found
returns-then-number-self-clause-found g c =
    rw c.ok_or.ensures.value
    (λ o frames floor h above. found_passed o frames floor (place_at c.args.stamp.0 c.args.number) (finding_of g.S.TapSource c.args.self.now)
    c.forget_below.new.passed c.take_at.new.passed h above c.forget_below.ensures c.take_at.ensures.taken c.if-number-self.true c.take_at.result c.take_at.ensures.found)

pub returns-clause-found : goal.returns-clause-found
returns-clause-found g c =
    λ o frames floor h above. c.read_to.ensures.found o frames
    (reads_ahead o frames floor (place_at c.args.stamp.0 c.args.number) (finding_of g.S.TapSource c.args.self.now)
    c.forget_below.new.passed h above c.forget_below.ensures c.if-number-self.false)
    (let count = h.counted in omega arith)
