use Rattle.std.proofs.Common.{◌≡◌, ◌∙◌, List, ap, length, subst, sym, rules}
use Rattle.std.proofs.lemmas.Bool.{false≢true}
use Rattle.std.proofs.lemmas.Result.{err_from_is_err_and}
use Rattle.afdx_frame.specs.Frame.{Frame}
use Rattle.afdx_frame.specs.declared.key.Network.TheVariants.{A, B}
use Rattle.ordered_merge.specs.Merge.{cut_frames}
use Rattle.pcap_io.specs.Reader.{position_of}
use Rattle.tap_merge.specs.Taps.{HasEnded, HasMerged}
use Rattle.tap_merge.specs.declared.taps.Taps.{Taps}
use Rattle.tap_merge.proofs.TwoTaps.{has_met, none_left}
use Rattle.tap_merge.proofs.taps.Taps.next_round.Goals as goal
use Rattle.tap_merge.proofs.taps.Taps.next_round.Goals.{then-not-has_round+in_ok-merge_one+else-not-branch, else-not-has_round}

pub returns-then-not-branch-clause-ended : goal.returns-then-not-branch-clause-ended
returns-then-not-branch-clause-ended g c = λ _.
    (let old = c.args.self.now in
    let over = c.in_ok-merge_one.ensures.ended (search rules) in
    let both : HasEnded old = subst (λ (taps : Taps g.row.S.Denot g.row.T.Denot). HasEnded taps) over.1 over.0 in
    let few : length (cut_frames old.merger 1) ≡ 1 → ⊥ =
    λ one. false≢true (sym c.if-not-has_round.true ∙ c.has_round.ensures.1 one) in (
      over.0,
      ap (λ (taps : Taps g.row.S.Denot g.row.T.Denot). taps.merger.pending) over.1
          ∙ none_left old.merger (has_met A old.end_a (position_of old.a) old.merger c.requires.0 both.0)
          (has_met B old.end_b (position_of old.b) old.merger c.requires.1 both.1) few,
    ))

pub returns-in_err-round-clause-stopped : goal.returns-in_err-round-clause-stopped
returns-in_err-round-clause-stopped g c =
    let p = err_from_is_err_and c.from_residual-in_err-round.result c.from_residual-in_err-round.ensures.1 in
    rw (p.1, p.2) (λ late a b frames_a frames_b cut h.
    (let m : (more_a : List Frame) × (more_b : List Frame)
    × HasMerged g.S.TapSource g.T.TapSource late a b more_a more_b cut c.if-not-has_round.self = elim c.if-not-has_round.branch [
      | then-not-has_round+in_ok-merge_one+else-not-branch w ↦ rw w.self-is (w.in_ok-merge_one.ensures.merged late a b frames_a frames_b cut h)
      | else-not-has_round w ↦ (frames_a, frames_b, rw w.self-is h)
    ] in
    c.in_err-round.ensures.stopped late a b m.0 m.1 cut m.2))

pub returns-clause-merged : goal.returns-clause-merged
returns-clause-merged g c = λ late a b frames_a frames_b cut h.
    (let m : (more_a : List Frame) × (more_b : List Frame)
    × HasMerged g.S.TapSource g.T.TapSource late a b more_a more_b cut c.if-not-has_round.self = elim c.if-not-has_round.branch [
      | then-not-has_round+in_ok-merge_one+else-not-branch w ↦ rw w.self-is (w.in_ok-merge_one.ensures.merged late a b frames_a frames_b cut h)
      | else-not-has_round w ↦ (frames_a, frames_b, rw w.self-is h)
    ] in
    (m.0, m.1, c.in_ok-round.ensures.merged late a b m.0 m.1 cut m.2))
