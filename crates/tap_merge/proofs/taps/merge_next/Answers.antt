use Rattle.std.proofs.Common.{◌≡◌, ◌++◌, ◌<◌, ◌∙◌, [], Err, List, None, Ok, Result, ap, append-nil, false, inr, length, refl, rules, subst, sym}
use Rattle.std.specs.Result.{is_err}
use Rattle.std.proofs.lemmas.Bool.{false≢true}
use Rattle.afdx_frame.specs.Frame.{Frame}
use Rattle.frame_batch.specs.Batch.{BatchState, batch_frames}
use Rattle.ordered_merge.specs.Buffer.{left_after}
use Rattle.ordered_merge.specs.Merge.{MergerState, fetched_all}
use Rattle.pcap_io.specs.Batches.{GivesFrames}
use Rattle.pcap_io.specs.Reader.{reading_of}
use Rattle.tap_merge.specs.Taps.{Agrees, Merges}
use Rattle.tap_merge.proofs.TwoTaps.{batch_fits, batch_merges, has_frames}
use Rattle.tap_merge.proofs.taps.merge_next.Goals as goal

none_left : (r : Result (Unit {0}) BatchState) → is_err r ≡ false → left_after r ≡ []
none_left (Ok done) e = refl
none_left (Err batch) e = absurd (false≢true (sym e))

pub fetch_all-requires : goal.fetch_all-requires
fetch_all-requires g c =
    let old = reading_of g.S.TapSource.remaining g.S.TapSource.failures g.S.TapSource.told c.args.reader.now in
    let new = reading_of g.S.TapSource.remaining g.S.TapSource.failures g.S.TapSource.told c.next_batch.new.self in
    let gives : GivesFrames old (batch_frames c.in-Ok-Frames.batch) new = search rules in
    (batch_fits c.args.network (batch_frames c.in-Ok-Frames.batch) old new c.args.merger.now c.requires.going c.requires.fits gives).0

pub returns-then-is_err-clause-stopped : goal.returns-then-is_err-clause-stopped
returns-then-is_err-clause-stopped g c =
    let old = reading_of g.S.TapSource.remaining g.S.TapSource.failures g.S.TapSource.told c.args.reader.now in
    let new = reading_of g.S.TapSource.remaining g.S.TapSource.failures g.S.TapSource.told c.next_batch.new.self in
    let fs = batch_frames c.in-Ok-Frames.batch in
    let gives : GivesFrames old fs new = search rules in
    let some : 0 < length c.in-Ok-Frames.batch.left = search rules in (
      (batch_fits c.args.network fs old new c.args.merger.now c.requires.going c.requires.fits gives).2,
      inr (
        fetched_all c.args.merger.now fs,
        batch_merges c.args.network fs old new c.args.merger.now c.requires.going c.requires.fits gives (has_frames c.in-Ok-Frames.batch some),
      ),
    )

pub returns-else-is_err-clause-merged : goal.returns-else-is_err-clause-merged
returns-else-is_err-clause-merged g c =
    let old = reading_of g.S.TapSource.remaining g.S.TapSource.failures g.S.TapSource.told c.args.reader.now in
    let new = reading_of g.S.TapSource.remaining g.S.TapSource.failures g.S.TapSource.told c.next_batch.new.self in
    let fs = batch_frames c.in-Ok-Frames.batch in
    let gives : GivesFrames old fs new = search rules in
    let some : 0 < length c.in-Ok-Frames.batch.left = search rules in
    let (moved, all, is) = c.fetch_all.ensures in
    let same : fs ≡ moved = all ∙ ap (λ (l : List Frame). moved ++ l) (none_left c.fetch_all.result (search rules)) ∙ append-nil moved in
    subst (Merges c.args.network None old new c.args.merger.now) (ap (fetched_all c.args.merger.now) same ∙ sym is)
    (batch_merges c.args.network fs old new c.args.merger.now c.requires.going c.requires.fits gives (has_frames c.in-Ok-Frames.batch some))

pub returns-else-is_err-clause-no_failure : goal.returns-else-is_err-clause-no_failure
returns-else-is_err-clause-no_failure g c =
    let old = reading_of g.S.TapSource.remaining g.S.TapSource.failures g.S.TapSource.told c.args.reader.now in
    let new = reading_of g.S.TapSource.remaining g.S.TapSource.failures g.S.TapSource.told c.next_batch.new.self in
    let gives : GivesFrames old (batch_frames c.in-Ok-Frames.batch) new = search rules in
    (batch_fits c.args.network (batch_frames c.in-Ok-Frames.batch) old new c.args.merger.now c.requires.going c.requires.fits gives).2

pub returns-else-is_err-clause-agrees : goal.returns-else-is_err-clause-agrees
returns-else-is_err-clause-agrees g c =
    let old = reading_of g.S.TapSource.remaining g.S.TapSource.failures g.S.TapSource.told c.args.reader.now in
    let new = reading_of g.S.TapSource.remaining g.S.TapSource.failures g.S.TapSource.told c.next_batch.new.self in
    let fs = batch_frames c.in-Ok-Frames.batch in
    let gives : GivesFrames old fs new = search rules in
    let (moved, all, is) = c.fetch_all.ensures in
    let same : fs ≡ moved = all ∙ ap (λ (l : List Frame). moved ++ l) (none_left c.fetch_all.result (search rules)) ∙ append-nil moved in
    subst (λ (m : MergerState). Agrees c.args.network None new.position m) (ap (fetched_all c.args.merger.now) same ∙ sym is)
    (batch_fits c.args.network fs old new c.args.merger.now c.requires.going c.requires.fits gives).1
