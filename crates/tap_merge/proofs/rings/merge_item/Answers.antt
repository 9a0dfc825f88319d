use Rattle.std.proofs.Common.{◌≡◌, ◌++◌, ◌∷◌, ◌∙◌, [], Err, List, Ok, Result, ap, append-nil, false, inr, refl, rules, sym}
use Rattle.std.specs.Result.{is_err}
use Rattle.std.proofs.lemmas.Bool.{false≢true}
use Rattle.afdx_frame.specs.Frame.{Frame}
use Rattle.frame_batch.specs.Batch.{BatchState, batch_frames}
use Rattle.ordered_merge.specs.Buffer.{left_after}
use Rattle.ordered_merge.specs.Merge.{fetched_all}
use Rattle.pcap_io.specs.declared.item.ReadFault.TheVariants.{Device, Failed}
use Rattle.tap_queue.specs.Items.{frame_items, is_over}
use Rattle.tap_queue.specs.declared.item.TapItem.TheVariants as items
use Rattle.tap_queue.specs.Ring.{taken_items}
use Rattle.tap_merge.proofs.RingItems.{can_merge_all, going_after, goes_on, over_with}
use Rattle.tap_merge.proofs.rings.merge_item.Goals as goal

pub fetch_all-requires : goal.fetch_all-requires
fetch_all-requires g c =
    can_merge_all c.args.network c.args.end.now c.args.merger.now (batch_frames c.in-Frames.frames) c.requires (rw c.in-Frames.is at c.in_ok-frames.ensures.next).1

pub returns-in-Failed-Failed-clause-fault : goal.returns-in-Failed-Failed-clause-fault
returns-in-Failed-Failed-clause-fault g c =
    let taken : taken_items c.take_batch.new.self ≡ taken_items c.args.end.now ++ items.Failed Failed ∷ [] = search rules in
    inr (ap is_over taken ∙ over_with (taken_items c.args.end.now) (items.Failed Failed) refl)

pub returns-in-Failed-Failed-clause-lost : goal.returns-in-Failed-Failed-clause-lost
returns-in-Failed-Failed-clause-lost g c = λ _. inr (inr (taken_items c.args.end.now, search rules))

none_left : (r : Result (Unit {0}) BatchState) → is_err r ≡ false → left_after r ≡ []
none_left (Ok done) e = refl
none_left (Err batch) e = absurd (false≢true (sym e))

pub returns-then-is_err-clause-not_failed : goal.returns-then-is_err-clause-not_failed
returns-then-is_err-clause-not_failed g c = λ _ ends.
    (let new = taken_items c.take_batch.new.self in
    let fs = batch_frames c.in-Frames.frames in
    let taken : new ≡ taken_items c.args.end.now ++ frame_items fs = search rules in
    goes_on new Device (going_after (taken_items c.args.end.now) fs new (rw c.in-Frames.is at c.in_ok-frames.ensures.next).0 taken) ends)

pub returns-else-is_err-clause-merged : goal.returns-else-is_err-clause-merged
returns-else-is_err-clause-merged g c =
    let fs = batch_frames c.in-Frames.frames in
    let (moved, all, is) = c.fetch_all.ensures in
    let same : fs ≡ moved = all ∙ ap (λ (l : List Frame). moved ++ l) (none_left c.fetch_all.result (search rules)) ∙ append-nil moved in
    let taken : taken_items c.take_batch.new.self ≡ taken_items c.args.end.now ++ frame_items fs = search rules in (
      fs,
      taken,
      can_merge_all c.args.network c.args.end.now c.args.merger.now fs c.requires (rw c.in-Frames.is at c.in_ok-frames.ensures.next).1,
      is ∙ ap (fetched_all c.args.merger.now) (sym same),
    )
