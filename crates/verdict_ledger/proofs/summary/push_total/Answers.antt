use Rattle.std.proofs.Common.{◌≡◌, ◌++◌, codes}
use Rattle.std.proofs.lemmas.Result.{on_ok_weaker}
use Rattle.verdict_ledger.specs.Text.{total_line, count_field, classes_text, judged_text}
use Rattle.verdict_ledger.proofs.Joining.{join}
use Rattle.verdict_ledger.proofs.summary.push_total.Goals as goal

pub returns : goal.returns
unfolding total_line
returns c =
    let t = c.args.totals.now in
    let start = c.args.text.now.items in
    let after_frames = c.push_count.new.text.items in
    let after_accepted = c.push_count-2.new.text.items in
    let after_classes = c.push_classes.new.text.items in
    let end = c.push_judged.new.text.items in
    let frames = count_field (codes "total frames") t.frames in
    let accepted = count_field (codes " accepted") t.accepted in
    let classes = classes_text t in
    let judged = judged_text t.toolong t.excess t.out t.copy t.delivered in
    let more = λ (h : end ≡ after_classes ++ judged).
    join start after_frames end frames (accepted ++ (classes ++ judged)) c.in_ok-push_count.ensures
    (join after_frames after_accepted end accepted (classes ++ judged) c.in_ok-push_count-2.ensures
    (join after_accepted after_classes end classes judged c.in_ok-push_classes.ensures h)) in
    on_ok_weaker c.push_judged.result more c.push_judged.ensures
