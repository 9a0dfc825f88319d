-- The line's words, one after another.
use Rattle.std.proofs.Common.{◌≡◌, ◌∙◌, ◌++◌, refl, rules}
use Rattle.std.specs.Prelude.{decimal}
use Rattle.ledger_report.specs.TapLines.{end_start, tap_start}
use Rattle.ledger_report.proofs.TapSteps.{said_by}
use Rattle.ledger_report.proofs.counts_lines.ending_of.Goals as goal
use Rattle.ledger_report.proofs.counts_lines.ending_of.Goals.{in-A, in-B}
use Rattle.ledger_report.proofs.counts_lines.ending_of.Goals.{in-Some-after, in_default-after+in-Some-after-2, in_default-after+in_default-after-2+in-Some-after-3}

pub returns : goal.returns
returns c =
    let words : c.match-network.start.now ≡ tap_start c.args.network = elim c.match-network.branch [
      | in-A w ↦ rw (w.in-A.is, w.start-is) refl
      | in-B w ↦ rw (w.in-B.is, w.start-is) refl
    ] in
    let start : c.args.line.now ≡ tap_start c.args.network ++ c.in-Some.said.now = rw (← words) c.in-Some.ensures in
    let ended : c.in-Some.said.now ≡ end_start c.match-after-2.end.0 ++ c.match-after-2.end.1.now = elim c.match-after-2.branch [
      | in-Some-after w ↦ rw w.end-is w.in-Some-after.ensures
      | in_default-after+in-Some-after-2 w ↦ rw w.end-is w.in-Some-after-2.ensures
      | in_default-after+in_default-after-2+in-Some-after-3 w ↦ rw w.end-is w.in-Some-after-3.ensures
    ] in
    let number : c.as_str.result.now ≡ decimal c.args.frames = c.as_str.ensures.value
    ∙ rw c.new-number.ensures.bytes at c.in_ok-write.ensures.bytes in
    let numbered : c.in-Some.said.now ≡ end_start c.match-after-2.end.0 ++ (decimal c.args.frames ++ c.in-Some-after-4.rest.now) =
    rw (← number) (rw (← c.in-Some-after-4.ensures) ended) in
    said_by c.args.network c.args.frames c.args.line.now c.match-after-2.end.0 c.in-Some.said.now c.in-Some-after-4.rest.now
    c.in_ok-reason_of.field-0 c.map.result start numbered
    c.in_ok-reason_of.ensures (search rules)
