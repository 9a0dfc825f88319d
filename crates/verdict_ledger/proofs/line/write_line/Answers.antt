-- Each part ends where the next one starts.
use Rattle.std.proofs.Common.{◌≡◌, [], ap, drop, arith}
use Rattle.std.proofs.Math.ListN.{drop_of_length-le}
use Rattle.vl_judge.specs.Judgement.{Judgement}
use Rattle.verdict_ledger.specs.Text.{address_text, line_text}
use Rattle.verdict_ledger.proofs.line.write_line.Goals as goal

pub returns-clause-written : goal.returns-clause-written
unfolding line_text
returns-clause-written c =
    let nothing : drop 109 c.args.line.now ≡ [] = drop_of_length-le c.args.line.now {i = 109} (omega arith) in
    let class = ap (λ (j : Judgement). address_text j.class c.args.frame.now) c.verdict.view_is in
    rw (
      c.write_key.ensures.written,
      c.write_address-end.ensures.written,
      c.write_verdict-end.ensures.written,
      c.write_optional_field-end.ensures.written,
      c.write_mask-end.ensures.written,
      c.write_length-end.ensures.written,
      c.whole.ensures.value,
      nothing,
      class,
    )
