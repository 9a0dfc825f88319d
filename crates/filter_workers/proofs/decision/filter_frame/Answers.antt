use Rattle.std.proofs.Common.{◌≡◌, ◌∙◌, ◌-◌, ap, ap₂, get_or}
use Rattle.bpf_machine.specs.Run.{answer_of}
use Rattle.filter_workers.specs.Filters.{answer_for}
use Rattle.filter_workers.proofs.Masks.{mask_step, answer_step, small_step}
use Rattle.filter_workers.proofs.decision.filter_frame.Goals as goal

answered : (c : goal.After-max-answer) → c.answer_for-one.result ≡ answer_for (get_or c.args.programs.now (c.loop-index.index - 1) c.index-programs-index.result) c.args.frame.now
answered c =
    c.answer_for-one.ensures ∙ ap₂ (answer_of c.index-programs-index.result) c.view.ensures.value c.whole.ensures.value
    ∙ ap (λ p. answer_for p c.args.frame.now) c.index-programs-index.is

-- src/decision.rt
pub loop-index-preserved : goal.loop-index-preserved
loop-index-preserved c = record {
  mask = mask_step c.args.programs.now c.args.frame.now c.loop-index.index c.index-programs-index.result c.loop-index-test.true c.loop-index.auto.index c.loop-index.mask c.answer_for-one.result c.accepts_bit.result c.loop-index.invariant.mask (answered c) c.accepts_bit.ensures.bit;
  answer = c.max-answer.ensures ∙ answer_step c.args.programs.now c.args.frame.now c.loop-index.index c.index-programs-index.result c.loop-index-test.true c.loop-index.auto.index c.loop-index.answer c.answer_for-one.result c.loop-index.invariant.answer (answered c);
  small = small_step c.args.programs.now c.args.frame.now c.loop-index.index c.index-programs-index.result c.loop-index-test.true c.loop-index.auto.index c.loop-index.mask c.accepts_bit.result c.accepts_bit.ensures.small c.loop-index.invariant.small;
}
