use Rattle.std.proofs.Common.{◌+◌, ◌∙◌, ◌++◌, ◌∷◌, [], List, length, length-append, drop, sym, subst, ap, append_assoc, arith}
use Rattle.vl_judge.specs.Lanes.{FollowsOn, StandsAfter}
use Rattle.vl_judge.specs.Verdicts.{verdicts}
use Rattle.vl_judge.proofs.Rounds.{all_taken, last_key_next, longer, next_follows}
use Rattle.vl_judge.proofs.lanes.Lanes.judge_frames.Goals as goal

pub loop-index-preserved : goal.loop-index-preserved
loop-index-preserved c =
    let round = c.args.round.now in
    let n = c.loop-index.index in
    let frame = c.frame.result in
    let next = next_follows c.loop-index.self.last round n frame (omega (arith, c.loop-index-test.true, c.len-index-end.ensures)) c.frame.ensures c.loop-index.invariant.follows in
    record {
      follows = subst (λ last. FollowsOn last (drop (n + 1) round)) (sym c.judge.ensures.last) next.1;
      last_is = c.judge.ensures.last ∙ sym (last_key_next _ round n frame (omega (arith, c.loop-index-test.true, c.len-index-end.ensures)) c.frame.ensures);
      verdicts_are = λ vl_table frames stands.
          ap (verdicts vl_table) (sym (longer frames round n frame (omega (arith, c.loop-index-test.true, c.len-index-end.ensures)) c.frame.ensures))
          ∙ c.judge.ensures.verdict vl_table _ (c.loop-index.invariant.after vl_table frames stands)
          ∙ ap (λ (said : List _). said ++ c.judge.result ∷ []) (c.loop-index.invariant.verdicts_are vl_table frames stands)
          ∙ append_assoc (verdicts vl_table frames) c.loop-index.said.items (c.judge.result ∷ [])
          ∙ ap (λ (said : List _). verdicts vl_table frames ++ said) (sym c.in_ok-push.ensures.items);
      count = ap length c.in_ok-push.ensures.items ∙ length-append c.loop-index.said.items (c.judge.result ∷ []) ∙ ap (λ n. n + 1) c.loop-index.invariant.count;
      after = λ vl_table frames stands.
          subst (StandsAfter c.judge.new.self vl_table) (longer frames round n frame (omega (arith, c.loop-index-test.true, c.len-index-end.ensures)) c.frame.ensures)
          (c.judge.ensures.after vl_table _ (c.loop-index.invariant.after vl_table frames stands));
    }

pub returns-clause-after : goal.returns-clause-after
returns-clause-after c = λ vl_table frames stands.
    subst (λ said. StandsAfter c.loop-index.self vl_table (frames ++ said)) (all_taken c.args.round.now c.loop-index.index (omega (arith, c.loop-index-test.false, c.len-index-end.ensures)))
    (c.loop-index.invariant.after vl_table frames stands)
