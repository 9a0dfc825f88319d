-- The verdicts are those of the frames before the index, and the lanes know these frames.
use Rattle.std.proofs.Common.{◌≡◌, ◌++◌, List, length, take, drop}
use Rattle.afdx_frame.specs.Frame.{Frame}
use Rattle.vl_config.specs.Document.{VlTable}
use Rattle.vl_judge.specs.Lanes.{FollowsOn, StandsAfter, last_key}
use Rattle.vl_judge.specs.Verdicts.{verdicts}
use Rattle.vl_judge.proofs.lanes.Lanes.judge_frames.Given as goal

abbrev pub invariant-loop-index : goal.invariant-loop-index
invariant-loop-index l = record {
  follows : FollowsOn l.self.last (drop l.index l.round);
  last_is : l.self.last ≡ last_key l.fn.self.last (take l.index l.round);
  verdicts_are : (vl_table : VlTable) (frames : List Frame) → StandsAfter l.fn.self vl_table frames →
      verdicts vl_table (frames ++ take l.index l.round) ≡ verdicts vl_table frames ++ l.said.items;
  count : length l.said.items ≡ l.index;
  after : (vl_table : VlTable) (frames : List Frame) → StandsAfter l.fn.self vl_table frames →
      StandsAfter l.self vl_table (frames ++ take l.index l.round);
}
