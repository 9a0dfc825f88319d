use Rattle.std.proofs.Common.{◌≡◌, ◌+◌, ◌++◌, ◌≤◌, drop, length, true}
use Rattle.std.specs.List.{list_all}
use Rattle.std.specs.Option.{is_some}
use Rattle.std.specs.Vec.{vec_capacity, vec_len}
use Rattle.specified.specs.Events.Round.{answered}
use Rattle.specified.proofs.model.round.Round.gather.Given as goal

abbrev pub invariant-loop-answer : goal.invariant-loop-answer
invariant-loop-answer l = record {
  room : vec_len l.output + length l.frames.rest.items ≤ vec_capacity l.output;
  size : length l.frames.rest.items + l.answer-index ≡ length l.answer-items;
  some : list_all is_some (drop l.answer-index l.answer-items) ≡ true;
  all : l.output.items ++ answered l.frames.rest.items (drop l.answer-index l.answer-items)
      ≡ l.fn.output.items ++ answered l.fn.self.frames l.fn.self.answers;
}
