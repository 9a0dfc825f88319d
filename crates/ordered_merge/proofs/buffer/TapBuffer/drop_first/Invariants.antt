use Rattle.std.proofs.Common.{◌≡◌, drop}
use Rattle.ordered_merge.proofs.buffer.TapBuffer.drop_first.Given as goal

abbrev pub invariant-loop : goal.invariant-loop
invariant-loop l = l.self ≡ record l.fn.self { frames = drop l.counter l.fn.self.frames }
