use Rattle.std.proofs.Common.{◌≡◌, ◌<◌, ◌+◌, min, None, true, arith, rules}
use Rattle.std.specs.Prelude.{is_some}
use Rattle.bpf_debugger.specs.Chain.{chain_of, last_of}
use Rattle.bpf_debugger.specs.Walking.{position_of}
use Rattle.bpf_debugger.proofs.Walks.{at_last, before_last, within, room_for, on_err}
use Rattle.bpf_debugger.proofs.walk.Walk.forward.Goals as goal
use Rattle.bpf_debugger.proofs.walk.Walk.forward.Goals.{then-count-eq0-via-then-count-eq0, then-count-eq0-via-else-count-eq0+then-is_some}

pub returns-then-count-eq0-clause-position : goal.returns-then-count-eq0-clause-position
returns-then-count-eq0-clause-position c =
    elim c.then-count-eq0.branch [
      | then-count-eq0-via-then-count-eq0 w ↦ omega (arith, within c.args.program.now c.args.frame.now c.args.self.now c.requires)
      | then-count-eq0-via-else-count-eq0+then-is_some w ↦
          let e : is_some c.args.self.now.answer ≡ true = search rules in
          omega (arith, at_last c.args.program.now c.args.frame.now c.args.self.now c.requires e)
    ]

pub returns-in_err-reserve-clause-memory : goal.returns-in_err-reserve-clause-memory
returns-in_err-reserve-clause-memory c =
    let e : c.args.self.now.answer ≡ None = search rules in
    let lt : position_of c.args.self.now < last_of (chain_of c.args.program.now c.args.frame.now) = before_last c.args.program.now c.args.frame.now c.args.self.now c.requires e in
    on_err c.from_residual.result (position_of c.args.self.now < min (position_of c.args.self.now + c.args.count) (last_of (chain_of c.args.program.now c.args.frame.now))) (omega arith)

pub advance-requires-clause-room : goal.advance-requires-clause-room
advance-requires-clause-room c =
    let walk = c.loop-left.self in
    let on = c.loop-left.invariant.0 in
    let e : walk.answer ≡ None = search rules in
    omega (arith, before_last c.args.program.now c.args.frame.now walk on e, room_for c.args.program.now c.args.frame.now walk on, walk.undos.ok.0)

pub returns-else-is_none-clause-position : goal.returns-else-is_none-clause-position
returns-else-is_none-clause-position c =
    let walk = c.loop-left.self in
    let e : is_some walk.answer ≡ true = search rules in
    let last : last_of (chain_of c.args.program.now c.args.frame.now) ≡ position_of walk = at_last c.args.program.now c.args.frame.now walk c.loop-left.invariant.0 e in
    omega (arith, last, c.loop-left.invariant.1)

pub returns-after-loop-left-clause-position : goal.returns-after-loop-left-clause-position
returns-after-loop-left-clause-position c =
    let walk = c.loop-left.self in
    omega (arith, within c.args.program.now c.args.frame.now walk c.loop-left.invariant.0, c.loop-left.invariant.1)
