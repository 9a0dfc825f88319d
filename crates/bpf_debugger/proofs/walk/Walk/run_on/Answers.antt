use Rattle.std.proofs.Common.{◌≡◌, ◌<◌, ◌+◌, None, Some, true, false, arith, rules, sym, ap, ◌∙◌}
use Rattle.std.specs.Prelude.{is_some, slice_get}
use Rattle.bpf_debugger.specs.Chain.{chain_of}
use Rattle.bpf_debugger.specs.Following.{shown_of}
use Rattle.bpf_debugger.specs.Walking.{position_of, next_stop, stands_at}
use Rattle.bpf_debugger.proofs.Walks.{at_last, before_last, room_for, stops_next, passes_next, stays_last, stops_later, on_err}
use Rattle.bpf_debugger.proofs.walk.Walk.run_on.Goals as goal

pub returns-then-is_some-clause-position : goal.returns-then-is_some-clause-position
returns-then-is_some-clause-position c =
    let e : is_some c.args.self.now.answer ≡ true = search rules in
    sym (stays_last c.args.breakpoints.now (chain_of c.args.program.now c.args.frame.now) (position_of c.args.self.now) (at_last c.args.program.now c.args.frame.now c.args.self.now c.requires e))

pub returns-in_err-reserve-clause-memory : goal.returns-in_err-reserve-clause-memory
returns-in_err-reserve-clause-memory c =
    let e : c.args.self.now.answer ≡ None = search rules in
    on_err c.from_residual.result (position_of c.args.self.now < next_stop c.args.breakpoints.now (chain_of c.args.program.now c.args.frame.now) (position_of c.args.self.now)) (stops_later c.args.breakpoints.now (chain_of c.args.program.now c.args.frame.now) (position_of c.args.self.now) (before_last c.args.program.now c.args.frame.now c.args.self.now c.requires e))

pub advance-requires-clause-room : goal.advance-requires-clause-room
advance-requires-clause-room c =
    let walk = c.loop-self.self in
    let on = c.loop-self.invariant.0 in
    let e : walk.answer ≡ None = search rules in
    omega (arith, before_last c.args.program.now c.args.frame.now walk on e, room_for c.args.program.now c.args.frame.now walk on, walk.undos.ok.0)

pub loop-self-smaller : goal.loop-self-smaller
loop-self-smaller c =
    let e : c.loop-self.self.answer ≡ None = search rules in
    omega (arith, before_last c.args.program.now c.args.frame.now c.loop-self.self c.loop-self.invariant.0 e, c.advance.ensures.position)

pub loop-self-preserved : goal.loop-self-preserved
loop-self-preserved c =
    let p = c.args.program.now in
    let frame = c.args.frame.now in
    let bps = c.args.breakpoints.now in
    let m = position_of c.loop-self.self in
    let o = shown_of c.advance.new.self.state c.advance.new.self.answer in
    let there : slice_get (chain_of p frame) (m + 1) ≡ Some o = ap (slice_get (chain_of p frame)) (sym c.advance.ensures.position) ∙ c.advance.ensures.on.entry in
    let moves : stands_at bps o ≡ false = sym c.stands_at.ensures ∙ c.if-stands_at.false in
    let next : next_stop bps (chain_of p frame) (position_of c.advance.new.self) ≡ next_stop bps (chain_of p frame) (m + 1) = ap (next_stop bps (chain_of p frame)) c.advance.ensures.position in
    (c.advance.ensures.on, next ∙ passes_next bps (chain_of p frame) m o there moves ∙ c.loop-self.invariant.1, omega (arith, c.loop-self.invariant.2, c.advance.ensures.room))

pub returns-after-loop-self-clause-position : goal.returns-after-loop-self-clause-position
returns-after-loop-self-clause-position c =
    let walk = c.loop-self.self in
    let e : is_some walk.answer ≡ true = search rules in
    sym (stays_last c.args.breakpoints.now (chain_of c.args.program.now c.args.frame.now) (position_of walk) (at_last c.args.program.now c.args.frame.now walk c.loop-self.invariant.0 e)) ∙ c.loop-self.invariant.1

pub returns-then-stands_at-clause-position : goal.returns-then-stands_at-clause-position
returns-then-stands_at-clause-position c =
    let p = c.args.program.now in
    let frame = c.args.frame.now in
    let bps = c.args.breakpoints.now in
    let m = position_of c.loop-self.self in
    let o = shown_of c.advance.new.self.state c.advance.new.self.answer in
    let there : slice_get (chain_of p frame) (m + 1) ≡ Some o = ap (slice_get (chain_of p frame)) (sym c.advance.ensures.position) ∙ c.advance.ensures.on.entry in
    let stops : stands_at bps o ≡ true = sym c.stands_at.ensures ∙ c.if-stands_at.true in
    c.advance.ensures.position ∙ sym (stops_next bps (chain_of p frame) m o there stops) ∙ c.loop-self.invariant.1
