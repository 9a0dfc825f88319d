use Rattle.std.proofs.Common.{◌≡◌, [], ◌∷◌, ◌++◌, length, None}
use Rattle.bpf_debugger.specs.Chain.{chain_of}
use Rattle.bpf_debugger.specs.Records.{record_of}
use Rattle.bpf_debugger.specs.Following.{Follows}
use Rattle.bpf_debugger.proofs.Chains.{inside}
use Rattle.bpf_debugger.proofs.Walks.{went_on, ended}
use Rattle.bpf_debugger.proofs.walk.Walk.advance.Goals as goal

pub of-undo-requires : goal.of-undo-requires
of-undo-requires c =
    let w = c.args.self.now in
    let on : Follows c.args.program.now (chain_of c.args.program.now c.args.frame.now) w.undos.items w.state None = rw (← c.requires.goes_on) c.requires.on in
    inside c.args.program.now c.args.frame.now on.loaded (length w.undos.items) w.state on.entry

pub step-requires : goal.step-requires
step-requires c =
    let w = c.args.self.now in
    let on : Follows c.args.program.now (chain_of c.args.program.now c.args.frame.now) w.undos.items w.state None = rw (← c.requires.goes_on) c.requires.on in
    inside c.args.program.now c.args.frame.now on.loaded (length w.undos.items) w.state on.entry

pub returns-in-On-clause-on : goal.returns-in-On-clause-on
returns-in-On-clause-on c =
    let w = c.args.self.now in
    let on : Follows c.args.program.now (chain_of c.args.program.now c.args.frame.now) w.undos.items w.state None = rw (← c.requires.goes_on) c.requires.on in
    let items : c.push.new.self.items ≡ w.undos.items ++ record_of c.args.program.now w.state ∷ [] = rw (c.unwrap.ensures, c.of-undo.ensures.record) at c.push.ensures.items in
    rw (items, c.requires.goes_on) (went_on c.args.program.now c.args.frame.now w.undos.items w.state c.in-On.state on (rw (c.view.ensures.value, c.whole.ensures.value) at c.in-On.ensures))

pub returns-in-Done-clause-on : goal.returns-in-Done-clause-on
returns-in-Done-clause-on c =
    let w = c.args.self.now in
    let on : Follows c.args.program.now (chain_of c.args.program.now c.args.frame.now) w.undos.items w.state None = rw (← c.requires.goes_on) c.requires.on in
    let items : c.push.new.self.items ≡ w.undos.items ++ record_of c.args.program.now w.state ∷ [] = rw (c.unwrap.ensures, c.of-undo.ensures.record) at c.push.ensures.items in
    rw items (ended c.args.program.now c.args.frame.now w.undos.items w.state c.in-Done.answer on (rw (c.view.ensures.value, c.whole.ensures.value) at c.in-Done.ensures))
