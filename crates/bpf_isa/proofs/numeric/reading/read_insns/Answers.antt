use Rattle.std.proofs.Common.{◌≡◌, Err, sym, ap, ◌∙◌, arith}
use Rattle.std.proofs.lemmas.Result.{err_from_is_err_and}
use Rattle.bpf_isa.specs.declared.numeric.fault.NumericFault.{NumericFault}
use Rattle.bpf_isa.specs.declared.numeric.fault.NumericFault.TheVariants.{Memory}
use Rattle.bpf_isa.specs.Numeric.{Item, numbers_in}
use Rattle.bpf_isa.proofs.NumericProgram.{word_no_memory}
use Rattle.bpf_isa.proofs.NumericInsns.{kept_one, passed_one, fault_of_one, more_than_said, fewer_than_said, as_many_as_said}
use Rattle.bpf_isa.proofs.numeric.reading.read_insns.Goals as goal
use Rattle.bpf_isa.proofs.numeric.reading.read_insns.Goals.{then-surplus-via-then-surplus, then-surplus-via-else-surplus+then-len-count-2}

pub returns-in_err-insn-clause-exact : goal.returns-in_err-insn-clause-exact
returns-in_err-insn-clause-exact c =
    let item = c.in-Some.item in
    let first : Item = ((item.first.at, item.first.bytes.now), numbers_in item.others.at item.others.bytes.now) in
    let p = err_from_is_err_and c.from_residual-in_err-insn.result c.from_residual-in_err-insn.ensures.1 in
    rw (p.1, p.2) (fault_of_one c.args.end _ _ _ _ _ _ first c.in_err-insn.field-0.0 c.loop-item.invariant c.in-Some.ensures.items (sym c.in_err-insn.ensures))

pub returns-in_err-insn-clause-memory : goal.returns-in_err-insn-clause-memory
returns-in_err-insn-clause-memory c =
    let item = c.in-Some.item in
    let fault : NumericFault = c.in_err-insn.field-0.0 in
    let p = err_from_is_err_and c.from_residual-in_err-insn.result c.from_residual-in_err-insn.ensures.1 in
    λ e.
    let none : fault ≡ Memory = cc (p.1, p.2, e) in
    absurd (word_no_memory (item.first.at, item.first.bytes.now) (numbers_in item.others.at item.others.bytes.now) (sym c.in_err-insn.ensures ∙ ap (λ (x : NumericFault). Err x) none))

pub loop-item-preserved-in_ok-push : goal.loop-item-preserved-in_ok-push
loop-item-preserved-in_ok-push c =
    let item = c.in-Some.item in
    let first : Item = ((item.first.at, item.first.bytes.now), numbers_in item.others.at item.others.bytes.now) in
    rw c.in_ok-push.ensures.items (kept_one _ _ _ _ _ _ first c.in_ok-insn.insn c.loop-item.invariant c.in-Some.ensures.items (sym c.in_ok-insn.ensures) (omega (arith, c.if-len-count.true)))

pub loop-item-preserved : goal.loop-item-preserved
loop-item-preserved c =
    let item = c.in-Some.item in
    let first : Item = ((item.first.at, item.first.bytes.now), numbers_in item.others.at item.others.bytes.now) in
    passed_one _ _ _ _ _ c.loop-item.surplus first c.in_ok-insn.insn c.loop-item.invariant c.in-Some.ensures.items (sym c.in_ok-insn.ensures) (omega (arith, c.if-len-count.false))

pub returns-then-surplus-clause-exact : goal.returns-then-surplus-clause-exact
returns-then-surplus-clause-exact c =
    elim c.then-surplus.branch [
      | then-surplus-via-then-surplus w ↦ more_than_said c.args.end _ _ _ _ _ c.loop-item.invariant c.in_default.ensures.items w.if-surplus.true
      | then-surplus-via-else-surplus+then-len-count-2 w ↦ fewer_than_said c.args.end _ _ _ _ _ c.loop-item.invariant c.in_default.ensures.items (omega (arith, w.if-len-count-2.true))
    ]

pub returns-clause-exact : goal.returns-clause-exact
returns-clause-exact c = as_many_as_said c.args.end _ _ _ _ _ c.loop-item.invariant c.in_default.ensures.items c.if-surplus.false (omega (arith, c.if-len-count-2.false))
