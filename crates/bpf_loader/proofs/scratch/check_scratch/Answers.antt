use Rattle.std.proofs.Common.{arith, subst}
use Rattle.std.proofs.lemmas.Result.{err_from_is_err_and}
use Rattle.bpf_loader.proofs.Pass.{Tracks, start_tracks, passed_all, unpacked, can_carry, carry_tracks, carry_finds, not_unlisted}
use Rattle.bpf_loader.proofs.scratch.check_scratch.Goals as goal

pub loop-pc-init : goal.loop-pc-init
loop-pc-init c =
    start_tracks c.args.insns.now c.masks_at_start-masks.result c.masks_at_start-masks.ensures.size c.masks_at_start-masks.ensures.first c.masks_at_start-masks.ensures.others

pub unreachable-requires : goal.unreachable-requires
unreachable-requires c = not_unlisted c.args.insns.now c.loop-pc.pc _ c.requires.no_insn_fault c.loop-pc-test.true c.in_default.ensures.unlisted

pub carry-requires : goal.carry-requires
carry-requires c =
    can_carry c.args.insns.now c.loop-pc.masks c.loop-pc.pc c.in-Some.insn c.requires.has_length c.requires.no_insn_fault c.requires.returns
    (unpacked c.args.insns.now c.loop-pc.pc _ c.in-Some.insn c.loop-pc-test.true c.in-Some.ensures.found) c.loop-pc.invariant

pub returns-in_err-carry : goal.returns-in_err-carry
returns-in_err-carry c =
    let p = err_from_is_err_and c.from_residual.result c.from_residual.ensures.1 in
    rw (p.1, p.2)
    (carry_finds c.args.insns.now c.loop-pc.masks c.loop-pc.pc c.in-Some.insn c.requires.has_length c.requires.no_insn_fault c.requires.returns
    (unpacked c.args.insns.now c.loop-pc.pc _ c.in-Some.insn c.loop-pc-test.true c.in-Some.ensures.found) c.loop-pc.invariant
    c.in_err-carry.field-0.0 c.in_err-carry.ensures)

pub loop-pc-preserved : goal.loop-pc-preserved
loop-pc-preserved c =
    carry_tracks c.args.insns.now c.loop-pc.masks c.loop-pc.pc c.in-Some.insn c.requires.has_length c.requires.no_insn_fault c.requires.returns
    (unpacked c.args.insns.now c.loop-pc.pc _ c.in-Some.insn c.loop-pc-test.true c.in-Some.ensures.found) c.loop-pc.invariant
    c.carry.new.masks c.in_ok-carry.ensures

pub returns : goal.returns
returns c = passed_all c.args.insns.now c.loop-pc.masks (subst (Tracks c.args.insns.now c.loop-pc.masks) (omega arith) c.loop-pc.invariant)
