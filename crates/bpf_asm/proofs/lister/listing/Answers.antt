use Rattle.std.proofs.Common.{◌≡◌, ◌+◌, length, ap, sym, subst, arith}
use Rattle.std.specs.Prelude.{string_bytes}
use Rattle.bpf_asm.proofs.Lines.{Listed, listed_next, always_listed, all_source}
use Rattle.bpf_asm.proofs.lister.listing.Goals.{in-Some+in_ok-push_line, in_default}
use Rattle.bpf_asm.proofs.lister.listing.Goals as goal

-- src/lister.rt:206:5
pub loop-at-preserved : goal.loop-at-preserved
loop-at-preserved c = elim c.match-insn_of.branch [
  | in-Some+in_ok-push_line w ↦
      subst (λ text. Listed c.args.program.now (c.loop-at.at + 1) (string_bytes text)) (sym w.text-is)
      (subst (Listed c.args.program.now (c.loop-at.at + 1)) (sym w.in_ok-push_line.ensures)
      (listed_next c.args.program.now c.insns-packed-items.result.now c.loop-at.at _ w.in-Some.insn (string_bytes c.loop-at.text)
      c.insns-packed-items.ensures.value c.insns-packed-items.ensures.loaded c.loop-at-test.true w.in-Some.ensures.found w.in-Some.ensures.fits c.loop-at.invariant))
  | in_default w ↦ absurd (always_listed c.args.program.now c.insns-packed-items.result.now c.loop-at.at _
      c.insns-packed-items.ensures.value c.insns-packed-items.ensures.loaded c.loop-at-test.true w.in_default.ensures.unlisted)
]

-- src/lister.rt:210:1
pub returns-clause-source : goal.returns-clause-source
returns-clause-source c =
    let same : length c.insns-packed-items.result.now ≡ length c.args.program.now = ap length c.insns-packed-items.ensures.value in
    let end : c.loop-at.at ≡ length c.args.program.now = grind (arith, same, c.loop-at.auto.at-end, c.loop-at-test.false) in
    all_source c.args.program.now (string_bytes c.loop-at.text) c.insns-packed-items.ensures.loaded
    (subst (λ n. Listed c.args.program.now n (string_bytes c.loop-at.text)) end c.loop-at.invariant)
