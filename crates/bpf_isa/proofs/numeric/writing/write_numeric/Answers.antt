use Rattle.std.proofs.Common.{◌≡◌, List, take, All, subst, ap, ◌∙◌, arith}
use Rattle.std.specs.String.{string_bytes}
use Rattle.std.proofs.lemmas.Grind.{common_steps}
use Rattle.std.proofs.lemmas.List.{take_all}
use Rattle.std.proofs.lemmas.List.Elements.{All-more}
use Rattle.bpf_isa.specs.declared.packed.Packed.{Packed}
use Rattle.bpf_isa.specs.Numeric.{numeric_text, IsPacked, numeric_of}
use Rattle.bpf_isa.proofs.NumericLaw.{reads_back}
use Rattle.bpf_isa.proofs.numeric.writing.write_numeric.Goals as goal

pub loop-insn-preserved : goal.loop-insn-preserved
loop-insn-preserved c = record {
  text = grind (arith, common_steps);
  fits = All-more IsPacked _ _ _ c.loop-insn-test.true c.loop-insn.invariant.fits c.push_insn.ensures.fits;
}

pub returns-clause-reads_back : goal.returns-clause-reads_back
returns-clause-reads_back c few =
    let insns = c.args.insns.now in
    let whole : take c.loop-insn.insn-index insns ≡ insns = take_all c.loop-insn.insn-index insns c.loop-insn-test.false in
    let text : string_bytes c.loop-insn.text ≡ numeric_text insns = rw whole at c.loop-insn.invariant.text in
    let fits : All IsPacked insns = subst (λ (ws : List Packed). All IsPacked ws) whole c.loop-insn.invariant.fits in
    ap numeric_of text ∙ reads_back insns few fits
