use Rattle.std.proofs.Common.{ap, ◌∙◌, refl, rules, arith}
use Rattle.pcapng.proofs.Files.{first_checked, first_other, first_part, first_wrong}
use Rattle.pcapng.specs.declared.block.FirstSection.TheVariants as firsts
use Rattle.pcapng.proofs.block.first_section.Goals as goal

pub returns-in-Err-clause-value : goal.returns-in-Err-clause-value
returns-in-Err-clause-value c = ap firsts.Wrong c.header_fault.ensures ∙ first_wrong c.args.bytes.now c.in-Err.fault c.in-Err.ensures.value

pub returns-then-ne-clause-value : goal.returns-then-ne-clause-value
returns-then-ne-clause-value c = first_other c.args.bytes.now c.in-Ok.begun c.in-Ok.ensures.value (search rules)

pub returns-then-bytes-len-clause-value : goal.returns-then-bytes-len-clause-value
returns-then-bytes-len-clause-value c =
    first_part c.args.bytes.now c.in-Ok.begun c.in-Ok.ensures.value (search rules) (omega arith)

pub returns-in-Ok-check_section-clause-value : goal.returns-in-Ok-check_section-clause-value
returns-in-Ok-check_section-clause-value c =
    first_checked c.args.bytes.now _ c.in-Ok.begun _ c.in-Ok.ensures.value (search rules) (omega arith) refl c.in-Ok-check_section.ensures

pub returns-in-Err-check_section-clause-value : goal.returns-in-Err-check_section-clause-value
returns-in-Err-check_section-clause-value c =
    first_checked c.args.bytes.now _ c.in-Ok.begun _ c.in-Ok.ensures.value (search rules) (omega arith) refl c.in-Err-check_section.ensures
