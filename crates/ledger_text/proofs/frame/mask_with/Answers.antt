use Rattle.std.proofs.Common.{rules, ◌≡◌, ◌∙◌, ◌^◌, ◌<◌, nat_lt, is_some, ap, sym}
use Rattle.verdict_ledger.specs.Text.{mask_text}
use Rattle.ledger_text.proofs.Spelling.{one_mask}
use Rattle.ledger_text.proofs.frame.mask_with.Goals as goal

pub returns-else-mask-is_some : goal.returns-else-mask-is_some
returns-else-mask-is_some c = λ x fits text.
    let reads : (c.in_ok-mask.mask < 2 ^ 8) × (mask_text c.in_ok-mask.mask ≡ c.args.field.now) = search rules in
    let same : x ≡ c.in_ok-mask.mask = one_mask x c.in_ok-mask.mask fits.small reads.0 (text ∙ sym reads.1) in
    let differs : nat_lt 0 c.in_ok-mask.mask ≡ is_some c.args.kept → ⊥ = search rules in
    differs (ap (nat_lt 0) (sym same) ∙ fits.names)
