use Rattle.std.proofs.Common.{◌≡◌, ℕ, ◌<◌, ◌≤◌, slice_index, slice_set, arith, ◌∙◌}
use Rattle.std.proofs.Math.ListN.{replicate}
use Rattle.std.proofs.lemmas.List.{get_or-set_other, get_or-replicate}
use Rattle.bpf_loader.proofs.scratch.masks_at_start.Goals as goal

-- all but the first keep what they began with
others : (n start first pc : ℕ) → 1 ≤ pc → pc < n → slice_index (slice_set (replicate n start) 0 first) pc ≡ start
others n start first pc low high =
    get_or-set_other (replicate n start) 0 pc first 0 (λ e. absurd (omega arith)) ∙ get_or-replicate n pc start 0 high

pub returns-clause-others : goal.returns-clause-others
returns-clause-others c = others 4096 65535 0
