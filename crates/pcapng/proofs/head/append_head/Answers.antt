use Rattle.std.proofs.Common.{◌++◌, List, ℕ, ap, ◌∙◌}
use Rattle.pcapng.specs.Blocks.{descriptions_of, section_header}
use Rattle.pcapng.proofs.Joining.{joined_two}
use Rattle.pcapng.proofs.head.append_head.Goals as goal

pub returns-clause-head : goal.returns-clause-head
unfolding section_header
returns-clause-head c =
    let room = c.in_ok-reserve.ensures.items in
    let first = c.append.ensures.items ∙ ap (λ (x : List ℕ). x ++ section_header) room in
    joined_two c.args.bytes.now.items section_header (descriptions_of c.args.interfaces) _ _ first
    (c.append-2.ensures.items ∙ ap (λ (x : List ℕ). c.append.new.bytes.items ++ x) c.descriptions_of-descriptions.ensures)
