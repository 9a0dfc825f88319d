use Rattle.std.proofs.Common.{◌≡◌, ℕ, Bool, List, drop, Option, nat_eq, sym, ap, ◌∙◌}
use Rattle.std.proofs.lemmas.List.{take_rest}
use Rattle.pcap_io.specs.Layout.{number_in}
use Rattle.pcapng.specs.Interface.{described_by}
use Rattle.pcapng.specs.declared.interface.Offset.{Offset}
use Rattle.pcapng.specs.declared.interface.Resolution.{Resolution}
use Rattle.pcapng.proofs.interface.Interface.described.Goals as goal

same_parts : (number : ℕ) (a b : Bool) (n m : Option (List ℕ)) (r s : Option Resolution) (o p : Option Offset) → a ≡ b → n ≡ m → r ≡ s → o ≡ p
    → described_by number a n r o ≡ described_by number b m s p
same_parts number a b n m r s o p e f g h =
    ap (λ (x : Bool). described_by number x n r o) e
    ∙ (ap (λ (x : Option (List ℕ)). described_by number b x r o) f
    ∙ (ap (λ (x : Option Resolution). described_by number b m x o) g ∙ ap (λ (x : Option Offset). described_by number b m s x) h))

pub returns-clause-value : goal.returns-clause-value
returns-clause-value c =
    let link : number_in c.args.order 2 (drop 8 c.args.block.now) ≡ c.read_u16.result =
    ap (number_in c.args.order 2) (sym (take_rest c.args.block.now 8)) ∙ sym c.read_u16.ensures in
    same_parts c.args.number _ _ _ _ _ _ _ _ (ap (λ (n : ℕ). nat_eq n 1) link) (sym c.name_in.ensures) (sym c.in-Some.ensures)
    (sym c.in-Some-offset_in.ensures)
