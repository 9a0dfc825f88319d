use Rattle.std.proofs.Common.{ℕ, ◌^◌, ap, ◌∙◌, arith}
use Rattle.pcapng.proofs.Times.{power_of_ten}
use Rattle.pcapng.proofs.interface.power_of_ten.Goals as goal

pub returns-then-power-lt20 : goal.returns-then-power-lt20
returns-then-power-lt20 c = (
  omega arith,
  power_of_ten c.from-power.result c.if-power-lt20.true ∙ ap (λ (n : ℕ). 10 ^ n) c.from-power.ensures,
)
