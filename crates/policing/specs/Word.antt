-- The words of the verdicts, as ledgers and reports write them (this project's format).
use Rattle.std.specs.Prelude.{ℕ, List, codes}
use Rattle.policing.specs.declared.verdict.Policing.{Policing}
use Rattle.policing.specs.declared.verdict.Policing.TheVariants.{Within, Excess}

abbrev pub policing_word : Policing → List ℕ
policing_word Within = codes "within"
policing_word Excess = codes "excess"
