-- The words of the verdicts, as ledgers and reports write them (this project's format).
use Rattle.std.specs.Prelude.{ℕ, List, codes}
use Rattle.redundancy.specs.declared.verdict.Redundancy.{Redundancy}
use Rattle.redundancy.specs.declared.verdict.Redundancy.TheVariants.{Deliver, Copy, Both}

abbrev pub redundancy_word : Redundancy → List ℕ
redundancy_word Deliver = codes "deliver"
redundancy_word Copy = codes "copy"
redundancy_word Both = codes "both"
