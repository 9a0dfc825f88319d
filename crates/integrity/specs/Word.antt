-- The words of the verdicts, as ledgers and reports write them (this project's format).
use Rattle.std.specs.Prelude.{ℕ, List, codes}
use Rattle.integrity.specs.declared.verdict.Integrity.{Integrity}
use Rattle.integrity.specs.declared.verdict.Integrity.TheVariants.{First, Reset, Next, Skip, Off, Out}

abbrev pub integrity_word : Integrity → List ℕ
integrity_word First = codes "first"
integrity_word Reset = codes "reset"
integrity_word Next = codes "next"
integrity_word Skip = codes "skip"
integrity_word Off = codes "off"
integrity_word Out = codes "out"
