-- A line that is no version's head.
use Rattle.std.proofs.Common.{ℕ, List, ◌≢◌}
use Rattle.verdict_ledger.specs.declared.version.LedgerVersion.{LedgerVersion}
use Rattle.verdict_ledger.specs.declared.version.LedgerVersion.TheVariants.{Two, Three}
use Rattle.ledger_text.specs.Order.{head_line}

pub no_head : (line : List ℕ) → line ≢ head_line Two → line ≢ head_line Three → (version : LedgerVersion) → line ≢ head_line version
no_head line two three Two = two
no_head line two three Three = three
