-- The lines that calls add to a ledger of transits.
use Rattle.std.specs.Prelude.{◌≡◌, ℕ, List, [], ◌++◌}
use Rattle.transit_run.specs.Counts.{IsCountOf}
use Rattle.transit_run.specs.Line.{lines_text}
use Rattle.transit_run.specs.declared.line.Line.{Line}
use Rattle.transit_run.specs.declared.ledger.Ledger.{Ledger}

-- No line was written.
pub record IsEmpty (ledger : Ledger) : Type 0 where
  pub text : ledger.text.items ≡ []
  pub counts : IsCountOf ledger.counts []

-- These lines were written, whole and in order, after the text, and counted.
pub record Adds (old new : Ledger) (more : List Line) : Type 0 where
  pub text : new.text.items ≡ old.text.items ++ lines_text more
  pub counts : (lines : List Line) → IsCountOf old.counts lines → IsCountOf new.counts (lines ++ more)

-- Some lines were.
pub record Grows (old new : Ledger) : Type 0 where
  pub more : List Line
  pub adds : Adds old new more

-- The text goes on after what it was.
pub record GoesOn (old new : List ℕ) : Type 0 where
  pub added : List ℕ
  pub text : new ≡ old ++ added
