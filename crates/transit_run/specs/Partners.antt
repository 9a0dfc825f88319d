-- The partners that lines tell, as far as equal bytes go.
use Rattle.std.specs.Prelude.{◌≡◌, ℕ, ◌≤◌, List, [], ◌∷◌, ◌++◌, length, map, Option, Some}
use Rattle.transit_match.specs.Pairing.{Row}
use Rattle.transit_run.specs.Held.{Mark}
use Rattle.transit_run.specs.Ledger.{Adds}
use Rattle.transit_run.specs.Waits.{IsDone, Waits, alike, alikes, state_of}
use Rattle.transit_run.specs.declared.line.Line.{Line}
use Rattle.transit_run.specs.declared.line.Line.TheVariants.{Before, After}
use Rattle.transit_run.specs.declared.pass.Pass.{Pass}
use Rattle.transit_run.specs.declared.rows.Partner.{Partner}

-- of the frames that went in whose lines these are
abbrev pub partners_of : List Line → List (Option Partner)
partners_of [] = []
partners_of (Before line ∷ lines) = line.partner ∷ partners_of lines
partners_of (After line ∷ lines) = partners_of lines

-- These lines were written, where no frame before the moment follows. The alike partners of the frames that were held are those that
-- the lines tell, and then those of the frames that are held still; so they stay those of the rows.
pub record TellsAlike (old new : Pass) (now : Option ℕ) (more : List Line) : Type 0 where
  pub adds : Adds old.ledger new.ledger more
  pub window : new.pairing.window ≡ old.pairing.window
  pub lanes : length (state_of new.pairing).queues ≡ length (state_of old.pairing).queues
  pub alikes : alikes (state_of old.pairing) ≡ map alike (partners_of more) ++ alikes (state_of new.pairing)
  pub done : (moment : ℕ) → now ≡ Some moment → IsDone moment (state_of old.pairing) → IsDone moment (state_of new.pairing)
  pub waits : (moment floor : ℕ) (told : List (Option Partner)) (rows : List (Row (Option (List ℕ)))) (outs : List Mark) →
      now ≡ Some moment → IsDone moment (state_of old.pairing) → Waits (state_of old.pairing) floor told rows outs →
      Waits (state_of new.pairing) floor (told ++ partners_of more) rows outs

-- Some were.
abbrev pub Alike : Pass → Pass → Option ℕ → Type 0
Alike old new now = (more : List Line) × TellsAlike old new now more

-- All was written that is certain where no frame before the moment follows.
pub record SettlesAlike (old new : Pass) (now : Option ℕ) : Type 0 where
  pub more : List Line
  pub adds : Adds old.ledger new.ledger more
  pub window : new.pairing.window ≡ old.pairing.window
  pub lanes : length (state_of new.pairing).queues ≡ length (state_of old.pairing).queues
  pub alikes : alikes (state_of old.pairing) ≡ map alike (partners_of more) ++ alikes (state_of new.pairing)
  pub waits : (moment floor : ℕ) (told : List (Option Partner)) (rows : List (Row (Option (List ℕ)))) (outs : List Mark) →
      now ≡ Some moment → floor ≤ moment → Waits (state_of old.pairing) floor told rows outs →
      Waits (state_of new.pairing) moment (told ++ partners_of more) rows outs
