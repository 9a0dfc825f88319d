-- The lines of a ledger's frames that are held so far, the newest first, to check the next one.
use Rattle.std.specs.Prelude.{◌≡◌, ℕ, List}
use Rattle.std.specs.Option.{option_map}
use Rattle.ledger_text.specs.declared.frame.FrameLine.{FrameLine}
use Rattle.ledger_report.specs.Held.{held_in}
use Rattle.ledger_report.specs.Wrongs.{latest_delivery, latest_key}
use Rattle.ledger_report.specs.declared.deliveries.Delivered.{Delivered}
use Rattle.ledger_report.specs.declared.frame_lines.FrameLines.{FrameLines}

abbrev pub delivered_of : FrameLine → Delivered
delivered_of line = record { network = line.network; stamp = line.stamp.0 }

-- the latest line's place, and the latest delivery of each number of each link
pub record HasTaken (before : List FrameLine) (held : FrameLines) : Type 0 where
  pub latest : held.latest ≡ latest_key before
  pub deliveries : (id number : ℕ) → held_in held.deliveries.links.items id number ≡ option_map delivered_of (latest_delivery id number before)
