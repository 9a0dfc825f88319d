-- The deliveries that are held so far.
use Rattle.std.specs.Prelude.{ℕ, List, [], slice_get, slice_index_or, Option, None}
use Rattle.std.specs.Option.{option_map_or}
use Rattle.ledger_report.specs.declared.deliveries.Delivered.{Delivered}
use Rattle.ledger_report.specs.declared.per_number.PerNumber.{PerNumber}

-- of a sequence number of the link with this identifier
abbrev pub held_in : List (PerNumber Delivered) → ℕ → ℕ → Option Delivered
held_in links id number = slice_index_or (option_map_or (λ numbers. numbers.held.items) (slice_get links id) []) number None
