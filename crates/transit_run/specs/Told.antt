-- The line of a frame, and what it tells (this project's profile) by the options of the pass and by the times that the recordings cover.
use Rattle.std.specs.Prelude.{◌≡◌, ℕ, ◌+◌, ◌-◌, ◌^◌, Bool, true, false, ◌&&◌, ◌||◌, nat_le, min, max, ℤ, pos, neg_ℤ, int_lt, Option, Some, None, if◌then◌else◌}
use Rattle.vl_config.specs.declared.class.Class.{Class}
use Rattle.vl_config.specs.declared.class.Class.TheVariants as class
use Rattle.transit_policing.specs.declared.observed.Policed.{Policed}
use Rattle.transit_policing.specs.declared.observed.Policed.TheVariants as policed
use Rattle.transit_run.specs.Counts.{capped}
use Rattle.transit_run.specs.Outcome.{fate_of, origin_of}
use Rattle.transit_run.specs.declared.facts.Span.{Span}
use Rattle.transit_run.specs.declared.line.BeforeLine.{BeforeLine}
use Rattle.transit_run.specs.declared.line.Line.{Line}
use Rattle.transit_run.specs.declared.line.Line.TheVariants.{Before, After}
use Rattle.transit_run.specs.declared.options.Options.{Options}
use Rattle.transit_run.specs.declared.outcome.Origin.{Origin}
use Rattle.transit_run.specs.declared.outcome.Pair.{Pair}
use Rattle.transit_run.specs.declared.outcome.Pair.TheVariants as pair
use Rattle.transit_run.specs.declared.outcome.Passage.{Passage}
use Rattle.transit_run.specs.declared.reach.Reach.{Reach}
use Rattle.transit_run.specs.declared.rows.Head.{Head}
use Rattle.transit_run.specs.declared.rows.Partner.{Partner}

-- a time as a signed number of 64 bits, at most the greatest
abbrev pub limited : ℕ → ℤ
limited time = pos (min time (2 ^ 63 - 1))

-- how long a frame took: its moment of coming out less that of going in
abbrev pub transit_by : ℕ → ℕ → ℤ
transit_by went_in came_out =
    if nat_le went_in came_out then limited (came_out - went_in) else neg_ℤ (limited (went_in - came_out))

abbrev pub transit_of : ℕ → Option Partner → Option ℤ
transit_of moment None = None
transit_of moment (Some partner) = Some (transit_by moment partner.moment)

abbrev pub pair_by : Option ℕ → Pair
pair_by None = pair.Alike
pair_by (Some differs) = pair.Changed

-- how a frame is paired
abbrev pub pair_of : Option Partner → Pair
pair_of None = pair.Without
pair_of (Some partner) = pair_by partner.differs

abbrev pub is_cut : Class → Bool
is_cut class.Cut = true
is_cut _ = false

-- the classes of which the switch discards each frame
abbrev pub is_discarded : Class → Bool
is_discarded class.Regular = false
is_discarded class.Cut = false
is_discarded _ = true

abbrev pub is_excess : Option Policed → Bool
is_excess (Some policed.Excess) = true
is_excess _ = false

abbrev pub is_unsure : Option Policed → Bool
is_unsure (Some policed.Unsure) = true
is_unsure _ = false

-- a transit above the bound
abbrev pub is_over : Option ℤ → Option ℕ → Bool
is_over (Some transit) (Some bound) = int_lt (pos bound) transit
is_over _ _ = false

-- a recording's span goes on to the last frame that was read
abbrev pub span_to : ℕ → Option Span → Option Span
span_to read None = None
span_to read (Some span) = Some (record { first = span.first; last = max span.last read })

-- a recording covers the time from so much before a moment to so much after it
abbrev pub covers : Option Span → ℕ → ℕ → ℕ → Bool
covers None moment before after = false
covers (Some span) moment before after = nat_le (capped (span.first + before)) moment && nat_le (capped (moment + after)) span.last

abbrev pub is_covered_out : Options → Reach → ℕ → Bool
is_covered_out options reach moment = covers (span_to reach.read_out reach.out_span) moment options.early options.within

abbrev pub is_covered_in : Options → Reach → ℕ → Bool
is_covered_in options reach moment = covers (span_to reach.read_in reach.in_span) moment options.within options.early

-- The knowledge of a frame that went in: what its line tells, and whether the recording of the port out covers its window.
pub record IsKnown (options : Options) (reach : Reach) (head : Head) (partner : Option Partner) (policed : Option Policed)
    (transit : Option ℤ) (passage : Passage) : Type 0 where
  pub cut : passage.is_cut ≡ is_cut head.class
  pub pair : passage.pair ≡ pair_of partner
  pub discarded : passage.is_discarded ≡ (is_discarded head.class || is_excess policed)
  pub unsure : passage.is_unsure ≡ is_unsure policed
  pub slow : passage.is_slow ≡ is_over transit options.bound
  pub covered : passage.is_covered ≡ is_covered_out options reach head.moment

-- The line tells how long the frame took and its fate.
pub record TellsBefore (options : Options) (reach : Reach) (line : BeforeLine) : Type 0 where
  pub transit : line.transit ≡ transit_of line.head.moment line.partner
  pub passage : Passage
  pub known : IsKnown options reach line.head line.partner line.policed line.transit passage
  pub fate : line.fate ≡ fate_of passage

-- The line of a frame that came out tells its origin, and that by whether the recording of the port in covers its window.
pub record TellsOrigin (options : Options) (reach : Reach) (head : Head) (moment : ℕ) (origin : Origin) : Type 0 where
  pub is_twice : Bool
  pub is_elsewhere : Bool
  pub fits : origin ≡ origin_of (is_cut head.class) is_twice (is_covered_in options reach moment) is_elsewhere

abbrev pub Tells : Options → Reach → Line → Type 0
Tells options reach (Before line) = TellsBefore options reach line
Tells options reach (After line) = TellsOrigin options reach line.head line.moment line.origin
