-- Which lines of a ledger a selection takes (this project's profile).
use Rattle.std.specs.Prelude.{◌≡◌, ◌≢◌, ℕ, ◌+◌, ◌-◌, ◌%◌, ◌≤◌, true, List, Option, Some, None, IfSome, bit_and}
use Rattle.std.specs.List.{Contains}
use Rattle.afdx_frame.specs.declared.key.Stamp.{Stamp}
use Rattle.afdx_frame.specs.declared.key.VlId.{VlId}
use Rattle.ledger_text.specs.declared.frame.FrameLine.{FrameLine}
use Rattle.ledger_text.specs.Links.{has_link}
use Rattle.ledger_text.specs.declared.link_set.LinkSet.{LinkSet}
use Rattle.ledger_text.specs.declared.moment.Moment.{Moment}
use Rattle.ledger_text.specs.declared.moment.Moment.TheVariants.{At, Near, Next, OfDay, Since}
use Rattle.ledger_text.specs.declared.selection.Selection.{Selection}
use Rattle.ledger_text.specs.declared.word.Word.{Word}
use Rattle.ledger_text.specs.declared.word.Word.TheVariants as words

-- a day has 86400 seconds, here in nanoseconds
abbrev pub day : ℕ
day = 86400000000000

abbrev pub half_day : ℕ
half_day = 43200000000000

-- Midnight UTC of the day of a timestamp. Timestamps count from a midnight, and leap seconds are not counted.
abbrev pub midnight : Stamp → ℕ
midnight stamp = stamp.0 - stamp.0 % day

-- How long after a moment the first one of a time of day is: it is that moment itself, or comes less than a day later.
abbrev pub until_of_day : ℕ → ℕ → ℕ
until_of_day earliest of_day = (of_day % day + (day - earliest % day)) % day

-- a moment in nanoseconds since 1970, by the timestamp of the ledger's first frame; 0 where it lies before 1970
abbrev pub moment_of : Stamp → Moment → ℕ
moment_of first (At stamp) = stamp.0
moment_of first (Since after) = first.0 + after
moment_of first (Next of_day after before) = ((first.0 + after) + until_of_day (first.0 + after) of_day) - before
moment_of first (OfDay since) = midnight first + since
moment_of first (Near of_day) = (first.0 - half_day) + until_of_day (first.0 - half_day) of_day

-- the line's field has this word
abbrev pub Says : FrameLine → Word → Type 0
Says line (words.Class class) = line.verdict.class ≡ class
Says line (words.Policing policing) = line.verdict.policing ≡ Some policing
Says line (words.Integrity integrity) = line.verdict.integrity ≡ Some integrity
Says line (words.Redundancy redundancy) = line.verdict.redundancy ≡ Some redundancy

-- one of the words is among the line's
abbrev pub SaysOne : FrameLine → List Word → Type 0
SaysOne line words = (word : Word) × Contains words word × Says line word

-- there is a link, and it is in the set
abbrev pub IsIn : LinkSet → Option VlId → Type 0
IsIn set None = ⊥
IsIn set (Some id) = has_link set id.0 ≡ true

-- the line meets each part that is given
pub record IsTaken (selection : Selection) (first : Stamp) (line : FrameLine) : Type 0 where
  pub links : IfSome selection.links (λ set. IsIn set line.link)
  pub network : IfSome selection.network (λ network. line.network ≡ network)
  pub words : IfSome selection.words (λ words. SaysOne line words.items)
  pub from : IfSome selection.from (λ moment. moment_of first moment ≤ line.stamp.0)
  pub to : IfSome selection.to (λ moment. line.stamp.0 ≤ moment_of first moment)
  pub filters : IfSome selection.filters (λ mask. bit_and line.mask mask ≢ 0)
