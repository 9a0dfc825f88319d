-- The faults of a ledger's line of a frame, against the table and the lines of frames before it, the newest first (this project's
-- profile). Times are in nanoseconds.
use Rattle.std.specs.Prelude.{◌≡◌, ℕ, ◌-◌, ◌==◌, nat_lt, Bool, true, false, not, ◌&&◌, ◌||◌, List, [], ◌∷◌, find, Option, Some, None, is_some, is_none, unwrap_or, Result, Ok, Err, ⊤}
use Rattle.std.specs.Option.{option_and_then, option_map_or}
use Rattle.std.specs.Ordering.{is_lt}
use Rattle.afdx_frame.specs.Frame.{key_cmp}
use Rattle.afdx_frame.specs.declared.key.Key.{Key}
use Rattle.afdx_frame.specs.declared.key.Network.{Network}
use Rattle.integrity.specs.declared.verdict.Integrity.{Integrity}
use Rattle.integrity.specs.declared.verdict.Integrity.TheVariants as integrity
use Rattle.redundancy.specs.declared.verdict.Redundancy.{Redundancy}
use Rattle.redundancy.specs.declared.verdict.Redundancy.TheVariants as redundancy
use Rattle.vl_config.specs.Class.{link_with}
use Rattle.vl_config.specs.Link.{VirtualLink}
use Rattle.vl_config.specs.declared.class.Class.TheVariants as class
use Rattle.vl_judge.specs.Judgement.{is_copy, is_delivered}
use Rattle.verdict_ledger.specs.Tally.{is_class}
use Rattle.ledger_text.specs.declared.frame.FrameLine.{FrameLine}
use Rattle.ledger_report.specs.Counts.{is_same_network}
use Rattle.ledger_report.specs.declared.fault.Refusal.{Refusal}
use Rattle.ledger_report.specs.declared.fault.Refusal.TheVariants as refusals
use Rattle.ledger_report.specs.declared.fault.WrongLine.{WrongLine}
use Rattle.ledger_report.specs.declared.fault.WrongLine.TheVariants as wrongs

-- ---- the order of lines

-- where a line's frame stands in the order of both networks: by timestamp, then network, then its index
abbrev pub key_of : FrameLine → Key
key_of line = record { stamp = line.stamp; network = line.network; number = line.number }

-- that of the latest line
abbrev pub latest_key : List FrameLine → Option Key
latest_key [] = None
latest_key (line ∷ before) = Some (key_of line)

-- It isn't later than the latest one.
abbrev pub is_unordered : Option Key → Key → Bool
is_unordered None key = false
is_unordered (Some latest) key = not (is_lt (key_cmp latest key))

-- ---- the link of a line

-- that of the table, if it has the line's
abbrev pub link_for : List VirtualLink → FrameLine → Option VirtualLink
link_for links line = option_and_then (link_with links) line.link

-- The line says that the table doesn't have its link.
abbrev pub is_unconfigured : FrameLine → Bool
is_unconfigured line = is_class class.Unconfigured line.verdict.class

-- The frame wasn't checked.
abbrev pub says_off : Integrity → Bool
says_off integrity.Off = true
says_off _ = false

-- The frame wasn't compared with those of the other network.
abbrev pub says_both : Redundancy → Bool
says_both redundancy.Both = true
says_both _ = false

-- off in the line and on in the table, or the other way round
abbrev pub departs : Bool → Bool → Bool
departs on true = on
departs on false = not on

-- So is integrity checking or redundancy management, where the line has a word of it.
abbrev pub is_off_against : VirtualLink → FrameLine → Bool
is_off_against link line =
    option_map_or (λ word. departs link.integrity (says_off word)) line.verdict.integrity false
    || option_map_or (λ word. departs link.redundancy (says_both word)) line.verdict.redundancy false

-- ---- a copy and its delivery

abbrev pub number_of : FrameLine → ℕ
number_of line = unwrap_or line.sequence 0

-- a line that delivers the frame of this sequence number of the link with this identifier
abbrev pub delivers : ℕ → ℕ → FrameLine → Bool
delivers id number line =
    is_delivered line.verdict && (option_map_or (λ held. held.0 == id) line.link false && (number_of line == number))

abbrev pub latest_delivery : ℕ → ℕ → List FrameLine → Option FrameLine
latest_delivery id number lines = find (delivers id number) lines

-- It came on the other network.
abbrev pub is_beside : Network → Option FrameLine → Bool
is_beside network delivery = option_map_or (λ line. not (is_same_network line.network network)) delivery false

-- how much later than it a time is
abbrev pub skew_to : ℕ → Option FrameLine → ℕ
skew_to stamp delivery = stamp - option_map_or (λ line. line.stamp.0) delivery 0

-- ---- the fault

-- with a line of this link, where this is the latest delivery of its number
abbrev pub is_link_wrong : VirtualLink → Option FrameLine → FrameLine → WrongLine → Bool
is_link_wrong link delivery line wrongs.Off = is_off_against link line
is_link_wrong link delivery line wrongs.Copy = is_copy line.verdict && not (is_beside line.network delivery)
is_link_wrong link delivery line wrongs.Skew = is_copy line.verdict && nat_lt link.skew (skew_to line.stamp.0 delivery)
is_link_wrong link delivery line wrong = false

-- with a line after these
abbrev pub is_wrong : List VirtualLink → List FrameLine → FrameLine → WrongLine → Bool
is_wrong links before line wrongs.Order = is_unordered (latest_key before) (key_of line)
is_wrong links before line wrongs.UnknownLink = is_some line.link && (not (is_unconfigured line) && is_none (link_for links line))
is_wrong links before line wrongs.KnownLink = is_unconfigured line && is_some (link_for links line)
is_wrong links before line wrong =
    option_map_or (λ link. is_link_wrong link (latest_delivery link.id.0 (number_of line) before) line wrong) (link_for links line) false

-- in the order in which it is told
abbrev pub frame_wrongs : List WrongLine
frame_wrongs = wrongs.Order ∷ wrongs.UnknownLink ∷ wrongs.KnownLink ∷ wrongs.Off ∷ wrongs.Copy ∷ wrongs.Skew ∷ []

-- the first that holds, or nothing
abbrev pub wrong_of : List VirtualLink → List FrameLine → FrameLine → Option WrongLine
wrong_of links before line = find (is_wrong links before line) frame_wrongs

-- Nothing is wrong with any of these lines, against those before it.
abbrev pub AreRight : List VirtualLink → List FrameLine → Type 0
AreRight links [] = ⊤
AreRight links (line ∷ before) = (wrong_of links before line ≡ None) × AreRight links before

-- A line is taken where nothing is wrong with it, and refused for what is wrong; or there is no memory.
abbrev pub TellsWrong : Option WrongLine → Result (Unit {0}) Refusal → Type 0
TellsWrong wrong (Ok _) = wrong ≡ None
TellsWrong wrong (Err (refusals.Wrong told)) = wrong ≡ Some told
TellsWrong wrong (Err refusals.Memory) = ⊤
