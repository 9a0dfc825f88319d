-- The lines that options of `cut` select, by their texts (this project's profile).
use Rattle.std.specs.Prelude.{◌≡◌, ◌⊎◌, ◌↔◌, ℕ, ◌+◌, ◌-◌, Bool, true, false, nat_lt, nat_le, min, List, Option, None, Some, Result, Ok, Err, flat_map, option_map, if◌then◌else◌, ⊤}
use Rattle.std.specs.List.{All}
use Rattle.std.specs.Str.{bytes_eq}
use Rattle.std.specs.Prelude.{codes}
use Rattle.afdx_frame.specs.declared.key.Network.{Network}
use Rattle.afdx_frame.specs.declared.key.Network.TheVariants as networks
use Rattle.vl_config.specs.Document.{VlTable}
use Rattle.ledger_text.specs.LinkList.{IsLinkSetFault, IsRight, IsTakenByOne}
use Rattle.ledger_text.specs.Links.{has_link}
use Rattle.ledger_text.specs.Mask.{IsMaskText}
use Rattle.ledger_text.specs.Selection.{day, until_of_day}
use Rattle.ledger_text.specs.Words.{IsWordFault, items_of, words_named}
use Rattle.ledger_text.specs.declared.link_list.ItemFault.{ItemFault}
use Rattle.ledger_text.specs.declared.link_list.LinkSetFault.TheVariants as links
use Rattle.ledger_text.specs.declared.link_set.LinkSet.{LinkSet}
use Rattle.ledger_text.specs.declared.moment.Moment.{Moment}
use Rattle.ledger_text.specs.declared.moment.Moment.TheVariants as moments
use Rattle.ledger_text.specs.declared.word.Word.{Word}
use Rattle.ledger_text.specs.declared.word_list.WordFault.TheVariants as words
use Rattle.command_line.specs.Numbers.{text_of}
use Rattle.command_line.specs.Moment.{moment_in, span_in}
use Rattle.command_line.specs.declared.arguments.CutArguments.{CutArguments}
use Rattle.command_line.specs.declared.fault.Fault.{Fault}
use Rattle.command_line.specs.declared.fault.Fault.TheVariants as fault
use Rattle.command_line.specs.declared.fault.SelectionOption.{SelectionOption}
use Rattle.command_line.specs.declared.fault.SelectionOption.TheVariants as options
use Rattle.command_line.specs.declared.moment.MomentText.{MomentText}
use Rattle.command_line.specs.declared.moment.MomentText.TheVariants as texts
use Rattle.command_line.specs.declared.selection.Last.{Last}
use Rattle.command_line.specs.declared.selection.Last.TheVariants as last
use Rattle.cut_run.specs.declared.fault.CutFault.TheVariants as cut

-- the links that one of the text's items takes, each of which is right; without a text no set
abbrev pub AreLinks : Option VlTable → Option (List ℕ) → Option LinkSet → Type 0
AreLinks vl_table None None = ⊤
AreLinks vl_table (Some text) (Some set) =
    ((id : ℕ) → (has_link set id ≡ true) ↔ IsTakenByOne vl_table (items_of text) id) × All (IsRight vl_table) (items_of text)
AreLinks vl_table _ _ = ⊥

-- the first wrong item of the text, or no memory for the set
abbrev pub IsLinksFault : Option VlTable → Option (List ℕ) → Fault → Type 0
IsLinksFault vl_table (Some text) (fault.Selection options.Link item) = (why : ItemFault) × IsLinkSetFault vl_table (items_of text) (links.Item item why)
IsLinksFault vl_table (Some text) (fault.Cut cut.Memory) = ⊤
IsLinksFault vl_table _ _ = ⊥

-- the network with this letter; another text than A is B's letter, since there are two
abbrev pub network_in : List ℕ → Network
network_in text = if bytes_eq text (codes "A") then networks.A else networks.B

-- the words for which the text's items stand
abbrev pub words_in : List ℕ → List Word
words_in text = flat_map words_named (items_of text)

-- the first item of the text that is no word, or no memory for them
abbrev pub IsWordsFault : Option (List ℕ) → Fault → Type 0
IsWordsFault (Some text) (fault.Selection options.Verdict item) = IsWordFault (items_of text) (words.Item item)
IsWordsFault (Some text) (fault.Cut cut.Memory) = ⊤
IsWordsFault _ _ = ⊥

-- ---- spans of time

abbrev pub first_or_fault : Option MomentText → Result (Option MomentText) Fault
first_or_fault (Some moment) = Ok (Some moment)
first_or_fault None = Err (fault.Selection options.From 0)

-- the moment of the text of `--from`, if it is given
abbrev pub first_in : Option (List ℕ) → Result (Option MomentText) Fault
first_in None = Ok None
first_in (Some text) = first_or_fault (moment_in text)

abbrev pub to_or_fault : Option MomentText → Result Last Fault
to_or_fault (Some moment) = Ok (last.At moment)
to_or_fault None = Err (fault.Selection options.To 0)

abbrev pub span_or_fault : Option ℕ → Result Last Fault
span_or_fault (Some length) = Ok (last.After length)
span_or_fault None = Err (fault.Selection options.Span 0)

-- the end by the text of `--to`, or where there is none by that of `--span`
abbrev pub last_in : Option (List ℕ) → Option (List ℕ) → Result Last Fault
last_in (Some text) span = to_or_fault (moment_in text)
last_in None (Some text) = span_or_fault (span_in text)
last_in None None = Ok last.Open

-- the end of a span lies before its start: of two timestamps, or two times after the ledger's first frame, the later one stands first
abbrev pub ends_before : Option MomentText → Last → Bool
ends_before (Some (texts.At from)) (last.At (texts.At to)) = nat_lt to from
ends_before (Some (texts.Since from)) (last.At (texts.Since to)) = nat_lt to from
ends_before _ _ = false

-- no timestamp is higher
abbrev pub capped : ℕ → ℕ
capped n = min n 18446744073709551615

-- a time of day is so much later on the same day
abbrev pub is_within_day : ℕ → ℕ → Bool
is_within_day from length = nat_lt (capped (from + length)) day

-- The first moment of a span from a time of day on: it is one of the day of the ledger's first frame, or where a span within a day is over before that
-- frame, of the next day. `Next` with the span's end and its length says so. Without an end that is a time of day or a length, it is the first such
-- moment from twelve hours before that frame on.
abbrev pub first_of_day : ℕ → Last → Moment
first_of_day from (last.At (texts.OfDay to)) = if nat_le from to then moments.Next to 0 (to - from) else moments.OfDay from
first_of_day from (last.After length) = if is_within_day from length then moments.Next (capped (from + length)) 0 length else moments.OfDay from
first_of_day from _ = moments.Near from

abbrev pub first_of : Option MomentText → Last → Option Moment
first_of None end = None
first_of (Some (texts.At n)) end = Some (moments.At (record { 0 = n }))
first_of (Some (texts.Since n)) end = Some (moments.Since n)
first_of (Some (texts.OfDay n)) end = Some (first_of_day n end)

-- the first moment of this time of day that isn't earlier than the span's first one, or where there is none than the ledger's first frame
abbrev pub last_of_day : Option MomentText → ℕ → Moment
last_of_day (Some (texts.At from)) to = moments.At (record { 0 = capped (from + until_of_day from to) })
last_of_day (Some (texts.Since after)) to = moments.Next to after 0
last_of_day (Some (texts.OfDay from)) to = if nat_lt to from then moments.OfDay (capped (to + day)) else moments.Next to 0 0
last_of_day None to = moments.Next to 0 0

-- so long after the span's first moment; where there is none, after the ledger's first frame
abbrev pub last_after : Option MomentText → ℕ → Moment
last_after None length = moments.Since length
last_after (Some (texts.At from)) length = moments.At (record { 0 = capped (from + length) })
last_after (Some (texts.Since after)) length = moments.Since (capped (after + length))
last_after (Some (texts.OfDay from)) length =
    if is_within_day from length then moments.Next (capped (from + length)) 0 0 else moments.OfDay (capped (from + length))

abbrev pub last_of : Option MomentText → Last → Option Moment
last_of from last.Open = None
last_of from (last.At (texts.At n)) = Some (moments.At (record { 0 = n }))
last_of from (last.At (texts.Since n)) = Some (moments.Since n)
last_of from (last.At (texts.OfDay n)) = Some (last_of_day from n)
last_of from (last.After length) = Some (last_after from length)

-- the moments of a span, by the texts of `--from`, `--to` and `--span`
pub record IsSpan (from_text to_text span_text : Option (List ℕ)) (from to : Option Moment) : Type 0 where
  pub first : Option MomentText
  pub end : Last
  pub first_is : Ok first ≡ first_in from_text
  pub end_is : Ok end ≡ last_in to_text span_text
  pub order : ends_before first end ≡ false
  pub from_is : from ≡ first_of first end
  pub to_is : to ≡ last_of first end

-- the first of the texts that says nothing, or that of `--to`, whose moment lies before that of `--from`
abbrev pub IsSpanFault : Option (List ℕ) → Option (List ℕ) → Option (List ℕ) → Fault → Type 0
IsSpanFault from_text to_text span_text f =
    (first_in from_text ≡ Err f)
    ⊎ ((last_in to_text span_text ≡ Err f)
    ⊎ ((f ≡ fault.Selection options.To 0) × ((first : Option MomentText) × (end : Last) × (Ok first ≡ first_in from_text)
    × (Ok end ≡ last_in to_text span_text) × (ends_before first end ≡ true))))

-- the mask that the text writes, if it is given
abbrev pub IsMask : Option (List ℕ) → Option ℕ → Type 0
IsMask None mask = mask ≡ None
IsMask (Some text) (Some mask) = IsMaskText text mask
IsMask (Some text) None = ⊥

-- the text writes no mask
abbrev pub IsMaskFault : Option (List ℕ) → Fault → Type 0
IsMaskFault None f = ⊥
IsMaskFault (Some text) f = (f ≡ fault.Selection options.Filters 0) × ((mask : ℕ) → IsMaskText text mask → ⊥)

-- The first option, in the order of links, words, moments and filters, whose text selects nothing, and this is its fault. For links and
-- words there may be no memory.
abbrev pub IsSelectionFault : Option VlTable → CutArguments → Fault → Type 0
IsSelectionFault vl_table given f =
    IsLinksFault vl_table (option_map text_of given.link) f
    ⊎ (((set : Option LinkSet) × AreLinks vl_table (option_map text_of given.link) set)
    × (IsWordsFault (option_map text_of given.verdict) f
    ⊎ (IsSpanFault (option_map text_of given.from) (option_map text_of given.to) (option_map text_of given.span) f
    ⊎ IsMaskFault (option_map text_of given.filters) f)))
