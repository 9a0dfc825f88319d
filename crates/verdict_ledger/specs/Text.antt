-- The text of a ledger, versions 2 and 3 (this project's format): ASCII, single spaces, each line ended by a newline. Numbers are decimal.
use Rattle.std.specs.Prelude.{ℕ, ◌+◌, ◌/◌, ◌%◌, List, [], ◌∷◌, ◌++◌, flat_map, take, slice_index, Option, Some, None, codes, decimal, if◌then◌else◌}
use Rattle.std.specs.Option.{option_map_or}
use Rattle.afdx_frame.specs.Frame.{Frame, network_letter}
use Rattle.afdx_frame.specs.View.{link_of, sequence_of}
use Rattle.afdx_frame.specs.declared.key.VlId.{VlId}
use Rattle.afdx_frame.specs.declared.key.Network.{Network}
use Rattle.afdx_frame.specs.declared.key.Network.TheVariants.{A, B}
use Rattle.vl_config.specs.Class.{class_word, is_addressed}
use Rattle.vl_config.specs.Link.{VirtualLink}
use Rattle.vl_config.specs.Document.{VlTable}
use Rattle.vl_config.specs.declared.class.Class.{Class}
use Rattle.policing.specs.Word.{policing_word}
use Rattle.integrity.specs.Word.{integrity_word}
use Rattle.redundancy.specs.Word.{redundancy_word}
use Rattle.pcap_io.specs.Word.{reason_word}
use Rattle.pcap_io.specs.declared.recording.Ending.{Ending}
use Rattle.pcap_io.specs.declared.recording.Ending.TheVariants as ending
use Rattle.vl_judge.specs.Judgement.{Judgement}
use Rattle.verdict_ledger.specs.Entry.{Entry}
use Rattle.verdict_ledger.specs.Tally.{totals_of, link_counts}
use Rattle.verdict_ledger.specs.declared.totals.Totals.{Totals}
use Rattle.verdict_ledger.specs.declared.link_counts.LinkCounts.{LinkCounts}
use Rattle.verdict_ledger.specs.declared.version.LedgerVersion.{LedgerVersion}
use Rattle.verdict_ledger.specs.declared.version.LedgerVersion.TheVariants.{Two, Three}

-- ---- fields: a space, and a word or a number; `-` where there is none

abbrev pub word_field : List ℕ → List ℕ
word_field word = codes " " ++ word

abbrev pub number_field : ℕ → List ℕ
number_field number = codes " " ++ decimal number

abbrev pub optional_field : Option ℕ → List ℕ
optional_field number = option_map_or number_field number (codes " -")

-- ---- the line of a frame

abbrev pub link_number : Frame → Option ℕ
link_number frame = option_map_or (λ id. Some id.0) (link_of frame.bytes) None

abbrev pub address_text : Class → Frame → List ℕ
address_text class frame =
    if is_addressed class then optional_field (link_number frame) ++ optional_field (sequence_of frame.bytes) else codes " - -"

abbrev pub verdict_text : Judgement → List ℕ
verdict_text j =
    word_field (class_word j.class)
    ++ (word_field (option_map_or policing_word j.policing (codes "-"))
    ++ (word_field (option_map_or integrity_word j.integrity (codes "-"))
    ++ word_field (option_map_or redundancy_word j.redundancy (codes "-"))))

abbrev pub hex_digit : ℕ → ℕ
hex_digit n = slice_index (codes "0123456789abcdef") n

-- two lower-case hexadecimal digits
abbrev pub mask_text : ℕ → List ℕ
mask_text mask = hex_digit (mask / 16) ∷ hex_digit (mask % 16) ∷ []

-- the length on the wire, in version 3
abbrev pub length_text : LedgerVersion → ℕ → List ℕ
length_text Two whole = []
length_text Three whole = number_field whole

-- timestamp, network, number, link, sequence number, class, policing, integrity, redundancy, bytes kept, the mask of filters, and in version 3
-- the length on the wire
unfoldable pub line_text : LedgerVersion → Entry → List ℕ
line_text version e =
    decimal e.frame.stamp
    ++ (word_field (network_letter e.frame.network)
    ++ (number_field e.frame.number
    ++ (address_text e.verdict.class e.frame
    ++ (verdict_text e.verdict
    ++ (optional_field e.keep
    ++ (word_field (mask_text e.mask)
    ++ (length_text version e.frame.whole ++ codes "\n")))))))

abbrev pub lines_text : LedgerVersion → List Entry → List ℕ
lines_text version entries = flat_map (line_text version) entries

-- ---- the lines after the frames

-- a word and a count
unfoldable pub count_field : List ℕ → ℕ → List ℕ
count_field word count = word ++ number_field count

-- the counts of what the judgements say, at the end of a line
unfoldable pub judged_text : ℕ → ℕ → ℕ → ℕ → ℕ → List ℕ
judged_text toolong excess out copy delivered =
    count_field (codes " toolong") toolong
    ++ (count_field (codes " excess") excess
    ++ (count_field (codes " out") out
    ++ (count_field (codes " copy") copy
    ++ (count_field (codes " delivered") delivered ++ codes "\n"))))

unfoldable pub link_line : VirtualLink → LinkCounts → List ℕ
link_line link counts =
    count_field (codes "link") link.id.0
    ++ (word_field link.name
    ++ (count_field (codes " frames") counts.frames
    ++ judged_text counts.toolong counts.excess counts.out counts.copy counts.delivered))

unfoldable pub filter_line : ℕ → ℕ → List ℕ
filter_line filter accepted = count_field (codes "filter") filter ++ (count_field (codes " accepted") accepted ++ codes "\n")

abbrev pub ending_text : Ending → List ℕ
ending_text (ending.Clean n) = count_field (codes " clean") n
ending_text (ending.Cut n) = count_field (codes " cut") n
ending_text (ending.Bad n reason) = count_field (codes " bad") n ++ word_field (reason_word reason)

unfoldable pub tap_line : Network → Ending → List ℕ
tap_line network ending = codes "tap" ++ (word_field (network_letter network) ++ (ending_text ending ++ codes "\n"))

-- the counts of the frames that no judgement sees
unfoldable pub classes_text : Totals → List ℕ
classes_text totals =
    count_field (codes " cut") totals.cut
    ++ (count_field (codes " runt") totals.runt
    ++ (count_field (codes " oversize") totals.oversize
    ++ (count_field (codes " foreign") totals.foreign ++ count_field (codes " unconfigured") totals.unconfigured)))

unfoldable pub total_line : Totals → List ℕ
total_line totals =
    count_field (codes "total frames") totals.frames
    ++ (count_field (codes " accepted") totals.accepted
    ++ (classes_text totals ++ judged_text totals.toolong totals.excess totals.out totals.copy totals.delivered))

-- the lines of filters from one on, by their counts
abbrev pub filter_lines : ℕ → List ℕ → List ℕ
filter_lines filter [] = []
filter_lines filter (accepted ∷ counts) = filter_line filter accepted ++ filter_lines (filter + 1) counts

-- the lines of links, by the counts of each
abbrev pub link_lines : (VlId → LinkCounts) → List VirtualLink → List ℕ
link_lines counts links = flat_map (λ link. link_line link (counts link.id)) links

-- the lines after those of the links, by the counts of all frames
abbrev pub end_text : Totals → ℕ → Ending → Ending → List ℕ
end_text totals filters a b = filter_lines 0 (take filters totals.filters) ++ (tap_line A a ++ (tap_line B b ++ total_line totals))

-- all lines after those of the frames, by the counts of each link and of all frames
abbrev pub summary_text : List VirtualLink → (VlId → LinkCounts) → Totals → ℕ → Ending → Ending → List ℕ
summary_text links counts totals filters a b = link_lines counts links ++ end_text totals filters a b

abbrev pub rest_text : VlTable → ℕ → List Entry → Ending → Ending → List ℕ
rest_text vl_table filters entries a b =
    summary_text vl_table.links (link_counts entries) (totals_of entries) filters a b

-- ---- the whole

unfoldable pub ledger_head : LedgerVersion → List ℕ
ledger_head Two = codes "afdx-ledger 2\n"
ledger_head Three = codes "afdx-ledger 3\n"

-- the ledger of the frames of two taps that end like this
abbrev pub ledger_text : LedgerVersion → VlTable → ℕ → List Entry → Ending → Ending → List ℕ
ledger_text version vl_table filters entries a b = ledger_head version ++ (lines_text version entries ++ rest_text vl_table filters entries a b)
