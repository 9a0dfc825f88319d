-- The line of a frame in a ledger of transits (this project's format): ASCII, single spaces, ended by a newline. Numbers are decimal.
use Rattle.std.specs.Prelude.{ℕ, List, [], ◌++◌, flat_map, ℤ, Option, Some, None, codes, decimal}
use Rattle.std.specs.Fmt.{signed_decimal}
use Rattle.std.specs.Option.{option_map, option_map_or}
use Rattle.afdx_frame.specs.declared.key.VlId.{VlId}
use Rattle.vl_config.specs.Class.{class_word}
use Rattle.transit_policing.specs.declared.observed.Policed.{Policed}
use Rattle.transit_policing.specs.declared.observed.Policed.TheVariants.{Within, Excess, Unsure}
use Rattle.transit_run.specs.Outcome.{fate_word, origin_word}
use Rattle.transit_run.specs.declared.rows.Head.{Head}
use Rattle.transit_run.specs.declared.rows.Partner.{Partner}
use Rattle.transit_run.specs.declared.line.BeforeLine.{BeforeLine}
use Rattle.transit_run.specs.declared.line.AfterLine.{AfterLine}
use Rattle.transit_run.specs.declared.line.Line.{Line}
use Rattle.transit_run.specs.declared.line.Line.TheVariants.{Before, After}

-- a number, or a dash
abbrev pub number_text : Option ℕ → List ℕ
number_text None = codes "-"
number_text (Some number) = decimal number

-- a transit, or a dash
abbrev pub transit_text : Option ℤ → List ℕ
transit_text None = codes "-"
transit_text (Some transit) = signed_decimal transit

abbrev pub policed_word : Policed → List ℕ
policed_word Within = codes "within"
policed_word Excess = codes "excess"
policed_word Unsure = codes "unsure"

abbrev pub policing_text : Option Policed → List ℕ
policing_text None = codes "-"
policing_text (Some policed) = policed_word policed

-- the link that a frame names, where its class says that the bytes hold it
abbrev pub link_of : Head → Option VlId
link_of head = option_map (λ address. address.0) head.address

abbrev pub link_number : Head → Option ℕ
link_number head = option_map (λ id. id.0) (link_of head)

abbrev pub sequence_of : Head → Option ℕ
sequence_of head = option_map (λ address. address.1) head.address

abbrev pub partner_number : Option Partner → Option ℕ
partner_number None = None
partner_number (Some partner) = Some partner.number

abbrev pub difference : Option Partner → Option ℕ
difference None = None
difference (Some partner) = partner.differs

-- the moment, the side, the number, the link, the sequence number and the class of a frame
unfoldable pub head_text : Head → ℕ → List ℕ → List ℕ
head_text head moment side =
    decimal moment ++ (codes " " ++ (side ++ (codes " " ++ (decimal head.number ++ (codes " " ++ (number_text (link_number head)
    ++ (codes " " ++ (number_text (sequence_of head) ++ (codes " " ++ class_word head.class)))))))))

-- then its policing and its fate, and of the frame that it came out as the number, the transit and the first byte that differs
unfoldable pub before_text : BeforeLine → List ℕ
before_text line =
    codes " " ++ (policing_text line.policed ++ (codes " " ++ (fate_word line.fate ++ (codes " " ++ (number_text (partner_number line.partner)
    ++ (codes " " ++ (transit_text line.transit ++ (codes " " ++ (number_text (difference line.partner) ++ codes "\n")))))))))

-- or its origin
unfoldable pub after_text : AfterLine → List ℕ
after_text line = codes " - " ++ (origin_word line.origin ++ codes " - - -\n")

abbrev pub line_text : Line → List ℕ
line_text (Before line) = head_text line.head line.head.moment (codes "before") ++ before_text line
line_text (After line) = head_text line.head line.moment (codes "after") ++ after_text line

abbrev pub lines_text : List Line → List ℕ
lines_text lines = flat_map line_text lines
