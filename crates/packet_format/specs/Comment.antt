-- The verdict of a ledger's line in words (this project's form): its link, the link's name where the table has it, and its sequence number,
-- where the line has a link; then the last word that the line says of its frame, and who says it. The words are those of the ledger.
use Rattle.std.specs.Prelude.{ℕ, List, [], ◌++◌, Option, codes, decimal}
use Rattle.std.specs.Option.{option_map, option_map_or, option_and_then}
use Rattle.afdx_frame.specs.declared.key.VlId.{VlId}
use Rattle.integrity.specs.declared.verdict.Integrity.{Integrity}
use Rattle.ledger_text.specs.declared.frame.FrameLine.{FrameLine}
use Rattle.policing.specs.declared.verdict.Policing.{Policing}
use Rattle.redundancy.specs.declared.verdict.Redundancy.{Redundancy}
use Rattle.redundancy.specs.Word.{redundancy_word}
use Rattle.policing.specs.Word.{policing_word}
use Rattle.integrity.specs.Word.{integrity_word}
use Rattle.verdict_ledger.specs.Text.{word_field}
use Rattle.vl_config.specs.Class.{link_with, class_word}
use Rattle.vl_config.specs.Document.{VlTable}
use Rattle.vl_config.specs.declared.class.Class.{Class}

-- ---- the frame's fate

abbrev pub redundancy_text : Redundancy → List ℕ
redundancy_text redundancy = redundancy_word redundancy ++ codes " (redundancy)"

abbrev pub integrity_text : Integrity → List ℕ
integrity_text integrity = integrity_word integrity ++ codes " (integrity)"

abbrev pub policing_text : Policing → List ℕ
policing_text policing = policing_word policing ++ codes " (policing)"

abbrev pub class_text : Class → List ℕ
class_text class = class_word class ++ codes " (class)"

-- redundancy management's word; else integrity checking's, else policing's, else the class
abbrev pub outcome_text : FrameLine → List ℕ
outcome_text line =
    option_map_or redundancy_text line.verdict.redundancy
    (option_map_or integrity_text line.verdict.integrity (option_map_or policing_text line.verdict.policing (class_text line.verdict.class)))

-- ---- the frame's link

-- the name of a link in the table
abbrev pub name_of : Option VlTable → Option VlId → Option (List ℕ)
name_of vl_table link = option_and_then (λ t. option_and_then (λ id. option_map (λ l. l.name) (link_with t.links id)) link) vl_table

abbrev pub name_field : Option (List ℕ) → List ℕ
name_field name = option_map_or word_field name []

abbrev pub sequence_field : Option ℕ → List ℕ
sequence_field sequence = option_map_or (λ n. codes " SN " ++ decimal n) sequence []

abbrev pub address_text : Option (List ℕ) → FrameLine → List ℕ
address_text name line =
    option_map_or (λ id. codes "VL " ++ (decimal id.0 ++ (name_field name ++ (sequence_field line.sequence ++ codes ": ")))) line.link []

-- ---- the whole

abbrev pub comment_text : Option VlTable → FrameLine → List ℕ
comment_text vl_table line = address_text (name_of vl_table line.link) line ++ outcome_text line
