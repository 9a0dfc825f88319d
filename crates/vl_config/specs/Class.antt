-- The class of a frame under a table: the first that fits. The order, and the bounds of 60 and 1514 bytes without the frame check
-- sequence (an Ethernet frame's least and greatest length, IEEE 802.3), are this project's profile; the constant field, the
-- virtual link and Smax are ARINC 664 Part 7.
use Rattle.std.specs.Prelude.{ℕ, ◌+◌, Bool, true, false, not, List, codes, length, Option, Some, None, ◌==◌, nat_lt, find, if◌then◌else◌}
use Rattle.std.specs.Option.{option_map, option_and_then}
use Rattle.afdx_frame.specs.Frame.{Frame}
use Rattle.afdx_frame.specs.View.{constant_of, link_of}
use Rattle.afdx_frame.specs.declared.key.VlId.{VlId}
use Rattle.vl_config.specs.declared.class.Class.{Class}
use Rattle.vl_config.specs.declared.class.Class.TheVariants.{Cut, Runt, Oversize, Foreign, Unconfigured, TooLong, Regular}
use Rattle.vl_config.specs.Link.{VirtualLink}
use Rattle.vl_config.specs.Document.{VlTable, has_id}

-- the words of the classes, as ledgers and reports write them (this project's format)
abbrev pub class_word : Class → List ℕ
class_word Cut = codes "cut"
class_word Runt = codes "runt"
class_word Oversize = codes "oversize"
class_word Foreign = codes "foreign"
class_word Unconfigured = codes "unconfigured"
class_word TooLong = codes "toolong"
class_word Regular = codes "regular"

-- the classes of frames whose link and sequence number are written: the bytes of the others may not hold them
abbrev pub is_addressed : Class → Bool
is_addressed Unconfigured = true
is_addressed TooLong = true
is_addressed Regular = true
is_addressed _ = false

-- the classes of frames whose link is configured
abbrev pub is_on_a_link : Class → Bool
is_on_a_link TooLong = true
is_on_a_link Regular = true
is_on_a_link _ = false

abbrev pub has_constant : ℕ → Option ℕ → Bool
has_constant constant None = false
has_constant constant (Some field) = field == constant

-- a frame of a configured link, by its length on the wire
abbrev pub class_by_size : ℕ → Option ℕ → Class
class_by_size whole None = Unconfigured
class_by_size whole (Some smax) = if nat_lt smax (whole + 4) then TooLong else Regular

-- the class by the table's constant field and the Smax of the frame's link, where the table has the link
abbrev pub class_by : ℕ → Option ℕ → Frame → Class
class_by constant smax frame =
    if nat_lt (length frame.bytes) frame.whole then Cut
    else (if nat_lt frame.whole 60 then Runt
    else (if nat_lt 1514 frame.whole then Oversize
    else (if not (has_constant constant (constant_of frame.bytes)) then Foreign
    else class_by_size frame.whole smax)))

-- the link of the table with this identifier
abbrev pub link_with : List VirtualLink → VlId → Option VirtualLink
link_with links id = find (has_id id) links

-- the link of the table that a frame names
abbrev pub link_of_frame : List VirtualLink → Frame → Option VirtualLink
link_of_frame links frame = option_and_then (link_with links) (link_of frame.bytes)

abbrev pub class_of : VlTable → Frame → Class
class_of vl_table frame = class_by vl_table.constant (option_map (λ link. link.smax) (link_of_frame vl_table.links frame)) frame
