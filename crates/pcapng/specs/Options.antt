-- The options at the end of a block (draft-ietf-opsawg-pcapng, section "Options").
use Rattle.std.specs.Prelude.{ℕ, zero, suc, ◌+◌, ◌-◌, ◌%◌, Bool, true, false, List, length, take, drop, Option, Some, None, nat_lt, ◌==◌, if◌then◌else◌}
use Rattle.pcap_io.specs.Layout.{number_in}
use Rattle.pcap_io.specs.declared.layout.ByteOrder.{ByteOrder}

-- so many bytes, with those that pad them to a multiple of 4
abbrev pub padded_len : ℕ → ℕ
padded_len len = len + (4 - len % 4) % 4

-- The options that some bytes hold, one after another.
pub data Options : Type 0 where
  -- the option that ends them, opt_endofopt, or the end of the bytes
  ended : Options
  -- an option of which there are fewer bytes than it claims
  beyond : Options
  -- an option of this code and value, and those after it
  option : ℕ → List ℕ → Options → Options

-- the length of the value of the option at the front
abbrev pub value_len : ByteOrder → List ℕ → ℕ
value_len order bytes = number_in order 2 (drop 2 bytes)

-- the length of the option at the front: its code, its length, and its value padded
abbrev pub option_len : ByteOrder → List ℕ → ℕ
option_len order bytes = 4 + padded_len (value_len order bytes)

-- all that stands at the front, before the options that follow the option there
abbrev pub options_from : ByteOrder → List ℕ → Options → Options
options_from order bytes rest =
    if length bytes == 0 then ended
    else if nat_lt (length bytes) 4 then beyond
    else if number_in order 2 bytes == 0 then ended
    else if nat_lt (length bytes) (option_len order bytes) then beyond
    else option (number_in order 2 bytes) (take (value_len order bytes) (drop 4 bytes)) rest

-- the first n options
unfoldable pub options_within : ℕ → ByteOrder → List ℕ → Options
options_within zero order bytes = ended
options_within (suc n) order bytes = options_from order bytes (options_within n order (drop (option_len order bytes) bytes))

-- all of them, which are no more than there are bytes
unfoldable pub options_of : ByteOrder → List ℕ → Options
options_of order bytes = options_within (length bytes) order bytes

-- none reaches beyond the bytes
abbrev pub fit : Options → Bool
fit ended = true
fit beyond = false
fit (option code value rest) = fit rest

-- the value of the first option of a code, where there is one
abbrev pub value_of : ℕ → Options → Option (List ℕ)
value_of wanted ended = None
value_of wanted beyond = None
value_of wanted (option code value rest) = if code == wanted then Some value else value_of wanted rest
