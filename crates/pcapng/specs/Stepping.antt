-- How a reader steps over blocks, and what it finds in a packet's (draft-ietf-opsawg-pcapng, version 1.0).
use Rattle.std.specs.Prelude.{◌≡◌, ℕ, zero, suc, ◌+◌, ◌-◌, ◌*◌, ◌%◌, ◌^◌, ◌<◌, ◌≤◌, List, [], ◌∷◌, length, take, drop, IfSome, ⊤}
use Rattle.byteorder.specs.Endian.{little_number}
use Rattle.afdx_frame.specs.Frame.{Frame, IsFrame}
use Rattle.pcapng.specs.Blocks.{Written, padding_len}
use Rattle.pcapng.specs.declared.comment.TheConstants.{MAX_COMMENT_LEN}
use Rattle.pcapng.specs.declared.interfaces.Interfaces.{Interfaces}
use Rattle.pcapng.specs.declared.interfaces.Interfaces.TheVariants.{One, Networks}

-- The bytes begin with a block of this total length, which stands after its type and again at its end. It is a multiple of 4.
pub record BeginsWithBlock (bytes : List ℕ) (len : ℕ) : Type 0 where
  pub smallest : 12 ≤ len
  pub whole : len ≤ length bytes
  pub aligned : len % 4 ≡ 0
  pub first : little_number 4 (drop 4 bytes) ≡ len
  pub again : little_number 4 (drop (len - 4) bytes) ≡ len

-- the bytes are so many blocks
abbrev pub AreBlocks : ℕ → List ℕ → Type 0
AreBlocks zero bytes = bytes ≡ []
AreBlocks (suc n) bytes = (len : ℕ) × BeginsWithBlock bytes len × AreBlocks n (drop len bytes)

-- how many interfaces are described
abbrev pub count_of : Interfaces → ℕ
count_of One = 1
count_of Networks = 2

-- a packet whose block can be written
pub record IsWritable (p : Written) : Type 0 where
  pub fits : IsFrame p.frame
  pub whole_fits : p.frame.whole < 2 ^ 32
  pub within : p.keep ≤ length p.frame.bytes
  pub short : IfSome p.comment (λ text. length text ≤ MAX_COMMENT_LEN)

abbrev pub AreWritable : List Written → Type 0
AreWritable [] = ⊤
AreWritable (p ∷ ps) = IsWritable p × AreWritable ps

-- The bytes begin with the block of a packet of this interface and frame, of which these bytes are kept.
pub record BeginsWithPacket (bytes : List ℕ) (interface : ℕ) (f : Frame) (kept : List ℕ) : Type 0 where
  pub kind : little_number 4 bytes ≡ 6
  pub interface_is : little_number 4 (drop 8 bytes) ≡ interface
  pub stamp : little_number 4 (drop 12 bytes) * 2 ^ 32 + little_number 4 (drop 16 bytes) ≡ f.stamp
  pub captured : little_number 4 (drop 20 bytes) ≡ length kept
  pub original : little_number 4 (drop 24 bytes) ≡ f.whole
  pub bytes_are : take (length kept) (drop 28 bytes) ≡ kept

-- the packet has a comment of this text
pub record HasComment (options : List ℕ) (text : List ℕ) : Type 0 where
  pub code : little_number 2 options ≡ 1
  pub len : little_number 2 (drop 2 options) ≡ length text
  pub text_is : take (length text) (drop 4 options) ≡ text

-- where the options of a packet stand of which so many bytes are kept
abbrev pub options_at : ℕ → ℕ
options_at keep = 28 + (keep + padding_len keep)
