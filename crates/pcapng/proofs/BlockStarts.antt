-- The starts of blocks.
use Rattle.std.proofs.Common.{◌≡◌, ℕ, ◌-◌, true, false, List, length, take, drop, Option, None, Some, Ok, Err, refl, sym, ap, ◌∙◌}
use Rattle.std.proofs.lemmas.List.{take_rest}
use Rattle.pcap_io.specs.Layout.{number_in}
use Rattle.pcap_io.specs.declared.layout.ByteOrder.{ByteOrder}
use Rattle.pcapng.specs.Block.{is_length_of, kind_of, order_of, start_as, start_in, start_of, start_with}
use Rattle.pcapng.specs.declared.block.BlockKind.{BlockKind}
use Rattle.pcapng.specs.declared.block.StartFault.TheVariants as starts

-- the start of a block, once its kind and byte order are known
starts_in : (order : ByteOrder) (bytes : List ℕ) (kind : BlockKind) (o : Option ByteOrder) → kind ≡ kind_of (number_in order 4 bytes)
    → o ≡ order_of kind order bytes → start_in kind bytes o ≡ start_of order bytes
unfolding start_of
starts_in order bytes kind o is same =
    ap (start_in kind bytes) same ∙ ap (λ (k : BlockKind). start_as k order bytes) is

pub bad_magic : (order : ByteOrder) (bytes : List ℕ) (kind : BlockKind) (o : Option ByteOrder) (type : ℕ) → type ≡ number_in order 4 bytes
    → kind ≡ kind_of type → o ≡ order_of kind order bytes → o ≡ None → Err starts.Magic ≡ start_of order bytes
bad_magic order bytes kind o type n is same none =
    starts_in order bytes kind None (is ∙ ap kind_of n) (sym none ∙ same)

starts_with : (order found : ByteOrder) (bytes : List ℕ) (kind : BlockKind) (o : Option ByteOrder) (type len : ℕ) → type ≡ number_in order 4 bytes
    → kind ≡ kind_of type → o ≡ order_of kind order bytes → o ≡ Some found
    → len ≡ number_in found 4 (take (length bytes - 4) (drop 4 bytes)) → start_with kind found len ≡ start_of order bytes
starts_with order found bytes kind o type len n is same some size =
    let all : len ≡ number_in found 4 (drop 4 bytes) = size ∙ ap (number_in found 4) (take_rest bytes 4) in
    ap (start_with kind found) all ∙ starts_in order bytes kind (Some found) (is ∙ ap kind_of n) (sym some ∙ same)

pub good_start : (order found : ByteOrder) (bytes : List ℕ) (kind : BlockKind) (o : Option ByteOrder) (type len : ℕ) → type ≡ number_in order 4 bytes
    → kind ≡ kind_of type → o ≡ order_of kind order bytes → o ≡ Some found
    → len ≡ number_in found 4 (take (length bytes - 4) (drop 4 bytes)) → is_length_of kind len ≡ true
    → Ok (record { order = found; kind = kind; len = len }) ≡ start_of order bytes
good_start order found bytes kind o type len n is same some size fits =
    let these : start_with kind found len ≡ Ok (record { order = found; kind = kind; len = len }) = rw fits refl in
    sym these ∙ starts_with order found bytes kind o type len n is same some size

pub bad_length : (order found : ByteOrder) (bytes : List ℕ) (kind : BlockKind) (o : Option ByteOrder) (type len : ℕ) → type ≡ number_in order 4 bytes
    → kind ≡ kind_of type → o ≡ order_of kind order bytes → o ≡ Some found
    → len ≡ number_in found 4 (take (length bytes - 4) (drop 4 bytes)) → is_length_of kind len ≡ false → Err starts.Length ≡ start_of order bytes
bad_length order found bytes kind o type len n is same some size fits =
    let these : start_with kind found len ≡ Err starts.Length = rw fits refl in
    sym these ∙ starts_with order found bytes kind o type len n is same some size
