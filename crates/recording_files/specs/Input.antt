-- The file that is read, as contracts see it.
use Rattle.std.specs.Prelude.{◌≡◌, ℕ, List, [], ◌++◌, drop, Option, Some, None, Result, Ok, Err, IfOk, IfSome, Bool, true, ⊤}
use Rattle.pcap_io.specs.Block.{block_remaining, block_source, drawn_bytes}
use Rattle.pcap_io.specs.Layout.{header_of}
use Rattle.pcap_io.specs.declared.block.BlockSource.{BlockSource}
use Rattle.pcap_io.specs.declared.layout.HeaderFault.{HeaderFault}
use Rattle.pcap_io.specs.declared.layout.Layout.{Layout}
use Rattle.pcap_io.specs.declared.layout.TheConstants.{FILE_HEADER_LEN}
use Rattle.pcap_io.specs.declared.recording.Ending.{Ending}
use Rattle.pcap_io.specs.declared.told.Told.{Told}
use Rattle.pcap_io.specs.declared.told.Told.TheVariants as tolds
use Rattle.pcapng.specs.Given.{Given, followed, only}
use Rattle.recording_files.specs.Given.{given_at, given_body, given_end, header_text}
use Rattle.recording_files.specs.declared.stage.Packet.{Packet}

-- the file that is read, if one is
abbrev pub file_of : {F : Type 0} → Option (BlockSource F) → Option F
file_of None = None
file_of (Some input) = Some (block_source input)

-- all that was drawn last of the file that is read
abbrev pub drawn_of : {F : Type 0} → Option (BlockSource F) → List ℕ
drawn_of None = []
drawn_of (Some input) = drawn_bytes input

-- all that is left of it, where it exposes its bytes
abbrev pub left_of : {F : Type 0} → (F → Option (List ℕ)) → Option (BlockSource F) → Option (List ℕ)
left_of remaining None = Some []
left_of remaining (Some input) = block_remaining remaining input

-- all that it tells at its end
abbrev pub tells_of : {F : Type 0} → (F → Told) → Option (BlockSource F) → Told
tells_of told None = tolds.Nothing
tells_of told (Some input) = told (block_source input)

-- it has come to its end
abbrev pub IsOver : {F : Type 0} → (F → Bool) → Option (BlockSource F) → Type 0
IsOver over None = ⊤
IsOver over (Some input) = over (block_source input) ≡ true

-- of a file, whose source tells this at its end, its header was read, which is gone where it is good
abbrev pub ReadsHeader : Told → Option (List ℕ) → Option (List ℕ) → Result Layout HeaderFault → Type 0
ReadsHeader told before after r =
    IfSome before (λ xs. (header_of told xs ≡ r) × ((ys : List ℕ) × (after ≡ Some ys) × IfOk r (λ layout. ys ≡ drop FILE_HEADER_LEN xs)))

-- bytes give the same as the packet that they begin with and the bytes that are left, or as how they end
abbrev pub StartGives : Layout → Told → List ℕ → List ℕ → Result Packet Ending → Type 0
StartGives layout told xs ys (Ok packet) =
    (next : Given) → given_at layout told xs next ≡ followed (header_text packet.header) (given_body packet.layout told packet.header ys next)
StartGives layout told xs ys (Err ending) = (next : Given) → given_at layout told xs next ≡ given_end (Some ending) (only tolds.Cut) next (only tolds.Nothing)

-- the header of the next packet was read, or how the file ends
abbrev pub ReadsStart : Layout → Told → Option (List ℕ) → Option (List ℕ) → Result Packet Ending → Type 0
ReadsStart layout told before after r = IfSome before (λ xs. (ys : List ℕ) × (after ≡ Some ys) × StartGives layout told xs ys r)
