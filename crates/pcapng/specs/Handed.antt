-- The bytes that a source gives for a recording: the pcap that a pcapng file stands for, and of any other file its own.
use Rattle.std.specs.Prelude.{◌≡◌, ℕ, ◌+◌, ◌<◌, ◌≤◌, List, ◌++◌, length, take, drop, slice_range, Option, Some, None, Bool, true, false, nat_lt, ◌==◌, if◌then◌else◌, ⊤}
use Rattle.std.specs.Io.KnownBytes.{Keeps}
use Rattle.byteorder.specs.Endian.{big_number}
use Rattle.pcap_io.specs.Bytes.{known_bytes}
use Rattle.pcap_io.specs.Layout.{number_in}
use Rattle.pcap_io.specs.declared.layout.ByteOrder.TheVariants.{Little}
use Rattle.pcap_io.specs.declared.recording.BadReason.TheVariants.{BlockLengthsDiffer}
use Rattle.pcap_io.specs.Told.{StaysTold}
use Rattle.pcap_io.specs.declared.told.Told.{Told}
use Rattle.pcap_io.specs.declared.told.Told.TheVariants as tolds
use Rattle.pcapng.specs.File.{end_given, given_at, pcap_of}
use Rattle.pcapng.specs.Given.{Given, followed, only, plain}
use Rattle.pcapng.specs.Section.{Known, known_of, unknown}
use Rattle.pcapng.specs.declared.block.TheConstants.{MAX_BLOCK_LEN}
use Rattle.pcapng.specs.declared.choice.Choice.{Choice}
use Rattle.pcapng.specs.declared.converter.Converter.{Converter}
use Rattle.pcapng.specs.declared.converter.Reached.{Reached}
use Rattle.pcapng.specs.declared.converter.Reached.TheVariants as stages
use Rattle.pcapng.specs.declared.converter.Step.{Step}
use Rattle.pcapng.specs.declared.converter.Step.TheVariants as steps
use Rattle.pcapng.specs.declared.source.RecordingSource.{RecordingSource}

-- The yield where the first four bytes are this number: a section header's type begins a pcapng file.
abbrev pub given_as : ℕ → Known → List ℕ → Given
given_as magic k bytes = if magic == 0x0a0d0d0a then pcap_of k bytes else plain bytes

abbrev pub given_from : Known → List ℕ → Given
given_from k bytes = if nat_lt (length bytes) 4 then plain bytes else given_as (big_number 4 (take 4 bytes)) k bytes

-- The yield of a whole recording, of which this interface is chosen.
abbrev pub given_of : Choice → List ℕ → Given
given_of choice bytes = given_from (unknown choice Little) bytes

-- all that was read ahead and isn't judged yet
abbrev pub unread_of : Converter → List ℕ
unread_of c = slice_range c.block.items c.start c.end

-- so many of its bytes
abbrev pub block_of : Converter → ℕ → List ℕ
block_of c len = slice_range c.block.items c.start (c.start + len)

-- all that is given next
abbrev pub pending_of : Converter → List ℕ
pending_of c = slice_range c.header c.header_from c.header_to ++ slice_range c.block.items c.body_from c.body_to

-- all that is given from within a block of this length that is passed over, of which so many bytes stand before its last four
abbrev pub skipped_at : ℕ → ℕ → Known → List ℕ → Given
skipped_at before len k bytes =
    if nat_lt (length bytes) (before + 4) then only tolds.Cut
    else if number_in k.order 4 (drop before bytes) == len then given_at k (drop (before + 4) bytes)
    else only (tolds.Bad BlockLengthsDiffer)

-- all that is given for the bytes that aren't judged yet
abbrev pub rest_at : Reached → Known → List ℕ → Given
rest_at stages.Start k bytes = given_from k bytes
rest_at stages.Untouched k bytes = plain bytes
rest_at stages.FirstSection k bytes = pcap_of k bytes
rest_at stages.Blocks k bytes = given_at k bytes
rest_at (stages.Skipping left len) k bytes = skipped_at left len k bytes
rest_at (stages.Ended told) k bytes = only told

-- all that is given for them where they end before what comes next does
abbrev pub end_at : Reached → Known → List ℕ → Given
end_at stages.Start k bytes = plain bytes
end_at stages.Untouched k bytes = plain bytes
end_at stages.FirstSection k bytes = only tolds.Nothing
end_at stages.Blocks k bytes = if length bytes == 0 then end_given k else only tolds.Cut
end_at (stages.Skipping left len) k bytes = only tolds.Cut
end_at (stages.Ended told) k bytes = only told

-- all that is given where the source has these bytes left
abbrev pub handed : Converter → List ℕ → Given
handed c left = followed (pending_of c) (rest_at c.stage (known_of c.section) (unread_of c ++ left))

-- all that is given next, and then for the unread bytes and those that the source has left, where it exposes them
abbrev pub known_at : List ℕ → Reached → Known → List ℕ → Option (List ℕ) → Option Given
known_at pending stage k unread None = None
known_at pending stage k unread (Some left) = Some (followed pending (rest_at stage k (unread ++ left)))

abbrev pub handed_known : Converter → Option (List ℕ) → Option Given
handed_known c known = known_at (pending_of c) c.stage (known_of c.section) (unread_of c) known

-- all that is told where nothing follows
abbrev pub told_at : Reached → Told
told_at (stages.Ended told) = told
told_at stage = tolds.Nothing

-- it has come to the end of a pcapng file, or another file is handed on, of which nothing is told
abbrev pub is_over : Reached → Bool
is_over (stages.Ended told) = true
is_over stages.Untouched = true
is_over stage = false

-- of what is given, where it is known, the bytes, and what is told
abbrev pub bytes_in : Option Given → Option (List ℕ)
bytes_in None = None
bytes_in (Some given) = Some given.bytes

abbrev pub told_in : Option Given → Told
told_in None = tolds.Nothing
told_in (Some given) = given.told

-- all that a recording's source exposes
abbrev pub remaining_of : {S : Type 0} → (S → Option (List ℕ)) → RecordingSource S → Option (List ℕ)
remaining_of remaining s = known_bytes (bytes_in (handed_known s.converter (remaining s.source)))

-- all that it tells
abbrev pub told_of : {S : Type 0} → (S → Option (List ℕ)) → RecordingSource S → Told
told_of remaining s = told_in (handed_known s.converter (remaining s.source))

-- the given bytes stay, whatever the source has left
abbrev pub HandsOn : Converter → Converter → Type 0
HandsOn a b = (left : List ℕ) → handed b left ≡ handed a left

-- this is all that is given
abbrev pub GivesLast : Converter → Told → Type 0
GivesLast c told = (left : List ℕ) → handed c left ≡ only told

-- the unread bytes end before what comes next does
abbrev pub EndsWithin : Converter → Type 0
EndsWithin c = rest_at c.stage (known_of c.section) (unread_of c) ≡ end_at c.stage (known_of c.section) (unread_of c)

-- the unread bytes are fewer than a step needs, and those that it needs have room in the block
abbrev pub Lacks : Converter → Step → Type 0
Lacks c steps.Done = ⊤
Lacks c (steps.Needs needed) = (needed ≤ MAX_BLOCK_LEN) × (length (unread_of c) < needed) × EndsWithin c

-- where more is needed, nothing is left to give, as before
abbrev pub StillGiven : Converter → Step → List ℕ → Type 0
StillGiven c steps.Done pending = ⊤
StillGiven c (steps.Needs needed) pending = pending_of c ≡ pending

-- nothing changed but the section
abbrev pub KeepsRest : Converter → Converter → Type 0
KeepsRest a b = (b.stage ≡ a.stage) × (b.start ≡ a.start) × (b.end ≡ a.end) × (b.block ≡ a.block) × (pending_of b ≡ pending_of a)

-- the given bytes, where they are known, stay
abbrev pub KeepsGiven : Option Given → Option Given → Type 0
KeepsGiven a b = Keeps (bytes_in a) (bytes_in b) × StaysTold (bytes_in a) (told_in a) (told_in b)
