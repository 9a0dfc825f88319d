-- The bytes that are left to give of the files, by what was read of them.
use Rattle.std.specs.Prelude.{◌≡◌, ℕ, List, [], ◌++◌, drop, Option, Some, None, Bool, true, false}
use Rattle.std.specs.Io.KnownBytes.{Consumes}
use Rattle.pcap_io.specs.Bytes.{known_bytes}
use Rattle.pcap_io.specs.Told.{StaysTold}
use Rattle.pcap_io.specs.declared.told.Told.{Told}
use Rattle.pcap_io.specs.declared.told.Told.TheVariants as tolds
use Rattle.pcapng.specs.Given.{Given, followed, only}
use Rattle.pcapng.specs.Handed.{bytes_in, told_in}
use Rattle.recording_files.specs.Given.{given_at, given_body, given_file, given_files, given_next}
use Rattle.recording_files.specs.Input.{drawn_of, left_of, tells_of}
use Rattle.recording_files.specs.Pending.{waiting_of}
use Rattle.recording_files.specs.declared.joined.JoinedSource.{JoinedSource}
use Rattle.recording_files.specs.declared.stage.FilesStage.{FilesStage}
use Rattle.recording_files.specs.declared.stage.FilesStage.TheVariants as stages

-- of a packet's bytes those that are given next
abbrev pub body_of : FilesStage → List ℕ → List ℕ
body_of (stages.Given layout from) drawn = drop from drawn
body_of stage drawn = []

-- all that is given for what is left of a file, and for the files that are still to come
abbrev pub rest_of : FilesStage → Given → List Given → Given
rest_of (stages.File place) file files = given_files place files
rest_of (stages.FileHeader place) file files = given_file place file (given_next files)
rest_of (stages.Header layout) file files = given_at layout file.told file.bytes (given_next files)
rest_of (stages.Body packet) file files = given_body packet.layout file.told packet.header file.bytes (given_next files)
rest_of (stages.Given (Some layout) from) file files = given_at layout file.told file.bytes (given_next files)
rest_of (stages.Given None from) file files = only tolds.Nothing
rest_of (stages.Ended told) file files = only told

abbrev pub known_at : List ℕ → FilesStage → Told → Option (List ℕ) → Option (List Given) → Option Given
known_at pending stage told (Some bytes) (Some files) = Some (followed pending (rest_of stage (record { bytes = bytes; told = told }) files))
known_at pending stage told (Some bytes) None = None
known_at pending stage told None files = None

-- all that is given next: part of a header, and then of a packet's bytes
abbrev pub pending_of : {P F : Type 0} → JoinedSource P F → List ℕ
pending_of j = waiting_of j.pending ++ body_of j.stage (drawn_of j.input)

-- all that is given, where the file that is read and the supply expose theirs
abbrev pub known_of : {P F : Type 0} → (F → Option (List ℕ)) → (F → Told) → (P → Option (List Given)) → JoinedSource P F → Option Given
known_of remaining told files j = known_at (pending_of j) j.stage (tells_of told j.input) (left_of remaining j.input) (files j.supply)

-- all that a source of several files exposes, and what it tells
abbrev pub remaining_of : {P F : Type 0} → (F → Option (List ℕ)) → (F → Told) → (P → Option (List Given)) → JoinedSource P F → Option (List ℕ)
remaining_of remaining told files j = known_bytes (bytes_in (known_of remaining told files j))

abbrev pub told_of : {P F : Type 0} → (F → Option (List ℕ)) → (F → Told) → (P → Option (List Given)) → JoinedSource P F → Told
told_of remaining told files j = told_in (known_of remaining told files j)

-- all that is told where nothing follows
abbrev pub told_at : FilesStage → Told
told_at (stages.Ended told) = told
told_at stage = tolds.Nothing

-- nothing follows
abbrev pub is_over : FilesStage → Bool
is_over (stages.Ended told) = true
is_over stage = false

-- these bytes were given, and what is told stays
abbrev pub ConsumesGiven : Option Given → Option Given → List ℕ → Type 0
ConsumesGiven a b front = Consumes (bytes_in a) (bytes_in b) front × StaysTold (bytes_in a) (told_in a) (told_in b)

-- so many of a packet's bytes are given, and nothing else changed
pub record GivesBody {P F : Type 0} (old new : JoinedSource P F) (count : ℕ) : Type 0 where
  pub body : body_of new.stage (drawn_of new.input) ≡ drop count (body_of old.stage (drawn_of old.input))
  pub rest : (file : Given) (files : List Given) → rest_of new.stage file files ≡ rest_of old.stage file files
  pub pending : new.pending ≡ old.pending
  pub input : new.input ≡ old.input
  pub supply : new.supply ≡ old.supply
  pub failures : new.failures ≡ old.failures
