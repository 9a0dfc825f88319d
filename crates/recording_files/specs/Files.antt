-- A recording of one file or of several, as a source (this project's profile).
use Rattle.std.specs.Prelude.{ℕ, Bool, List, Option, IfSome}
use Rattle.pcap_io.specs.Bytes.{IsBytes, known_bytes-are_bytes}
use Rattle.pcap_io.specs.declared.told.Told.{Told}
use Rattle.pcapng.specs.Given.{Given}
use Rattle.pcapng.specs.Handed.{bytes_in}
use Rattle.recording_files.specs.Handed.{is_over, known_of, remaining_of, told_of}
use Rattle.recording_files.specs.declared.files.RecordingFiles.{RecordingFiles}
use Rattle.recording_files.specs.declared.files.RecordingFiles.TheVariants.{One, Several}

-- all that is left: of one file its own bytes
abbrev pub left_of : {P F : Type 0} → (F → Option (List ℕ)) → (F → Told) → (P → Option (List Given)) → RecordingFiles P F → Option (List ℕ)
left_of remaining told files (One f) = remaining f
left_of remaining told files (Several j) = remaining_of remaining told files j

-- all that it tells
abbrev pub tells_of : {P F : Type 0} → (F → Option (List ℕ)) → (F → Told) → (P → Option (List Given)) → RecordingFiles P F → Told
tells_of remaining told files (One f) = told f
tells_of remaining told files (Several j) = told_of remaining told files j

-- it has come to the end
abbrev pub has_ended : {P F : Type 0} → (F → Bool) → RecordingFiles P F → Bool
has_ended over (One f) = over f
has_ended over (Several j) = is_over j.stage

-- how often it has failed
abbrev pub failures_of : {P F : Type 0} → (F → ℕ) → RecordingFiles P F → ℕ
failures_of failures (One f) = failures f
failures_of failures (Several j) = j.failures

-- it exposes bytes
pub give_bytes : {P F : Type 0} (remaining : F → Option (List ℕ)) (told : F → Told) (files : P → Option (List Given))
    → ((f : F) → IfSome (remaining f) IsBytes) → (r : RecordingFiles P F) → IfSome (left_of remaining told files r) IsBytes
give_bytes remaining told files own (One f) = own f
give_bytes remaining told files own (Several j) = known_bytes-are_bytes (bytes_in (known_of remaining told files j))
