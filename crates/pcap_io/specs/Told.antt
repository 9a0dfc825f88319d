-- The word of a source on its recording once its bytes are at their end (this project's profile).
use Rattle.std.specs.Prelude.{◌≡◌, ℕ, List, Option, IfSome, ◌==◌, if◌then◌else◌}
use Rattle.pcap_io.specs.declared.layout.HeaderFault.{HeaderFault}
use Rattle.pcap_io.specs.declared.layout.HeaderFault.TheVariants.{Short}
use Rattle.pcap_io.specs.declared.recording.BadReason.TheVariants.{TooMany}
use Rattle.pcap_io.specs.declared.recording.Ending.{Ending}
use Rattle.pcap_io.specs.declared.recording.Ending.TheVariants as endings
use Rattle.pcap_io.specs.declared.told.Told.{Told}
use Rattle.pcap_io.specs.declared.told.Told.TheVariants.{Nothing, NoHeader, Cut, Bad}

-- How a recording ends whose bytes end after n packets, where `most` are read: what would follow the last that is read isn't.
abbrev pub told_ending : Told → ℕ → ℕ → Ending
told_ending Nothing most n = endings.Clean n
told_ending (NoHeader fault) most n = endings.Clean n
told_ending Cut most n = if n == most then endings.Bad n TooMany else endings.Cut n
told_ending (Bad reason) most n = if n == most then endings.Bad n TooMany else endings.Bad n reason

-- the fault where they end before a file header does
abbrev pub told_fault : Told → HeaderFault
told_fault Nothing = Short
told_fault (NoHeader fault) = fault
told_fault Cut = Short
told_fault (Bad reason) = Short

-- a source tells this, where it exposes its bytes
abbrev pub Tells : Option (List ℕ) → Told → Told → Type 0
Tells left value told = IfSome left (λ bytes. value ≡ told)

-- the word of a source stays, where it exposes its bytes
abbrev pub StaysTold : Option (List ℕ) → Told → Told → Type 0
StaysTold before old new = IfSome before (λ bytes. new ≡ old)
