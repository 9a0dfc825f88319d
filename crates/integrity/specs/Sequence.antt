-- Integrity checking, over the list of the sequence numbers that reached it on one link and one network, in the order of time.
-- That a sender counts 0 after a reset, then 1 to 255 and again from 1, and that the next number and the one after it are
-- accepted, is ARINC 664 Part 7. All else is this project's profile.
use Rattle.std.specs.Prelude.{◌≡◌, ℕ, zero, suc, ◌+◌, Bool, true, false, List, length, Option, Some, None, ◌==◌, if◌then◌else◌, slice_get, slice_index}
use Rattle.integrity.specs.declared.verdict.Integrity.{Integrity}
use Rattle.integrity.specs.declared.verdict.Integrity.TheVariants.{First, Reset, Next, Skip, Off, Out}

-- the number that a sender gives to the frame after
abbrev pub next_number : ℕ → ℕ
next_number number = if number == 255 then 1 else number + 1

-- the nearest earlier number than that at an index
abbrev pub number_before : List ℕ → ℕ → Option ℕ
number_before numbers zero = None
number_before numbers (suc index) = slice_get numbers index

-- a number against the nearest earlier one
abbrev pub verdict_against : Option ℕ → ℕ → Integrity
verdict_against None number = First
verdict_against (Some before) number =
    if number == 0 then Reset
    else (if number == next_number before then Next
    else (if number == next_number (next_number before) then Skip
    else Out))

-- the verdict of the number at an index, where the link has integrity checking on or off
abbrev pub verdict_at : Bool → List ℕ → ℕ → Integrity
verdict_at on numbers index = if on then verdict_against (number_before numbers index) (slice_index numbers index) else Off

-- redundancy management sees the frame
abbrev pub is_valid : Integrity → Bool
is_valid Out = false
is_valid First = true
is_valid Reset = true
is_valid Next = true
is_valid Skip = true
is_valid Off = true

-- A check stands so after these numbers: it knows the last of them. The list holds every number of the link and network so far.
abbrev pub StandsAfter : Option ℕ → List ℕ → Type 0
StandsAfter last numbers = last ≡ number_before numbers (length numbers)
