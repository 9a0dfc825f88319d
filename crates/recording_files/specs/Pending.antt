-- A header that is given, as contracts see it.
use Rattle.std.specs.Prelude.{ℕ, List, slice_range}
use Rattle.recording_files.specs.declared.pending.Pending.{Pending}

-- all that is left of it
abbrev pub waiting_of : Pending → List ℕ
waiting_of p = slice_range p.header p.from p.to
