-- A run would be sound (this project's profile) if nothing is refused, no recording is left in its middle, and no question is asked.
use Rattle.std.specs.Prelude.{ℕ, ◌+◌, Bool, ◌==◌}
use Rattle.check_answer.specs.declared.verdict.Verdict.{Verdict}

abbrev pub is_sound : Verdict → Bool
is_sound verdict = verdict.faults + verdict.questions == 0
