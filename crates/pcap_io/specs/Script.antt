-- The calls of a device over memory, one by one, as its script says (this project's profile).
use Rattle.std.specs.Prelude.{ℕ, ◌+◌, ◌-◌, ◌^◌, min, max, Bool, false, ◌||◌, Option, Some, None, Result, Ok, Err, ◌==◌, if◌then◌else◌}
use Rattle.pcap_io.specs.declared.script.Script.{Script}
use Rattle.pcap_io.specs.declared.script.ScriptState.{ScriptState}
use Rattle.pcap_io.specs.declared.device.DeviceFault.{DeviceFault}

-- nothing has passed and no call was made
abbrev pub start_of : Script → ScriptState
start_of s = record { piece = s.piece; left = s.most; miss = s.miss; failures = 0 }

-- this call is the one that fails alone
abbrev pub is_miss : Option ℕ → Bool
is_miss None = false
is_miss (Some calls) = calls == 0

-- The next call fails: all that may pass has passed, or the script says so, or the count of failures is at its top.
abbrev pub fails : ScriptState → Bool
fails c = c.left == 0 || is_miss c.miss || c.failures == 2 ^ 64 - 1

-- how many of the bytes asked for the next call passes
abbrev pub passed_count : ScriptState → ℕ → ℕ
passed_count c asked = if fails c then 0 else min asked (min c.left (max c.piece 1))

-- the answer of the next call
abbrev pub answer_of : ScriptState → ℕ → Result ℕ DeviceFault
answer_of c asked = if fails c then Err (record {}) else Ok (passed_count c asked)

-- the calls before the one that fails alone, a call later
abbrev pub one_less : Option ℕ → Option ℕ
one_less None = None
one_less (Some calls) = if calls == 0 then None else Some (calls - 1)

-- after the next call
abbrev pub after_call : ScriptState → ℕ → ScriptState
after_call c asked = record {
  piece = c.piece;
  left = c.left - passed_count c asked;
  miss = one_less c.miss;
  failures = if fails c then min (c.failures + 1) (2 ^ 64 - 1) else c.failures;
}
