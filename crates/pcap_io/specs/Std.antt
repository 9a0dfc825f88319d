-- The answers of a device over a reader or a writer of std, by what the call of std returned.
use Rattle.std.specs.Prelude.{ℕ, ◌+◌, ◌-◌, ◌^◌, min, ◌&&◌, Result, Ok, Err, nat_lt, ◌==◌, if◌then◌else◌}
use Rattle.pcap_io.specs.declared.device.DeviceFault.{DeviceFault}

-- a count stays, and an error is a failure
abbrev pub read_answer : {E : Type 0} → Result ℕ E → Result ℕ DeviceFault
read_answer (Ok n) = Ok n
read_answer (Err e) = Err (record {})

-- A call that took none of some bytes is a failure too.
abbrev pub write_answer : {E : Type 0} → ℕ → Result ℕ E → Result ℕ DeviceFault
write_answer asked (Ok n) = if n == 0 && nat_lt 0 asked then Err (record {}) else Ok n
write_answer asked (Err e) = Err (record {})

-- how often a device has failed, once it gave this answer
abbrev pub failures_after : ℕ → Result ℕ DeviceFault → ℕ
failures_after failures (Ok n) = failures
failures_after failures (Err fault) = min (failures + 1) (2 ^ 64 - 1)
