-- The bytes so far are all that is gone.
use Rattle.std.proofs.Common.{◌≡◌, ◌+◌, ◌-◌, ◌≤◌, length}
use Rattle.std.specs.Io.KnownBytes.{Consumes}
use Rattle.run_inputs.specs.Text.{max_text}
use Rattle.run_inputs.proofs.text.read_bytes.Given as goal

abbrev pub invariant-loop-len : goal.invariant-loop-len
invariant-loop-len g l = record {
  bytes : Consumes (g.S.TapSource.remaining l.fn.source) (g.S.TapSource.remaining l.source) l.bytes.items;
  len : length l.bytes.items ≡ l.len;
  few : l.len ≤ max_text + 1;
  failures : g.S.TapSource.failures l.source ≡ g.S.TapSource.failures l.fn.source;
}

abbrev pub decreases-loop-len : goal.decreases-loop-len
decreases-loop-len g l = max_text + 2 - l.len
