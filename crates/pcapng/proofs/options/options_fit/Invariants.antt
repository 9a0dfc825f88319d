-- The place lies within the options, and those from there on decide.
use Rattle.std.proofs.Common.{◌≡◌, length, drop, ◌-◌, ◌≤◌}
use Rattle.pcapng.specs.Options.{fit, options_of}
use Rattle.pcapng.proofs.options.options_fit.Given as goal

abbrev pub invariant-loop-at : goal.invariant-loop-at
invariant-loop-at l = record {
  within : l.at ≤ length l.options;
  same : fit (options_of l.order (drop l.at l.options)) ≡ fit (options_of l.order l.options);
}

abbrev pub decreases-loop-at : goal.decreases-loop-at
decreases-loop-at l = length l.options - l.at
