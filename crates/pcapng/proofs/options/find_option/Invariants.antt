-- The place lies within the options, and what is wanted is found from there on.
use Rattle.std.proofs.Common.{◌≡◌, length, drop, ◌-◌, ◌≤◌}
use Rattle.pcapng.specs.Options.{options_of, value_of}
use Rattle.pcapng.proofs.options.find_option.Given as goal

abbrev pub invariant-loop-at : goal.invariant-loop-at
invariant-loop-at l = record {
  within : l.at ≤ length l.options;
  same : value_of l.code (options_of l.order (drop l.at l.options)) ≡ value_of l.code (options_of l.order l.options);
}

abbrev pub decreases-loop-at : goal.decreases-loop-at
decreases-loop-at l = length l.options - l.at
