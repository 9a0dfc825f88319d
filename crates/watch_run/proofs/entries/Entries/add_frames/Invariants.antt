-- The frames before the index were added.
use Rattle.std.proofs.Common.{◌≡◌, map, take}
use Rattle.filter_workers.specs.Filters.{mask_by}
use Rattle.watch_run.specs.Filters.{keep_by, making_of, packets_of}
use Rattle.verdict_ledger.specs.Entry.{entries_of}
use Rattle.watch_run.proofs.entries.Entries.add_frames.Given as goal

abbrev pub invariant-loop-index : goal.invariant-loop-index
invariant-loop-index l = record {
  keeps : l.self.keeps.items ≡ map (keep_by l.plan.programs.now) (take l.index l.frames);
  masks : l.self.masks.items ≡ map (mask_by l.plan.programs.now) (take l.index l.frames);
  packets : l.self.packets.items ≡ packets_of (making_of l.plan).format
      (entries_of (take l.index l.frames) (take l.index l.verdicts) l.self.keeps.items l.self.masks.items);
  lines : l.self.lines ≡ l.initial.self.lines;
}
