use Rattle.std.proofs.Common.{ℕ, ◌+◌, arith, drop, subst, sym, take}
use Rattle.std.proofs.lemmas.List.{length-drop, take_rest}
use Rattle.recording_files.specs.Run.{BeginsPassed, IsRun}
use Rattle.recording_files.proofs.Runs.{run_more, some_begins}
use Rattle.recording_files.proofs.run.run_of.Goals as goal

pub loop-len-preserved : goal.loop-len-preserved
loop-len-preserved c =
    let l = c.args.layout in
    let bytes = c.args.bytes.now in
    let from = c.loop-len.len in
    let len = c.in-Some.packet in
    let b : BeginsPassed l (drop from bytes) len c.in-Some.stamp = rw (take_rest bytes from) at c.in-Some.ensures in
    record {
      within = omega (arith, b.within, length-drop from bytes, c.loop-len.invariant.within);
      few = omega (arith, c.loop-len.invariant.few, some_begins l (drop from bytes) len c.in-Some.stamp b);
      run = subst (λ (n : ℕ). IsRun l (take (from + len) bytes) (c.loop-len.frames + 1) n) (sym c.max-greatest.ensures)
          (run_more l bytes from len c.loop-len.frames c.loop-len.greatest c.in-Some.stamp c.loop-len.invariant.within c.loop-len.invariant.run b);
    }
