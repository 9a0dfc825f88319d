use Rattle.std.proofs.Common.{rules, ◌+◌, ◌∷◌, ◌∙◌, ap, sym, drop}
use Rattle.std.proofs.lemmas.List.{drop_all}
use Rattle.watch_run.specs.declared.shared.ChunkEntries.{ChunkEntries}
use Rattle.watch_run.proofs.Gathering.{gathers_all, gathers_more, gathers_none}
use Rattle.run_fault.proofs.Lists.{drop_next}
use Rattle.watch_run.proofs.entries.Entries.gather.Goals as goal

pub loop-chunk-init : goal.loop-chunk-init
loop-chunk-init c = λ ps frames verdicts size are. gathers_none ps frames verdicts size _ _ are c.clear.ensures

pub loop-chunk-preserved : goal.loop-chunk-preserved
loop-chunk-preserved c = λ ps frames verdicts size are.
    gathers_more ps frames verdicts size _ _ c.chunk-item.result _ _ are.judged
    (drop_next c.args.chunks.now c.loop-chunk.chunk-index c.chunk-item.result c.loop-chunk-test.true ∙ ap (λ (one : ChunkEntries). one ∷ drop (c.loop-chunk.chunk-index + 1) c.args.chunks.now) (sym c.chunk-item.is))
    (search rules) c.in_ok-append.ensures (c.loop-chunk.invariant ps frames verdicts size are)

pub returns : goal.returns
returns c = λ ps frames verdicts size are.
    gathers_all ps frames verdicts size _ _ are.judged (drop_all c.loop-chunk.chunk-index c.args.chunks.now c.loop-chunk-test.false) (c.loop-chunk.invariant ps frames verdicts size are)
