use Rattle.std.proofs.Common.{sym}
use Rattle.transit_match.proofs.Stands.{found_none, found_some, place_missed, place_taken, stands_missed, stands_taken, with_none_taken, with_taken_at}
use Rattle.transit_match.proofs.waiting.Waiting.take.Goals as goal

pub returns-in_err-index-clause-place : goal.returns-in_err-index-clause-place
returns-in_err-index-clause-place g c = λ floor rows arrivals s h.
    rw c.from_residual.ensures
    (place_missed g.K.PartialEq.eq c.args.self.now.window floor c.args.self.now.queue.items rows arrivals _ (sym c.in_err-index.ensures) s h)

pub returns-in_err-index-clause-after : goal.returns-in_err-index-clause-after
returns-in_err-index-clause-after g c = λ floor rows arrivals s h.
    stands_missed g.K.PartialEq.eq c.args.self.now.window floor c.args.self.now.queue.items rows arrivals _ (sym c.in_err-index.ensures) s h

pub returns-clause-place : goal.returns-clause-place
returns-clause-place g c = λ floor rows arrivals s h.
    place_taken g.K.PartialEq.eq c.args.self.now.window floor c.args.self.now.queue.items rows arrivals _ c.in_ok-index.index
    c.index_mut-entry.result.now (sym c.in_ok-index.ensures) c.index_mut-entry.ensures.value s h

pub returns-clause-after : goal.returns-clause-after
returns-clause-after g c = λ floor rows arrivals s h.
    stands_taken g.K.PartialEq.eq c.args.self.now.window floor c.args.self.now.queue.items rows arrivals _ c.in_ok-index.index
    c.index_mut-entry.result.now (sym c.in_ok-index.ensures) c.index_mut-entry.ensures.value s h

pub returns-in_err-index-clause-found : goal.returns-in_err-index-clause-found
returns-in_err-index-clause-found g c =
    rw c.from_residual.ensures
    (found_none _ c.args.self.now.queue.items (sym c.in_err-index.ensures))

pub returns-in_err-index-clause-taken : goal.returns-in_err-index-clause-taken
returns-in_err-index-clause-taken g c = with_none_taken _ c.args.self.now.queue.items (sym c.in_err-index.ensures)

pub returns-clause-found : goal.returns-clause-found
returns-clause-found g c =
    found_some _ c.args.self.now.queue.items c.in_ok-index.index c.index_mut-entry.result.now (sym c.in_ok-index.ensures)
    c.index_mut-entry.ensures.value

pub returns-clause-taken : goal.returns-clause-taken
returns-clause-taken g c =
    with_taken_at _ c.args.self.now.queue.items c.in_ok-index.index c.index_mut-entry.result.now (sym c.in_ok-index.ensures)
    c.index_mut-entry.ensures.value
