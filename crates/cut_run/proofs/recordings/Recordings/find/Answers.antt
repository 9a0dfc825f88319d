use Rattle.std.proofs.Common.{◌∙◌, Some, ap, refl, subst, sym}
use Rattle.std.proofs.lemmas.Bool.{false≢true}
use Rattle.afdx_frame.specs.declared.key.Network.TheVariants.{A, B}
use Rattle.cut_run.specs.Lines.{ComesLater, last_key}
use Rattle.cut_run.specs.Naming.{FloorWithin, opening_at}
use Rattle.cut_run.proofs.Naming.{named_a, named_b, part_read, stopped_a, stopped_b, when_err, when_ok}
use Rattle.cut_run.proofs.Order.{above}
use Rattle.cut_run.proofs.recordings.Recordings.find.Goals.{in-A, in-B}
use Rattle.cut_run.proofs.recordings.Recordings.find.Goals as goal

pub returns-then-not-comes_later : goal.returns-then-not-comes_later
returns-then-not-comes_later g c = λ a b vs fs fa fb h.
    record {
      frames_a = fa;
      frames_b = fb;
      read_a = part_read _ _ _ _ h.read_a;
      read_b = part_read _ _ _ _ h.read_b;
      rise = h.rise;
      named = h.named;
      why = (refl, λ later. false≢true (c.if-not-comes_later.ensures.1 (subst (λ k. ComesLater k c.args.line.now) (sym h.last) later)));
      a_failures = h.read_a.no_failure;
      b_failures = h.read_b.no_failure;
    }

pub returns-in-Ok : goal.returns-in-Ok
returns-in-Ok g c = λ a b vs fs fa fb h.
    (let v = c.args.line.now in
    let later = subst (λ k. ComesLater k v) h.last (c.if-not-comes_later.ensures.0 refl) in
    elim c.match-line.branch [
      | in-A w ↦
          named_a g.S.TapSource g.T.TapSource a b vs fs fa fb c.args.self.now c.match-line.self v c.in-Ok.frame h w.in-A.is later
          (rw w.self-is (when_ok w.find-found.result _ _ c.in-Ok.frame (sym w.found-is ∙ c.in-Ok.is)
          (rw c.from-index.ensures at (w.find-found.ensures.found (opening_at A a) fa h.floor_a h.read_a
          (rw c.from-index.ensures (above h.floor_a (last_key vs) v (subst (λ n. FloorWithin n h.floor_a (last_key vs)) (sym w.in-A.is) h.within_a) later))))))
          (rw w.self-is refl) (rw w.self-is (ap (λ k. Some k) c.key_of.ensures))
      | in-B w ↦
          named_b g.S.TapSource g.T.TapSource a b vs fs fa fb c.args.self.now c.match-line.self v c.in-Ok.frame h w.in-B.is later
          (rw w.self-is (when_ok w.find-found-in-B.result _ _ c.in-Ok.frame (sym w.found-is ∙ c.in-Ok.is)
          (rw c.from-index.ensures at (w.find-found-in-B.ensures.found (opening_at B b) fb h.floor_b h.read_b
          (rw c.from-index.ensures (above h.floor_b (last_key vs) v (subst (λ n. FloorWithin n h.floor_b (last_key vs)) (sym w.in-B.is) h.within_b) later))))))
          (rw w.self-is refl) (rw w.self-is (ap (λ k. Some k) c.key_of.ensures))
    ])

pub returns-in-Err : goal.returns-in-Err
returns-in-Err g c = λ a b vs fs fa fb h.
    (let v = c.args.line.now in
    let later = subst (λ k. ComesLater k v) h.last (c.if-not-comes_later.ensures.0 refl) in
    rw c.name_fault.ensures (elim c.match-line.branch [
      | in-A w ↦
          stopped_a g.S.TapSource g.T.TapSource a b vs fs fa fb c.args.self.now c.match-line.self v c.args.number c.in-Err.fault h w.in-A.is
          (rw w.self-is (when_err w.find-found.result _ _ c.in-Err.fault (sym w.found-is ∙ c.in-Err.is)
          (rw c.from-index.ensures at (w.find-found.ensures.found (opening_at A a) fa h.floor_a h.read_a
          (rw c.from-index.ensures (above h.floor_a (last_key vs) v (subst (λ n. FloorWithin n h.floor_a (last_key vs)) (sym w.in-A.is) h.within_a) later))))))
          (rw w.self-is refl)
      | in-B w ↦
          stopped_b g.S.TapSource g.T.TapSource a b vs fs fa fb c.args.self.now c.match-line.self v c.args.number c.in-Err.fault h w.in-B.is
          (rw w.self-is (when_err w.find-found-in-B.result _ _ c.in-Err.fault (sym w.found-is ∙ c.in-Err.is)
          (rw c.from-index.ensures at (w.find-found-in-B.ensures.found (opening_at B b) fb h.floor_b h.read_b
          (rw c.from-index.ensures (above h.floor_b (last_key vs) v (subst (λ n. FloorWithin n h.floor_b (last_key vs)) (sym w.in-B.is) h.within_b) later))))))
          (rw w.self-is refl)
    ]))
