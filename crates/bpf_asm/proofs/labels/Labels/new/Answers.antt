use Rattle.std.proofs.Common.{◌≡◌, ◌+◌, ◌∙◌, map, sym, subst, None}
use Rattle.indexmap.proofs.CallerLemmas.{insert_entry-new}
use Rattle.bpf_text.specs.Meaning.{statement_of}
use Rattle.bpf_asm.proofs.Indices.{Progress, not_some, progress_none, progress_some}
use Rattle.bpf_asm.proofs.labels.Labels.new.Goals.{in-Some+in_ok-insert+else-is_some, in_default}
use Rattle.bpf_asm.proofs.labels.Labels.new.Goals as goal

pub loop-at-preserved : goal.loop-at-preserved
loop-at-preserved c = elim c.match-statement.branch [
  | in-Some+in_ok-insert+else-is_some w ↦ (
      let gone : w.in_ok-insert.field-0 ≡ None = not_some w.in_ok-insert.field-0 (sym w.is_some.ensures ∙ w.if-is_some.false) in
      let entries = w.in_ok-insert.ensures.entries ∙ insert_entry-new _ c.loop-at.indices w.in-Some.name c.loop-at.at (sym w.in_ok-insert.ensures.old ∙ gone) in
      subst (λ indices. Progress indices.entries (map statement_of c.args.statements.now) (c.loop-at.at + 1)) (sym w.indices-is)
      (subst (λ known. Progress known (map statement_of c.args.statements.now) (c.loop-at.at + 1)) (sym entries)
      (progress_some c.loop-at.indices.entries c.args.statements.now c.loop-at.at _ w.in-Some.name c.loop-at-test.true w.in-Some.is
      (sym w.in_ok-insert.ensures.old ∙ gone) c.loop-at.invariant)))
  | in_default w ↦ subst (λ indices. Progress indices.entries (map statement_of c.args.statements.now) (c.loop-at.at + 1)) (sym w.indices-is)
      (progress_none c.loop-at.indices.entries c.args.statements.now c.loop-at.at _ c.loop-at-test.true w.in_default.is c.loop-at.invariant)
]
