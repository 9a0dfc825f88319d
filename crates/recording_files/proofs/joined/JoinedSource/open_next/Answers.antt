use Rattle.std.proofs.Common.{rules, Some, refl, ap, ◌∙◌}
use Rattle.recording_files.specs.Input.{drawn_of, tells_of}
use Rattle.recording_files.specs.Pending.{waiting_of}
use Rattle.recording_files.specs.declared.joined.JoinedSource.{JoinedSource}
use Rattle.recording_files.specs.declared.stage.FilesStage.TheVariants as stages
use Rattle.recording_files.proofs.Joining.{none_ahead, none_first, none_given, opens}
use Rattle.recording_files.proofs.joined.JoinedSource.open_next.Goals as goal

pub returns-in-Some-default-clause-kept : goal.returns-in-Some-default-clause-kept
returns-in-Some-default-clause-kept g c =
    let v = c.args.self.now in
    let file = c.in-Some-default.file in
    opens g.F.TapSource.remaining g.F.TapSource.told file c.args.place _ _ _ (tells_of g.F.TapSource.told v.input) _ _ _ _ _ c.requires.stage
    (none_ahead _ _ c.new.ensures.unread ∙ ap g.F.TapSource.remaining c.new.ensures.source) (ap g.F.TapSource.told c.new.ensures.source)
    (rw (c.in-Some-default.is-0, c.take_read-last.ensures.left) at c.in_ok-file.ensures.next) c.requires.given
    (none_given (stages.FileHeader c.args.place) (stages.FileHeader c.args.place) (waiting_of c.take_read-last.new.self.pending) (drawn_of (Some c.new.result)) refl refl
    ∙ (ap (λ (j : JoinedSource g.row.P.Denot g.row.F.Denot). waiting_of j.pending) c.take_read-last.ensures.left ∙ none_first _ _ c.requires.given))
