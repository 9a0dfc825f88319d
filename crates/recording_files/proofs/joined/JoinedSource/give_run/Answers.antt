use Rattle.std.proofs.Common.{◌≡◌, [], ◌++◌, refl, take, ◌∙◌}
use Rattle.recording_files.specs.Handed.{body_of}
use Rattle.recording_files.specs.Input.{drawn_of}
use Rattle.recording_files.specs.Pending.{waiting_of}
use Rattle.recording_files.specs.declared.stage.FilesStage.TheVariants as stages
use Rattle.recording_files.proofs.Joining.{none_first, none_given, runs}
use Rattle.recording_files.proofs.joined.JoinedSource.give_run.Goals as goal

pub returns-clause-bytes : goal.returns-clause-bytes
returns-clause-bytes g c =
    let v = c.args.self.now in
    let run = c.move_run-run in
    let given : waiting_of v.pending ++ body_of v.stage (drawn_of run.new.input) ≡ [] =
    none_given v.stage (stages.Header c.args.layout) (waiting_of v.pending) (drawn_of run.new.input) c.requires.stage refl ∙ none_first _ _ c.requires.given in
    runs c.args.layout _ _ (take run.result.len run.new.buf) _ _ _ _ _ _ run.result.frames run.result.greatest c.requires.stage c.requires.given given c.requires.layout run.ensures.packets run.ensures.bytes run.ensures.told
