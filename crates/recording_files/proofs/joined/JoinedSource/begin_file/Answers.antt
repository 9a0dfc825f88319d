use Rattle.std.proofs.Common.{rules, refl, ◌∙◌}
use Rattle.recording_files.specs.Input.{drawn_of, tells_of}
use Rattle.recording_files.specs.Pending.{waiting_of}
use Rattle.recording_files.specs.declared.stage.FilesStage.TheVariants as stages
use Rattle.recording_files.proofs.Joining.{begins_wrong, none_first, none_given}
use Rattle.recording_files.proofs.joined.JoinedSource.begin_file.Goals as goal

pub returns-in-Err-clause-kept : goal.returns-in-Err-clause-kept
returns-in-Err-clause-kept g c =
    let v = c.args.self.now in
    let told = c.no_header.result in
    begins_wrong c.args.place c.in-Err.fault told _ _ _ _ (tells_of g.F.TapSource.told c.read_file_header.new.input) _ _ _ c.requires.stage c.requires.given
    (none_given (stages.Ended told) (stages.Ended told) (waiting_of v.pending) (drawn_of c.read_file_header.new.input) refl refl ∙ none_first _ _ c.requires.given)
    c.no_header.ensures (rw c.in-Err.is at c.in_ok-layout.ensures.read)
