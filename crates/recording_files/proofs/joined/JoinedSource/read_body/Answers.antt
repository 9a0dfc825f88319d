use Rattle.std.proofs.Common.{rules, ℕ, List, ◌++◌, ap}
use Rattle.recording_files.specs.Input.{drawn_of, tells_of}
use Rattle.recording_files.proofs.Joining.{bodies, bodies_cut, none_first}
use Rattle.recording_files.proofs.joined.JoinedSource.read_body.Goals as goal

pub returns-then-branch-clause-kept : goal.returns-then-branch-clause-kept
returns-then-branch-clause-kept g c =
    bodies c.args.packet _ _ _ _ _ _ _ _ (drawn_of c.draw.new.input) c.requires.stage c.requires.given (ap (λ (t : List ℕ). t ++ drawn_of c.draw.new.input) (none_first _ _ c.requires.given))
    (c.in_ok-draw.ensures.complete (search rules)) c.in_ok-draw.ensures.bytes c.draw.ensures.told

pub returns-else-branch-clause-kept : goal.returns-else-branch-clause-kept
returns-else-branch-clause-kept g c =
    let short = c.in_ok-draw.ensures.short (search rules) in
    bodies_cut c.args.packet _ _ _ _ (tells_of g.F.TapSource.told c.draw.new.input) _ _ _ (drawn_of c.draw.new.input) c.requires.stage c.requires.given (ap (λ (t : List ℕ). t ++ drawn_of c.draw.new.input) (none_first _ _ c.requires.given))
    short.0 short.1 c.in_ok-draw.ensures.bytes
