use Rattle.std.proofs.Common.{rules, ◌≡◌, ℕ, ◌+◌, ◌-◌, ◌++◌, min, List, length, take, drop, sym, ap, ◌∙◌, arith}
use borrow.Rule.Slice.PartMut.{put_mid}
use Rattle.pcap_io.proofs.Transfers.{take-read}
use Rattle.pcapng.proofs.Handed.{two_given}
use Rattle.recording_files.specs.Handed.{body_of}
use Rattle.recording_files.specs.Input.{drawn_of, left_of, tells_of}
use Rattle.recording_files.specs.Pending.{waiting_of}
use Rattle.recording_files.proofs.Joining.{gives}
use Rattle.recording_files.proofs.joined.JoinedSource.give.Goals as goal

pub returns-clause-bytes : goal.returns-clause-bytes
returns-clause-bytes g c =
    let v = c.args.self.now in
    let h = c.give-header.result in
    let b = c.give_body.result in
    let hs = waiting_of v.pending in
    let bs = body_of v.stage (drawn_of v.input) in
    let first = c.give-header.new.buf in
    let second = c.give_body.new.buf in
    let room : length second ≡ length first - h = search rules in
    let fh : h ≡ min (length hs) (length first) = c.give-header.ensures.count in
    let fb : b ≡ min (length bs) (length first - h) = c.give_body.ensures.count ∙ ap (λ (n : ℕ). min (length bs) n) room in
    let text = put_mid h (length first - h) first second in
    let taken : take (h + b) text ≡ take h hs ++ take b bs =
    take-read h b (length first - h) first second (omega (arith, fh)) (omega (arith, fb, room))
    ∙ (ap (λ (l : List ℕ). l ++ take b second) c.give-header.ensures.bytes ∙ ap (λ (l : List ℕ). take h hs ++ l) c.give_body.ensures.bytes) in
    let given = c.give_body.ensures.given in
    let left : waiting_of c.give_body.new.self.pending ≡ drop h hs = ap waiting_of given.pending ∙ c.give-header.ensures.left in
    gives (take (h + b) text) _ _ _ _ _ _ _ _ _ _
    (two_given h b (length first) hs bs fh fb
    ∙ (ap (λ (l : List ℕ). l ++ (drop h hs ++ drop b bs)) (sym taken)
    ∙ (ap (λ (l : List ℕ). take (h + b) text ++ (l ++ drop b bs)) (sym left)
    ∙ ap (λ (l : List ℕ). take (h + b) text ++ (waiting_of c.give_body.new.self.pending ++ l)) (sym given.body))))
    (ap (left_of g.F.TapSource.remaining) given.input) (ap (tells_of g.F.TapSource.told) given.input) (ap g.P.FileSupply.files given.supply) given.rest
