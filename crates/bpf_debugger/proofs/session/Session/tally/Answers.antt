use Rattle.std.proofs.Common.{◌≡◌, ◌-◌, length, ap, ◌∙◌, not}
use Rattle.std.specs.Prelude.{count_by}
use Rattle.bpf_debugger.proofs.Sessions.{count_others}
use Rattle.bpf_debugger.specs.declared.reply.Reply.TheVariants as reply
use Rattle.bpf_debugger.specs.Debugging.{accepts}
use Rattle.bpf_debugger.proofs.session.Session.tally.Goals as goal

pub returns : goal.returns
returns c =
    let p = c.self.inside.program in
    let frames = c.self.inside.frames.items in
    let few : c.count_accepted-accepted.result ≡ count_by (accepts p) frames = c.count_accepted-accepted.ensures ∙ ap (count_by (accepts p)) c.as_slice-frames.ensures.value in
    let all : length c.as_slice-frames.result.now ≡ length frames = ap length c.as_slice-frames.ensures.value in
    let others : length frames - count_by (accepts p) frames ≡ count_by (λ frame. not (accepts p frame)) frames = count_others (accepts p) frames in
    let rest : length c.as_slice-frames.result.now - c.count_accepted-accepted.result ≡ count_by (λ frame. not (accepts p frame)) frames = ap (λ n. n - c.count_accepted-accepted.result) all ∙ ap (λ n. length frames - n) few ∙ others in
    let left : reply.Tally c.count_accepted-accepted.result (length c.as_slice-frames.result.now - c.count_accepted-accepted.result) ≡ reply.Tally (count_by (accepts p) frames) (length c.as_slice-frames.result.now - c.count_accepted-accepted.result) =
    ap (λ n. reply.Tally n (length c.as_slice-frames.result.now - c.count_accepted-accepted.result)) few in
    rw (← c.self.view_is) (left ∙ ap (λ n. reply.Tally (count_by (accepts p) frames) n) rest)
