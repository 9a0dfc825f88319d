use Rattle.std.proofs.Common.{ap, ◌∙◌, arith, get_or}
use Rattle.std.specs.Char.{to_ascii_lowercase}
use Rattle.bpf_text.specs.Keywords.{keyword_in}
use Rattle.bpf_text.proofs.Keywords.{name_keyword, empty_keyword}
use Rattle.bpf_text.proofs.keyword.keyword_of.Goals as goal

pub returns-in-empty : goal.returns-in-empty
returns-in-empty c = empty_keyword c.args.name.now (omega arith)

pub returns-in-len1-up : goal.returns-in-len1-up
returns-in-len1-up c =
    c.keyword_in.ensures ∙ ap (λ rows. keyword_in rows c.args.name.now) c.keywords_with.ensures
    ∙ name_keyword c.args.name.now c.to_ascii_lowercase.result (omega arith) (c.to_ascii_lowercase.ensures.value ∙ ap (λ bs. to_ascii_lowercase (get_or bs 0 0)) c.as_bytes.ensures.value)
