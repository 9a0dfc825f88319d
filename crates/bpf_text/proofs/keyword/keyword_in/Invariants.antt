use Rattle.std.proofs.Common.{◌≡◌, drop, map}
use Rattle.bpf_text.specs.Keywords.{keyword_in}
use Rattle.bpf_text.proofs.keyword.keyword_in.Given as goal

abbrev pub invariant-loop-word : goal.invariant-loop-word
invariant-loop-word l = keyword_in (map (λ row. (row.0.now, row.1)) (drop l.word-index l.rows)) l.name ≡ keyword_in (map (λ row. (row.0.now, row.1)) l.rows) l.name
